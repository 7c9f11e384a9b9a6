use Rattle.link.proofs.Runs.{entry-end}
use Rattle.link.proofs.entry.entry_end.Goals as goal

pub returns : goal.returns
returns c = entry-end c.args.run.now c.byte.result c.byte-2.result c.byte.ensures.0 c.byte-2.ensures.0
