use Rattle.link.proofs.Runs.{part_between}
use Rattle.link.proofs.entry.part.Goals as goal

pub returns : goal.returns
returns c = part_between c.args.s.now c.args.a c.args.n _ _ c.min.ensures c.min-2.ensures
