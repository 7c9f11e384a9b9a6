use Rattle.link.proofs.Runs.{ends-min}
use Rattle.link.proofs.entry.first_end.Goals as goal

pub returns : goal.returns
returns c = ends-min _ _ _ c.entry_end.ensures c.min.ensures
