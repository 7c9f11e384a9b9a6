use Rattle.link.proofs.Runs.{behind_place}
use Rattle.link.proofs.entry.frame_of.Goals as goal

pub returns : goal.returns
returns c = behind_place c.args.e.now 34 _ c.min.ensures
