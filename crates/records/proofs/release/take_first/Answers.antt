-- Assumes nothing.
use Rattle.std.proofs.Common.{rules, ◌∙◌}
use Rattle.records.specs.DroppedLaws.{unlinked-takes}
use Rattle.records.proofs.release.take_first.Goals as goal

pub returns : goal.returns
returns c = c.unlink.ensures ∙ unlinked-takes _ (search rules) c.requires
