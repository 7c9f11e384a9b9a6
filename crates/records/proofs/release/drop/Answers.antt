-- Assumes nothing.
use Rattle.records.specs.DroppedLaws.{here-droppable}
use Rattle.std.proofs.Common.{rules}
use Rattle.records.proofs.release.drop.Goals as goal

pub unlink-requires : goal.unlink-requires
unlink-requires c = here-droppable c.requires.0 _ (search rules) _ c.requires.1
