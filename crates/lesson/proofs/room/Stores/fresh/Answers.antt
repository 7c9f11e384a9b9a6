use Rattle.std.proofs.Common.{refl}
use Rattle.lesson.proofs.Shows.{store-fresh}
use Rattle.lesson.proofs.room.Stores.fresh.Goals as goal

pub returns : goal.returns
returns c = (store-fresh _ 1 _ c.setup.ensures refl, store-fresh _ 2 _ c.setup-2.ensures refl)
