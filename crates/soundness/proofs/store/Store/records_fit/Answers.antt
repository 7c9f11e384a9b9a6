use Rattle.std.proofs.Common.{arith}
use Rattle.std.proofs.lemmas.Grind.{common_steps}
use Rattle.soundness.proofs.Rests.{records_first, counted_first}
use Rattle.soundness.proofs.store.Store.records_fit.Goals as goal

pub loop-x-preserved : goal.loop-x-preserved
loop-x-preserved c = (grind (arith, common_steps), grind (arith, records_first), grind (arith, counted_first))
