-- Assumes nothing.
use native.Mathlib.Omega.{arith}
use Rattle.records.proofs.Clears.{frees-on}
use Rattle.records.proofs.clear.free_cells.Goals as goal

pub loop-n-preserved : goal.loop-n-preserved
loop-n-preserved c = frees-on c.loop-n.invariant (omega arith) _ _ c.if-place-eq0.false c.free_cell-place.ensures.0 c.free_cell-place.ensures.1
