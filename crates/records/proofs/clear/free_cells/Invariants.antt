-- The invariant: freeing goes on from the cell that is reached, in the store as it is then. Assumes nothing.
use Rattle.records.proofs.Clears.{Freeing}
use Rattle.records.proofs.clear.free_cells.Given as goal

abbrev pub invariant-loop-n : goal.invariant-loop-n
invariant-loop-n l = Freeing l.end l.first l.initial.store l.store l.place l.n
