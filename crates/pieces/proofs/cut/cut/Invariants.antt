-- The invariant: what is left of the data, laid into what is left of the free cells, gives the whole. Assumes nothing.
use Prim.Native.Nat.{◌*◌}
use Rattle.machine.specs.Limits.{cut_by}
use Rattle.pieces.proofs.Cuts.{Cutting}
use Rattle.pieces.proofs.cut.cut.Given as goal

abbrev pub invariant-loop-index : goal.invariant-loop-index
invariant-loop-index l = Cutting l.initial.store l.bytes l.store l.free l.index (cut_by * l.index)
