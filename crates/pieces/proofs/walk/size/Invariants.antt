-- The invariant: the sum and what the rest has are what all have, and the sum stays small. Assumes nothing.
use Prim.Native.Nat.{◌+◌, ◌*◌, ◌≤◌}
use mathlib.Core.Path.{◌≡◌}
use lib.ListN.{length}
use Rattle.machine.specs.Sound.{sizes}
use Rattle.soundness.specs.Places.{pieces_left}
use Rattle.pieces.proofs.walk.size.Given as goal

abbrev pub invariant-loop-piece : goal.invariant-loop-piece
invariant-loop-piece l =
    let all = pieces_left l.fn.pieces in
    let rest = pieces_left l.piece-iterator in
    (goal.iterator-loop-piece).can_next l.piece-iterator × (goal.iterator-loop-piece).is_finite l.piece-iterator
    × (l.sum + sizes rest ≡ sizes all) × (l.sum + 65536 * length rest ≤ 65536 * length all)
