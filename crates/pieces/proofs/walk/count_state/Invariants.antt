-- The invariant: those that were found and those of the rest are those of all, and no more than were passed. Assumes nothing.
use Prim.Native.Nat.{◌+◌, ◌≤◌}
use mathlib.Core.Path.{◌≡◌}
use lib.ListN.{length}
use Rattle.soundness.specs.Places.{pieces_left}
use Rattle.pieces.proofs.Walks.{state_count}
use Rattle.pieces.proofs.walk.count_state.Given as goal

abbrev pub invariant-loop-piece : goal.invariant-loop-piece
invariant-loop-piece l =
    let all = pieces_left l.fn.pieces in
    let rest = pieces_left l.piece-iterator in
    (goal.iterator-loop-piece).can_next l.piece-iterator × (goal.iterator-loop-piece).is_finite l.piece-iterator
    × (l.found + state_count l.state rest ≡ state_count l.state all) × (l.found + length rest ≤ length all)
