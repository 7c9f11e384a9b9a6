-- The invariant: what is asked of the rest of the pieces is what is asked of all, and they are all but those that are counted. Assumes nothing.
use Prim.Native.Nat.{◌+◌, ◌*◌, ◌≤◌}
use mathlib.Core.Path.{◌≡◌}
use lib.ListN.{length}
use Rattle.soundness.specs.Walked.{pieces_fit}
use Rattle.soundness.specs.Places.{pieces_left}
use Rattle.soundness.proofs.Rests.{rest_fits}
use Rattle.soundness.proofs.pieces.Pieces.fit.Given as goal

abbrev pub invariant-loop-piece : goal.invariant-loop-piece
invariant-loop-piece l =
    let all = pieces_left l.initial.piece-iterator in
    let rest = pieces_left l.piece-iterator in
    (goal.iterator-loop-piece).can_next l.piece-iterator × (goal.iterator-loop-piece).is_finite l.piece-iterator
    × (rest_fits l.kind l.slots l.total l.low l.count l.sum l.left l.cut rest ≡ pieces_fit l.kind l.slots l.total all)
    × (l.count + length rest ≡ length all) × (l.sum ≤ 65536 * l.count) × (l.low ≤ 256)
