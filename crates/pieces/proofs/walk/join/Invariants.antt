-- The invariant: the rest, joined behind what is there, gives what all give. Assumes nothing.
use Prim.Native.Nat.{◌+◌}
use mathlib.Core.Path.{◌≡◌}
use lib.ListN.{length}
use Rattle.octets.specs.Octets.{put}
use Rattle.machine.specs.Pieces.{joined}
use Rattle.machine.specs.Sound.{sizes}
use Rattle.soundness.specs.Places.{pieces_left}
use Rattle.pieces.proofs.walk.join.Given as goal

abbrev pub invariant-loop-piece : goal.invariant-loop-piece
invariant-loop-piece l =
    let all = pieces_left l.fn.pieces in
    let rest = pieces_left l.piece-iterator in
    (goal.iterator-loop-piece).can_next l.piece-iterator × (goal.iterator-loop-piece).is_finite l.piece-iterator
    × (length l.out ≡ length l.initial.out) × (l.at + sizes rest ≡ sizes all)
    × (put l.out l.at (joined rest) ≡ put l.initial.out 0 (joined all))
