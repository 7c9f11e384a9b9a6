-- The invariant: the line with the rest is the line with all. Assumes nothing.
use mathlib.Core.Path.{◌≡◌}
use lib.ListN.{length}
use Rattle.machine.specs.Choice.{waiting, most_sent}
use Rattle.soundness.specs.Places.{pieces_left}
use Rattle.outbox.specs.Left.{record_of}
use Rattle.outbox.specs.Line.{line_of}
use Rattle.outbox.proofs.Choosing.{lined}
use Rattle.outbox.proofs.record.Leaving.choose.Given as goal

abbrev pub invariant-loop-piece : goal.invariant-loop-piece
invariant-loop-piece l =
    let rest = pieces_left l.piece-iterator in
    (goal.iterator-loop-piece).can_next l.piece-iterator × (goal.iterator-loop-piece).is_finite l.piece-iterator
    × (length l.line ≡ most_sent) × (lined l.clock l.line rest ≡ line_of (waiting l.clock (record_of l.fn.self).cells))
