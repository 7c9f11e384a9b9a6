-- The turn that is read is that of the next piece. Assumes nothing.
use native.Mathlib.Omega.{arith}
use Rattle.octets.specs.Octets.{capacity}
use Rattle.outbox.proofs.Going.{going_start, going_more}
use Rattle.outbox.proofs.due.send_due.Goals as goal

pub loop-turn-init : goal.loop-turn-init
unfolding capacity
loop-turn-init c =
    let r = c.at-record.ensures in
    going_start r.1 (rw r.0 at c.label-label.ensures) (omega (arith, c.ranges.clock)) (rw r.0 at c.choose-line.ensures) c.requires.1

pub send_piece-requires : goal.send_piece-requires
send_piece-requires c = c.loop-turn.invariant.next c.loop-turn-test.true c.in-Some.turn c.in-Some.is

pub loop-turn-preserved : goal.loop-turn-preserved
loop-turn-preserved c = going_more c.loop-turn.invariant c.loop-turn-test.true c.in-Some.is c.send_piece.ensures
