-- The invariant: some of the chosen pieces were sent, and the others are left. Assumes nothing.
use Rattle.outbox.proofs.Going.{Going}
use Rattle.outbox.proofs.due.send_due.Given as goal

abbrev pub invariant-loop-turn : goal.invariant-loop-turn
invariant-loop-turn l = Going l.initial.send l.link l.label l.clock l.turn-items l.initial.run l.send l.run l.sent.end l.sent.pieces l.turn-index
