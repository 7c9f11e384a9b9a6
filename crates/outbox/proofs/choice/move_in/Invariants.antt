-- The invariant: what was there at a place is still to go in before the rest. Assumes nothing.
use Rattle.outbox.proofs.Lines.{Moving}
use Rattle.outbox.proofs.choice.move_in.Given as goal

abbrev pub invariant-loop-i : goal.invariant-loop-i
invariant-loop-i l = Moving l.initial.line l.at l.initial.moved l.line l.moved l.i
