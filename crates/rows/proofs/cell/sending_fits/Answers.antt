-- Stamp and state, by role. Assumes nothing.
use borrow.Author.Tests.{eq-eqb, ne_eqb}
use Rattle.machine.specs.Layout.{cell_of}
use Rattle.rows.proofs.cell.sending_fits.Goals as goal

pub returns-then-role-eq-RECEIVE : goal.returns-then-role-eq-RECEIVE
unfolding cell_of
returns-then-role-eq-RECEIVE c = rw (eq-eqb _ 1 c.if-role-eq-RECEIVE.true, c.read-stamp.ensures.0)

pub returns : goal.returns
unfolding cell_of
returns c = rw (ne_eqb _ 1 c.if-role-eq-RECEIVE.false, c.read-stamp.ensures.0)
