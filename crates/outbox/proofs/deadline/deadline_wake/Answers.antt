-- The first wake, and the second. Assumes nothing.
use mathlib.Core.Path.{sym, ◌∙◌}
use Rattle.outbox.proofs.Wakes.{deadline_again, deadline_first}
use Rattle.outbox.proofs.deadline.deadline_wake.Goals as goal

pub returns-then-is_late : goal.returns-then-is_late
returns-then-is_late c =
    let r = c.at-record.ensures in
    deadline_again r.1 (sym (rw r.0 at c.is_late.ensures) ∙ c.if-is_late.true) c.drop.ensures

pub returns : goal.returns
returns c =
    let r = c.at-record.ensures in
    deadline_first r.1 (sym (rw r.0 at c.is_late.ensures) ∙ c.if-is_late.false) (rw r.0 at c.put_aborted-end.ensures) c.time_out.ensures
