-- Each way is one of the send wake's. Assumes nothing.
use native.Mathlib.Omega.{arith}
use mathlib.Core.Path.{sym, ◌∙◌}
use Rattle.outbox.specs.WokenLaws.{woke_late, woke_init, woke_progress, woke_settled}
use Rattle.outbox.proofs.wake.send_wake.Goals as goal

pub returns-then-is_late : goal.returns-then-is_late
returns-then-is_late c =
    let r = c.at-record.ensures in
    woke_late r.1 _ (sym (rw r.0 at c.is_late.ensures) ∙ c.if-is_late.true)

pub returns-in-0 : goal.returns-in-0
returns-in-0 c =
    let r = c.at-record.ensures in
    woke_init r.1 _ (sym (rw r.0 at c.is_late.ensures) ∙ c.if-is_late.false) (sym (rw r.0 at c.state.ensures) ∙ c.in-0.is)
    (rw r.0 at c.put_init.ensures)

pub returns-in-1 : goal.returns-in-1
returns-in-1 c =
    let r = c.at-record.ensures in
    woke_progress r.1 _ (sym (rw r.0 at c.is_late.ensures) ∙ c.if-is_late.false) (sym (rw r.0 at c.state.ensures) ∙ c.in-1.is) c.progress.ensures

pub returns-in_default : goal.returns-in_default
returns-in_default c =
    let r = c.at-record.ensures in
    let state = rw r.0 at c.state.ensures in
    woke_settled r.1 _ (sym (rw r.0 at c.is_late.ensures) ∙ c.if-is_late.false) (λ e. omega (arith, state, e)) (λ e. omega (arith, state, e))
