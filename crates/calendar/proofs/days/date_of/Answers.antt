use native.Mathlib.Omega.{arith}
use mathlib.Core.Path.{refl}
use Rattle.calendar.proofs.Computed.{spot-least, spot-first, spot-next, spot-last, spot-end}
use Rattle.calendar.proofs.days.date_of.Goals as goal

pub loop-month-init : goal.loop-month-init
loop-month-init c = spot-first _ _ _ _ _ _ _ refl refl refl refl refl refl

pub returns-then-left-days : goal.returns-then-left-days
returns-then-left-days c = spot-last c.loop-month.invariant c.month_days-days.ensures c.if-left-days.true

pub loop-month-preserved : goal.loop-month-preserved
loop-month-preserved c = spot-next c.loop-month.invariant c.month_days-days.ensures c.if-left-days.false

pub overflow_add-result-2 : goal.overflow_add-result-2
overflow_add-result-2 c = omega (arith, spot-least c.loop-month.invariant)

pub returns : goal.returns
returns c = spot-end c.loop-month.invariant c.loop-month-test.false
