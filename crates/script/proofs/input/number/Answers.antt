use Rattle.script.proofs.Lines.{value_on, value-long, value-end}
use Rattle.script.proofs.input.number.Goals as goal

pub returns-then-n-gt-LONGEST : goal.returns-then-n-gt-LONGEST
returns-then-n-gt-LONGEST c =
    value-long _ _ _ c.if-n-gt-LONGEST.true (value_on _ _ _ _ c.loop-digit-test.true c.from.ensures c.loop-digit.invariant.1)

pub loop-digit-preserved : goal.loop-digit-preserved
loop-digit-preserved c =
    (c.if-n-gt-LONGEST.false, value_on _ _ _ _ c.loop-digit-test.true c.from.ensures c.loop-digit.invariant.1)

pub returns : goal.returns
returns c = value-end _ _ _ c.loop-digit.invariant.0 c.loop-digit-test.false c.loop-digit.invariant.1
