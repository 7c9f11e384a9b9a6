-- Assumes nothing.
use native.Mathlib.Omega.{arith}
use Rattle.std.proofs.Common.{refl, sym, ◌∙◌}
use Rattle.octets.specs.CompareLaws.{same_length}
use Rattle.topic.proofs.Tests.{same_more, same_not, same_rest}
use Rattle.topic.proofs.same.is_same.Goals as goal

pub returns-then-s-t : goal.returns-then-s-t
returns-then-s-t c = sym (same_length _ _ c.if-s-t.true)

pub loop-i-init : goal.loop-i-init
loop-i-init c = refl

pub returns-then-s-i : goal.returns-then-s-i
returns-then-s-i c = sym (same_not _ _ _ c.if-s-i.true)

pub loop-i-preserved : goal.loop-i-preserved
loop-i-preserved c = same_more _ _ _ c.if-s-t.false (omega arith) c.loop-i.invariant c.if-s-i.false

pub returns : goal.returns
returns c = c.equal.ensures ∙ same_rest _ _ c.loop-i.i c.min-front.result (omega arith) c.if-s-t.false c.loop-i.invariant
