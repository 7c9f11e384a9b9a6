use Rattle.std.proofs.Common.{arith, ◌∙◌}
use Rattle.lesson.proofs.Lines.{showing-more, showing-none}
use Rattle.lesson.proofs.text.put_rounds.Goals as goal

pub loop-k-preserved : goal.loop-k-preserved
loop-k-preserved c = (
  c.put_line-end.auto.text ∙ c.loop-k.invariant.0,
  showing-more _ _ _ _ _ _ _ _ _ c.loop-k.invariant.1 (omega (arith, c.loop-k-test.true)) (omega (arith, c.requires, c.loop-k.invariant.0))
      c.round.ensures c.put_line-end.ensures,
)

pub returns : goal.returns
returns c = showing-none _ _ _ _ _ _ c.loop-k.invariant.1 (omega (arith, c.loop-k-test.false))
