-- The bytes past a short topic, in two parts. Assumes nothing.
use native.Mathlib.Omega.{arith}
use mathlib.Core.Path.{◌∙◌}
use mathlib.Core.Bool.{◌&&◌}
use Rattle.rows.proofs.Zeros.{overlap}
use Rattle.rows.proofs.record.ends.Goals as goal

pub returns-then-past-le-SHORT_END : goal.returns-then-past-le-SHORT_END
returns-then-past-le-SHORT_END c =
    (λ i. c.zero_part.ensures i && c.zero_part-then-past-le-SHORT_END.ensures i)
    ∙ overlap _ _ _ _ _ _ (omega arith) (omega arith) (omega arith) (omega arith)
