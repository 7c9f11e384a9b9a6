-- Assumes nothing.
use borrow.Author.Rules.{rules}
use mathlib.Core.Path.{refl, sym, ap, ◌∙◌}
use Prim.Native.Nat.{◌*◌}
use native.Mathlib.Omega.{arith}
use lib.ListN.{length-set}
use lib.Seq.{take_all}
use Rattle.sums.specs.Line.{hexadecimal}
use Rattle.sums.proofs.HexLaws.{hex-more}
use Rattle.sums.proofs.line.hexadecimal.Goals as goal

pub loop-i-init : goal.loop-i-init
unfolding hexadecimal
loop-i-init c = (search rules, refl)

pub loop-i-preserved : goal.loop-i-preserved
loop-i-preserved c =
    let l = c.loop-i in (
      simp length-set l.invariant.0,
      hex-more c.args.sum l.text l.i _ _ (omega arith) (omega arith) l.invariant.1 c.digit.ensures c.digit-in-loop-i.ensures,
    )

pub returns : goal.returns
returns c =
    let l = c.loop-i in
    sym (take_all (2 * l.i) l.text (omega arith)) ∙ l.invariant.1
    ∙ ap hexadecimal (take_all l.i c.args.sum (omega arith))
