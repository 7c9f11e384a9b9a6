-- Assumes nothing.
use native.Mathlib.Omega.{arith}
use Rattle.std.proofs.Common.{refl, sym, ◌∙◌}
use lib.ListN.{length-set}
use Rattle.octets.specs.PartsLaws.{put-nil}
use Rattle.octets.proofs.Loops.{copy_more}
use Rattle.octets.proofs.copy_in.Goals as goal

pub loop-i-init : goal.loop-i-init
loop-i-init c = (refl, sym (put-nil _ _))

pub loop-i-preserved : goal.loop-i-preserved
loop-i-preserved c =
    let loop = c.loop-i in (
      length-set _ _ _ ∙ loop.invariant.0,
      copy_more _ _ _ _ _ (omega arith) (omega arith) loop.invariant.1,
    )
