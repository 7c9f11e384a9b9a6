use Prim.Native.Nat.{min}
use native.Mathlib.Numerals.{add-one}
use native.Mathlib.Omega.{arith}
use mathlib.Core.Path.{◌≡◌, refl, sym, ap, ◌∙◌}
use lib.ListN.{length}
use Rattle.octets.specs.PartsLaws.{put-nil, length-put}
use Rattle.octets.specs.NumbersLaws.{length-be}
use Rattle.packet.specs.Frame.{largest_piece}
use Rattle.planner.specs.Plan.{words}
use Rattle.planner.specs.Form.{planned}
use Rattle.planner.proofs.WordsLaws.{write-more}
use Rattle.planner.proofs.write_sizes.Goals as goal

pub loop-i-init : goal.loop-i-init
unfolding words planned
loop-i-init c = (omega arith, refl, omega arith, sym (put-nil _ _))

pub loop-i-preserved : goal.loop-i-preserved
loop-i-preserved c =
    let sized = c in
    let loop = sized.loop-i in
    let total = sized.args.total in
    let size = sized.min-size.result in
    let written = c.write.ensures in (
      omega arith,
      ap length written ∙ length-put _ _ _ (omega (arith, length-be 2 size)) ∙ loop.invariant.1,
      omega arith,
      rw add-one
          (write-more loop.i total size _ _ _ (sized.min-size.ensures ∙ ap (min largest_piece) loop.invariant.2) (omega arith) loop.invariant.3 written),
    )

pub shape_of-out : goal.shape_of-out
shape_of-out c = c.loop-i.invariant.1

pub returns : goal.returns
returns c =
    let loop = c.loop-i in
    let e : loop.i ≡ c.args.count = omega arith in
    rw (← e) loop.invariant.3
