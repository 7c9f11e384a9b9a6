-- Assumes nothing.
use Rattle.std.proofs.Common.{arith, ap, ◌∙◌, ◌-◌, take, drop, take_all}
use Rattle.octets.specs.NumbersLaws.{length-be}
use Rattle.octets.proofs.Loops.{put_is}
use Rattle.octets.proofs.Digits.{to-bytes, drop-be}
use Rattle.octets.proofs.write.Goals as goal

pub returns : goal.returns
returns g c =
    let n = g.row.N in
    let all = c.to_be_bytes-all.ensures ∙ to-bytes c.args.n c.ranges.n.fits in
    let those = ap (drop (8 - n)) all ∙ drop-be (8 - n) n 8 c.args.n (omega arith) in
    put_is _ _ _ _ _ (c.copy_from_slice.ensures.after ∙ ap (take _) those ∙ take_all _ _ (omega (arith, length-be n c.args.n)))
    (omega (arith, length-be n c.args.n))
