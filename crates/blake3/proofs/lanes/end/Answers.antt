use Rattle.std.proofs.Common.{◌<◌, take, ap, ◌∙◌, arith, rules}
use Rattle.blake3.specs.Compression.{finish}
use Rattle.blake3.proofs.LaneLaws.{more}
use Rattle.blake3.proofs.lanes.end.Goals as goal

pub loop-j-preserved : goal.loop-j-preserved
loop-j-preserved c =
    let l = c.loop-j in
    let u = l.invariant in
    let h : l.j < 4 = omega arith in
    let value = c.lane-in-loop-j.ensures ∙ u.left l.j (omega arith) h in
    let w = c.finish-w.ensures ∙ (λ z. finish (c.lane.ensures z) (value z)) in
    more u h (search rules) (ap (take 8) w) c.put.ensures
