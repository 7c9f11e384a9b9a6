use Rattle.std.proofs.Common.{◌<◌, ap, ◌∙◌, arith, rules}
use Rattle.blake3.specs.Rounds.{round, permute}
use Rattle.blake3.proofs.LaneLaws.{more}
use Rattle.blake3.proofs.lanes.round.Goals as goal

pub loop-j-preserved : goal.loop-j-preserved
loop-j-preserved c =
    let l = c.loop-j in
    let u = l.invariant in
    let h : l.j < 4 = omega arith in
    let state = c.lane.ensures ∙ u.0.left l.j (omega arith) h in
    let words = c.lane-words.ensures ∙ u.1.left l.j (omega arith) h in (
      more u.0 h (search rules) (c.round-state.ensures ∙ (λ z. round (state z) (words z))) c.put.ensures,
      more u.1 h (search rules) (c.permute.ensures ∙ ap permute words) c.put-in-loop-j.ensures,
    )
