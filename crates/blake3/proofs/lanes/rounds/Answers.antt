use Rattle.std.proofs.Common.{◌≡◌, ℕ, suc, ◌+◌, ◌-◌, ◌<◌, ◌≤◌, List, sym, ap, ◌∙◌, arith}
use Rattle.blake3.specs.Rounds.{rounds, round, permute}
use Rattle.blake3.specs.Lanes.{lane}
use Rattle.blake3.proofs.lanes.rounds.Goals as goal

-- one more round
more : (v w : List ℕ) (i : ℕ) {a b x : List ℕ} → i < 7 → a ≡ round v w → b ≡ permute w
    → rounds (7 - i) v w ≡ x → rounds (7 - (i + 1)) a b ≡ x
unfolding rounds
more v w i h ea eb e =
    let q : 7 - i ≡ suc (7 - (i + 1)) = omega arith in
    (λ j. rounds (7 - (i + 1)) (ea j) (eb j)) ∙ sym (ap (λ (n : ℕ). rounds n v w) q) ∙ e

-- no round is left
ends : (v w : List ℕ) (i : ℕ) {x : List ℕ} → 7 ≤ i → rounds (7 - i) v w ≡ x → v ≡ x
unfolding rounds
ends v w i l e = let q : 7 - i ≡ 0 = omega arith in sym (ap (λ (n : ℕ). rounds n v w) q) ∙ e

pub loop-preserved : goal.loop-preserved
loop-preserved c =
    let l = c.loop in
    let r = c.round.ensures in
    (r.0.0, r.1.0, λ k q. more _ _ l.counter (omega arith) (r.0.1 k q) (r.1.1 k q) (l.invariant.2 k q))

pub returns : goal.returns
returns c =
    let l = c.loop in
    (l.invariant.0, λ k q. ends _ (lane 16 k l.m) l.counter (omega arith) (l.invariant.2 k q))
