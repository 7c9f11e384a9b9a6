-- Laws of lanes: what is put into one is there, and the others stay; so a loop that puts one lane after the
-- other leaves all of them. Assumes nothing.
use Rattle.std.proofs.Common.{◌≡◌, ℕ, zero, suc, ◌+◌, ◌*◌, ◌<◌, ◌≤◌, List, length, set, sym, refl, ap, ◌∙◌}
use Rattle.std.proofs.Common.{⊎_elim, le_of_suc-le-suc, eq-or-lt_of_le, add-one, arith, length-set}
use Rattle.std.proofs.Common.{get_or-set_other, get_or-set_same}
use Rattle.blake3.specs.Words.{word}
use Rattle.blake3.specs.Lanes.{in_lane, lane, put_lane, Lanes}
use Rattle.blake3.proofs.Laws.{listed}
use Rattle.blake3.proofs.TableLaws.{ext}

-- one more word put
pub put_next : (v v₀ w : List ℕ) (j k : ℕ) → v ≡ put_lane k j w v₀
    → set v (4 * k + j) (word w k) ≡ put_lane (k + 1) j w v₀
unfolding put_lane
put_next v v₀ w j k e =
    ap (λ (x : List ℕ). set x (4 * k + j) (word w k)) e ∙ ap (λ (n : ℕ). put_lane n j w v₀) (sym (add-one k))

module _ (j : ℕ) (w v : List ℕ) where
  length-put : (n : ℕ) → length (put_lane n j w v) ≡ length v
  unfolding put_lane
  length-put zero = refl
  length-put (suc n) = length-set (put_lane n j w v) (4 * n + j) (word w n) ∙ length-put n

  -- another lane's words stay
  put_other : (n i k : ℕ) → i < 4 → j < 4 → (i ≡ j → ⊥) → in_lane (put_lane n j w v) i k ≡ in_lane v i k
  unfolding put_lane
  put_other zero i k a b d = refl
  put_other (suc n) i k a b d =
      get_or-set_other (put_lane n j w v) (4 * n + j) (4 * k + i) _ 0 (λ e. d (omega arith)) ∙ put_other n i k a b d

  -- a word that was put
  put_same : (n k : ℕ) → k < n → 4 * n + j ≤ length v + 3 → j < 4 → in_lane (put_lane n j w v) j k ≡ word w k
  unfolding put_lane
  put_same (suc n) k h l b =
      ⊎_elim
      (λ (e : k ≡ n). ap (λ (x : ℕ). in_lane (put_lane (suc n) j w v) j x) e
      ∙ get_or-set_same (put_lane n j w v) (4 * n + j) _ 0 (omega (arith, length-put n))
      ∙ ap (word w) (sym e))
      (λ (q : k < n). get_or-set_other (put_lane n j w v) (4 * n + j) (4 * k + j) _ 0 (λ e. omega arith)
      ∙ put_same n k q (omega arith) b)
      (eq-or-lt_of_le (le_of_suc-le-suc h))
  put_same zero k h l b = elim h [ ]

  -- the lane, and the others
  pub lane-same : (n : ℕ) → j < 4 → Lanes n v → length w ≡ n → lane n j (put_lane n j w v) ≡ w
  unfolding lane
  lane-same n b l e = ext _ _ n (λ k h. put_same n k h (omega arith) b) ∙ listed w n e

  pub lane-other : (n i : ℕ) → i < 4 → j < 4 → (i ≡ j → ⊥) → lane n i (put_lane n j w v) ≡ lane n i v
  unfolding lane
  lane-other n i a b d = ext _ _ n (λ k h. put_other n i k a b d)

  pub lanes_put : (n : ℕ) → Lanes n v → Lanes n (put_lane n j w v)
  lanes_put n l = length-put n ∙ l

-- of four lanes of n words, those below j are new, the others as they were
pub record Until (n : ℕ) (new old : ℕ → List ℕ) (v : List ℕ) (j : ℕ) : Type 0 where
  pub lanes : Lanes n v
  pub changed : (i : ℕ) → i < j → lane n i v ≡ new i
  pub left : (i : ℕ) → j ≤ i → i < 4 → lane n i v ≡ old i

module _ {n j : ℕ} {new old : ℕ → List ℕ} {v : List ℕ} (u : Until n new old v j) where
  -- one more, when the words w are put
  pub more : j < 4 → {w v' : List ℕ} → length w ≡ n → w ≡ new j → v' ≡ put_lane (length w) j w v
      → Until n new old v' (j + 1)
  more h {w} l e p =
      let q = p ∙ ap (λ (k : ℕ). put_lane k j w v) l in
      let other = λ (i : ℕ) (b : i < 4) (d : i ≡ j → ⊥). ap (lane n i) q ∙ lane-other j w v n i b h d in
      record {
        lanes = ap length q ∙ lanes_put j w v n u.lanes;
        changed = λ i b. ⊎_elim
            (λ (a : i ≡ j). (λ z. lane n (a z) (q z)) ∙ lane-same j w v n h u.lanes l ∙ e ∙ ap new (sym a))
            (λ (a : i < j). other i (omega arith) (λ z. omega arith) ∙ u.changed i a) (eq-or-lt_of_le (omega arith));
        left = λ i a b. other i b (λ z. omega arith) ∙ u.left i (omega arith) b;
      }
