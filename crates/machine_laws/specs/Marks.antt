-- Marking places as chains are walked, for code that finds in one pass that no place is met twice and none is outside. `scan` is what such a walk
-- computes; its laws tie it to `all` and `once`, and give one equation for each way a turn of the loop goes. The number of places and the bound of
-- the walk are parameters. Assumes nothing.
use Rattle.std.specs.Prelude.{ℕ, zero, suc, ◌+◌, ◌-◌, ◌≤◌, ◌<◌, ◌≡◌, Bool, true, ◌&&◌, length, set, eqb}
use native.Mathlib.Omega.{arith}
use Rattle.std.proofs.Math.Decide.{ℕ_discrete}
use Rattle.std.proofs.Math.Path.{refl}
use Rattle.std.proofs.Common.{ap, ◌∙◌, get_or-set_same, get_or-set_other}
use Rattle.std.proofs.Math.Bool.{false}
use mathlib.Core.List.{List, [], ◌∷◌, ◌++◌}
use Rattle.std.proofs.Math.ListN.{get_or, length-set}
use borrow.Author.Tests.{eq-eqb, ne_eqb, eqb-true}
use Rattle.octets.specs.Bools.{one}
use Rattle.octets.specs.BoolsLaws.{cases, clash, split, both, iff, one-le}
use Rattle.octets.specs.Lists.{all}
use Rattle.machine.specs.Chains.{walk}
use Rattle.machine.specs.Counting.{occurs, inside, each, once}
use Rattle.machine_laws.specs.Tests.{all-parts, all_append}
use Rattle.machine_laws.specs.Counting.{self, other, occurs-append, inside_is, is-inside, inside_one, once_is, is-each}

-- ---- scan

-- whether all went well, and the marks then
pub record Walked : Type 0 where
  pub ok : Bool
  pub marks : List ℕ

abbrev pub pick : Bool → Walked → Walked → Walked
pick true p q = p
pick false p q = q

-- mark the places one by one; stop at one that is outside, marked already, or fails its test
unfoldable pub scan : (ℕ → Bool) → ℕ → List ℕ → List ℕ → Walked
scan test n [] m = record { ok = true; marks = m }
scan test n (p ∷ ps) m =
    pick (inside n p)
    (pick (eqb (get_or m p 0) 0)
    (pick (test p) (scan test n ps (set m p 1)) (record { ok = false; marks = m }))
    (record { ok = false; marks = m }))
    (record { ok = false; marks = m })

-- the marks from 1 to n are all set
unfoldable pub all_marked : List ℕ → ℕ → Bool
all_marked m zero = true
all_marked m (suc n) = all_marked m n && eqb (get_or m (suc n) 0) 1

-- ---- what a scan tells

-- a mark more
mark : (m : List ℕ) (p k : ℕ) → p < length m → get_or m p 0 ≡ 0 → get_or (set m p 1) k 0 ≡ get_or m k 0 + one (eqb k p)
mark m p k h z =
    elim (ℕ_discrete k p) [
      | yes e ↦ (let a : get_or (set m p 1) k 0 ≡ 1 = ap (λ (j : ℕ). get_or (set m p 1) j 0) e ∙ get_or-set_same m p 1 0 h in
          let q : get_or m k 0 ≡ 0 = ap (λ (j : ℕ). get_or m j 0) e ∙ z in
          let r : one (eqb k p) ≡ 1 = ap one (eq-eqb k p e) in
          omega arith)
      | no e ↦ omega (arith, get_or-set_other m p k 1 0 e, other k p e)
    ]

module _ (test : ℕ → Bool) (n : ℕ) where
  -- the places passed their test, are inside, and are marked once more each
  pub record Scanned (ps m m' : List ℕ) : Type 0 where
    pub tests : all test ps ≡ true
    pub within : all (inside n) ps ≡ true
    pub marked : (k : ℕ) → get_or m' k 0 ≡ get_or m k 0 + occurs k ps
    pub size : length m' ≡ length m

  pub scan-is : (ps m : List ℕ) → n < length m → (scan test n ps m).ok ≡ true → Scanned ps m (scan test n ps m).marks
  unfolding scan
  scan-is [] m l h = record { tests = refl; within = refl; marked = λ k. omega arith; size = refl }
  scan-is (p ∷ ps) m l h =
      cases (inside n p)
      (λ i. cases (eqb (get_or m p 0) 0)
      (λ z. cases (test p)
      (λ q. let g = scan-is ps (set m p 1) (omega (arith, length-set m p 1)) (rw (i, z, q) at h) in
      let a = inside_is n p i in
      rw (i, z, q) (record {
        tests = both (test p) (all test ps) q g.tests;
        within = both (inside n p) (all (inside n) ps) i g.within;
        marked = λ k. omega (arith, g.marked k, mark m p k (omega arith) (eqb-true (get_or m p 0) 0 z));
        size = g.size ∙ length-set m p 1;
      }))
      (λ q. clash (rw (i, z, q) at h) refl))
      (λ z. clash (rw (i, z) at h) refl))
      (λ i. clash (rw i at h) refl)

  pub is-scan : (ps m : List ℕ) → n < length m → all test ps ≡ true → all (inside n) ps ≡ true → ((k : ℕ) → get_or m k 0 + occurs k ps ≤ 1) → (scan test n ps m).ok ≡ true
  unfolding scan
  is-scan [] m l a i u = refl
  is-scan (p ∷ ps) m l a i u =
      let t = split (test p) (all test ps) a in
      let w = split (inside n p) (all (inside n) ps) i in
      let z : get_or m p 0 ≡ 0 = omega (arith, u p, self p) in
      let q = inside_is n p w.0 in
      rw (w.0, eq-eqb (get_or m p 0) 0 z, t.0)
      (is-scan ps (set m p 1) (omega (arith, length-set m p 1)) t.1 w.1 (λ k. omega (arith, u k, mark m p k (omega arith) z)))

  -- one chain behind another
  pub scan-append : (l r m : List ℕ)
      → scan test n (l ++ r) m ≡ pick (scan test n l m).ok (scan test n r (scan test n l m).marks) (record { ok = false; marks = (scan test n l m).marks })
  unfolding scan
  scan-append [] r m = refl
  scan-append (p ∷ l) r m =
      cases (inside n p)
      (λ i. cases (eqb (get_or m p 0) 0)
      (λ z. cases (test p) (λ q. rw (i, z, q) (scan-append l r (set m p 1))) (λ q. rw (i, z, q)))
      (λ z. rw (i, z)))
      (λ i. rw i)

pub marked-is : (m : List ℕ) (n k : ℕ) → all_marked m n ≡ true → 0 < k → k ≤ n → get_or m k 0 ≡ 1
unfolding all_marked
marked-is m zero k h a b = absurd (omega arith)
marked-is m (suc n) k h a b =
    let s = split (all_marked m n) (eqb (get_or m (suc n) 0) 1) h in
    elim (ℕ_discrete k (suc n)) [
      | yes e ↦ ap (λ (x : ℕ). get_or m x 0) e ∙ eqb-true (get_or m (suc n) 0) 1 s.1
      | no e ↦ marked-is m n k s.0 a (omega (arith, e))
    ]

pub is-marked : (m : List ℕ) (n : ℕ) → ((k : ℕ) → 0 < k → k ≤ n → get_or m k 0 ≡ 1) → all_marked m n ≡ true
unfolding all_marked
is-marked m zero h = refl
is-marked m (suc n) h =
    both (all_marked m n) (eqb (get_or m (suc n) 0) 1) (is-marked m n (λ k a b. h k a (omega arith))) (eq-eqb (get_or m (suc n) 0) 1 (h (suc n) (omega arith) (omega arith)))

-- ---- the turns of a loop that walks and scans: f of `bound` steps are made, the walk stands at x, the marks are m

module _ (test : ℕ → Bool) (next : ℕ → ℕ) (bound n f x : ℕ) (m : List ℕ) where
  abbrev pub left : Walked
  left = scan test n (walk next (bound - f) x) m

  -- the bound is reached
  pub walk-out : bound ≤ f → left ≡ record { ok = true; marks = m }
  unfolding scan walk
  walk-out h = let e : bound - f ≡ 0 = omega arith in rw e

  module _ (h : f < bound) where
    fuel : bound - f ≡ suc (bound - (f + 1))
    fuel = omega arith

    -- the chain ends
    pub walk_end : x ≡ 0 → left ≡ record { ok = true; marks = m }
    unfolding scan walk
    walk_end e = rw (fuel, eq-eqb x 0 e)

    module _ (s : x ≡ 0 → ⊥) where
      -- a place outside
      pub walk-far : n < x → left ≡ record { ok = false; marks = m }
      unfolding scan walk
      walk-far e = rw (fuel, ne_eqb x 0 s, out)
        where
          out : inside n x ≡ false
          out = cases (inside n x) (λ i. absurd (let w = inside_is n x i in omega arith)) (λ i. i)

      module _ (g : x ≤ n) where
        in-here : inside n x ≡ true
        in-here = is-inside n x (omega (arith, s)) g

        -- a place met before
        pub walk-twice : (get_or m x 0 ≡ 0 → ⊥) → left ≡ record { ok = false; marks = m }
        unfolding scan walk
        walk-twice e = rw (fuel, ne_eqb x 0 s, in-here, ne_eqb (get_or m x 0) 0 e)

        -- a place that fails its test
        pub walk-bad : get_or m x 0 ≡ 0 → test x ≡ false → left ≡ record { ok = false; marks = m }
        unfolding scan walk
        walk-bad z e = rw (fuel, ne_eqb x 0 s, in-here, eq-eqb (get_or m x 0) 0 z, e)

        -- a place that passes: on to the next
        pub walk_more : (y : ℕ) → get_or m x 0 ≡ 0 → test x ≡ true → next x ≡ y → left ≡ scan test n (walk next (bound - (f + 1)) y) (set m x 1)
        unfolding scan walk
        walk_more y z e q =
            rw (fuel, ne_eqb x 0 s, in-here, eq-eqb (get_or m x 0) 0 z, e) (ap (λ (w : ℕ). scan test n (walk next (bound - (f + 1)) w) (set m x 1)) q)

-- ---- three chains, one behind the other, each with its test

module _ (t₀ t₁ t₂ : ℕ → Bool) (n : ℕ) (l₀ l₁ l₂ m : List ℕ) where
  abbrev pub w₀ : Walked
  w₀ = scan t₀ n l₀ m

  abbrev pub w₁ : Walked
  w₁ = scan t₁ n l₁ w₀.marks

  abbrev pub w₂ : Walked
  w₂ = scan t₂ n l₂ w₁.marks

  -- each walk went well, and in the end every place is marked
  abbrev pub three : Bool
  three = (w₀.ok && (w₁.ok && w₂.ok)) && all_marked w₂.marks n

  abbrev pub tested : Bool
  tested = (all t₀ l₀ && (all t₁ l₁ && all t₂ l₂)) && once n (l₀ ++ (l₁ ++ l₂))

  module _ (z : (k : ℕ) → get_or m k 0 ≡ 0) (long : n < length m) where
    places : (k : ℕ) → occurs k (l₀ ++ (l₁ ++ l₂)) ≡ occurs k l₀ + (occurs k l₁ + occurs k l₂)
    places k = omega (arith, occurs-append k l₀ (l₁ ++ l₂), occurs-append k l₁ l₂)

    to : three ≡ true → tested ≡ true
    to h =
        let a = split (w₀.ok && (w₁.ok && w₂.ok)) (all_marked w₂.marks n) h in
        let b = split w₀.ok (w₁.ok && w₂.ok) a.0 in
        let d = split w₁.ok w₂.ok b.1 in
        let g₀ = scan-is t₀ n l₀ m long b.0 in
        let g₁ = scan-is t₁ n l₁ w₀.marks (omega (arith, g₀.size)) d.0 in
        let g₂ = scan-is t₂ n l₂ w₁.marks (omega (arith, g₀.size, g₁.size)) d.1 in
        let i = all_append (inside n) l₀ (l₁ ++ l₂) g₀.within (all_append (inside n) l₁ l₂ g₁.within g₂.within) in
        let e : each n (l₀ ++ (l₁ ++ l₂)) ≡ true =
        is-each n (l₀ ++ (l₁ ++ l₂)) (λ k p q. omega (arith, places k, marked-is w₂.marks n k a.1 p q, g₀.marked k, g₁.marked k, g₂.marked k, z k)) in
        rw (g₀.tests, g₁.tests, g₂.tests, i, e)

    from : tested ≡ true → three ≡ true
    from h =
        let a = split (all t₀ l₀ && (all t₁ l₁ && all t₂ l₂)) (once n (l₀ ++ (l₁ ++ l₂))) h in
        let b = split (all t₀ l₀) (all t₁ l₁ && all t₂ l₂) a.0 in
        let d = split (all t₁ l₁) (all t₂ l₂) b.1 in
        let o = once_is n (l₀ ++ (l₁ ++ l₂)) a.1 in
        let i = split (all (inside n) (l₀ ++ (l₁ ++ l₂))) (each n (l₀ ++ (l₁ ++ l₂))) a.1 in
        let i₀ = all-parts (inside n) l₀ (l₁ ++ l₂) i.0 in
        let i₁ = all-parts (inside n) l₁ l₂ i₀.1 in
        let most : (k : ℕ) → occurs k l₀ + (occurs k l₁ + occurs k l₂) ≤ 1 = λ k. omega (arith, places k, o k, one-le (inside n k)) in
        let o₀ : w₀.ok ≡ true = is-scan t₀ n l₀ m long b.0 i₀.0 (λ k. omega (arith, z k, most k)) in
        let g₀ = scan-is t₀ n l₀ m long o₀ in
        let o₁ : w₁.ok ≡ true = is-scan t₁ n l₁ w₀.marks (omega (arith, g₀.size)) d.0 i₁.0 (λ k. omega (arith, z k, most k, g₀.marked k)) in
        let g₁ = scan-is t₁ n l₁ w₀.marks (omega (arith, g₀.size)) o₁ in
        let o₂ : w₂.ok ≡ true = is-scan t₂ n l₂ w₁.marks (omega (arith, g₀.size, g₁.size)) d.1 i₁.1 (λ k. omega (arith, z k, most k, g₀.marked k, g₁.marked k)) in
        let g₂ = scan-is t₂ n l₂ w₁.marks (omega (arith, g₀.size, g₁.size)) o₂ in
        let e : all_marked w₂.marks n ≡ true =
        is-marked w₂.marks n (λ k p q. omega (arith, places k, o k, inside_one n k p q, g₀.marked k, g₁.marked k, g₂.marked k, z k)) in
        rw (o₀, o₁, o₂, e)

    -- marks find each place once, and each row as tested
    pub three-is : three ≡ tested
    three-is = iff three tested to from
