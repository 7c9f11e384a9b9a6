-- Chains: a walk that meets few places is a chain, a chain is walked whole, and the rows of a chain are read and written by one law for every kind
-- of row. The number of places and the bound of the walk are parameters. Assumes nothing.
use Rattle.std.specs.Prelude.{ℕ, zero, suc, ◌≤◌, ◌<◌, ◌≡◌, refl, Bool, true, List, [], ◌∷◌, ◌++◌, map, length, get_or, eqb}
use Rattle.std.proofs.Common.{arith, sym, ap, ◌∙◌, eqb-true, ne_eqb}
use Rattle.octets.specs.BoolsLaws.{cases}
use Rattle.octets.specs.Lists.{All}
use Rattle.machine.specs.Rows.{Row}
use Rattle.machine_laws.specs.Rows.{places, Held}
use Rattle.machine.specs.Chains.{first, link, walk, chain_rows}
use Rattle.machine_laws.specs.Counting.{Few, few-inside, few-short}

-- each place's link leads to the next
abbrev pub Linked : (ℕ → ℕ) → List ℕ → Type 0
Linked next [] = Unit {0}
Linked next (p ∷ ps) = (next p ≡ first ps) × Linked next ps

-- what is so of each place, and of 0, is so of the first
pub first-has : (Good : ℕ → Type 0) (ps : List ℕ) → Good 0 → All Good ps → Good (first ps)
first-has Good [] z g = z
first-has Good (p ∷ ps) z g = g.0

-- ---- walks

walk_ends : (next : ℕ → ℕ) (fuel p : ℕ) → length (walk next fuel p) < fuel → (first (walk next fuel p) ≡ p) × Linked next (walk next fuel p)
unfolding walk
walk_ends next zero p h = absurd (omega arith)
walk_ends next (suc fuel) p h =
    cases (eqb p 0)
    (λ e. rw e (sym (eqb-true p 0 e), tt))
    (λ e. let ih = walk_ends next fuel (next p) (let w : suc (length (walk next fuel (next p))) < suc fuel = rw e at h in omega arith) in
    rw e (refl, (sym ih.0, ih.1)))

-- places ps from x on: a chain within the places from 1 to n
pub record Chain (next : ℕ → ℕ) (n x : ℕ) (ps : List ℕ) : Type 0 where
  pub from : first ps ≡ x
  pub links : Linked next ps
  pub within : All (λ p. (0 < p) × (p ≤ n)) ps

-- a walk that meets few places, with fuel for more, has ended: it is a chain
pub walk-chain : (next : ℕ → ℕ) (n fuel x : ℕ) → n < fuel → Few n (walk next fuel x) → Chain next n x (walk next fuel x)
walk-chain next n fuel x h u =
    let w = walk_ends next fuel x (omega (arith, few-short n (walk next fuel x) u)) in
    record { from = w.0; links = w.1; within = few-inside n (walk next fuel x) u }

linked-walk : (next : ℕ → ℕ) (n fuel : ℕ) (ps : List ℕ) → length ps ≤ fuel → All (λ p. (0 < p) × (p ≤ n)) ps → Linked next ps → walk next fuel (first ps) ≡ ps
unfolding walk
linked-walk next n zero [] s h l = refl
linked-walk next n zero (p ∷ ps) s h l = absurd (omega arith)
linked-walk next n (suc fuel) [] s h l = refl
linked-walk next n (suc fuel) (p ∷ ps) s h l =
    rw (ne_eqb p 0 (λ e. omega (arith, h.0.0)), l.0) (ap (λ (x : List ℕ). p ∷ x) (linked-walk next n fuel ps (omega arith) h.1 l.1))

-- few places that are linked are walked whole
pub chain-walk : (next : ℕ → ℕ) (n fuel : ℕ) (ps : List ℕ) → n ≤ fuel → Few n ps → Linked next ps → walk next fuel (first ps) ≡ ps
chain-walk next n fuel ps h u l = linked-walk next n fuel ps (omega (arith, few-short n ps u)) (few-inside n ps u) l

-- ---- rows of a chain

module _ {A : Type 0} (place : A → ℕ) (row : ℕ → A → List ℕ) where
  pub chain-places : (l : List A) → places (chain_rows place row l) ≡ map place l
  chain-places [] = refl
  chain-places (a ∷ l) = ap (λ (x : List ℕ). place a ∷ x) (chain-places l)

  -- what is so of a row with any good link is so of the rows of a chain of good places
  pub chain-has : (P : List ℕ → Type 0) (Good : ℕ → Type 0) (l : List A) → Good 0 → All Good (map place l)
      → All (λ a. (n : ℕ) → Good n → P (row n a)) l → All (λ (r : Row). P r.bytes) (chain_rows place row l)
  chain-has P Good [] z g h = tt
  chain-has P Good (a ∷ l) z g h = (h.0 (first (map place l)) (first-has Good (map place l) z g.1), chain-has P Good l z g.1 h.1)

  -- a chain that is held is linked
  pub held-linked : (f : ℕ → List ℕ) (l : List A) → All (λ a. (n : ℕ) → get_or (row n a) 0 0 ≡ n) l → Held f (chain_rows place row l) → Linked (link f) (map place l)
  held-linked f [] e h = tt
  held-linked f (a ∷ l) e h = (ap (λ (x : List ℕ). get_or x 0 0) h.0 ∙ e.0 (first (map place l)), held-linked f l e.1 h.1)

  -- a test of each row of a chain
  pub held_test : (f : ℕ → List ℕ) (t : List ℕ → Bool) (l : List A) → All (λ a. (n : ℕ) → t (row n a) ≡ true) l → Held f (chain_rows place row l)
      → All (λ p. t (f p) ≡ true) (map place l)
  held_test f t [] e h = tt
  held_test f t (a ∷ l) e h = (ap t h.0 ∙ e.0 (first (map place l)), held_test f t l e.1 h.1)

  module _ (f : ℕ → List ℕ) (read : ℕ → A) where
    -- a chain that is held is read back
    pub held-read : (l : List A) → All (λ a. (n : ℕ) → f (place a) ≡ row n a → read (place a) ≡ a) l → Held f (chain_rows place row l) → map read (map place l) ≡ l
    held-read [] e h = refl
    held-read (a ∷ l) e h = λ i. e.0 (first (map place l)) h.0 i ∷ held-read l e.1 h.1 i

    module _ (e : (p : ℕ) → place (read p) ≡ p) where
      pub map-place : (ps : List ℕ) → map place (map read ps) ≡ ps
      map-place [] = refl
      map-place (p ∷ ps) = λ i. e p i ∷ map-place ps i

      -- what is read from linked places is held as a chain
      pub read_held : (ps : List ℕ) → Linked (link f) ps → All (λ p. f p ≡ row (link f p) (read p)) ps → Held f (chain_rows place row (map read ps))
      read_held [] l h = tt
      read_held (p ∷ ps) l h = (
        ap f (e p) ∙ h.0 ∙ ap (λ (n : ℕ). row n (read p)) (l.0 ∙ ap first (sym (map-place ps))),
        read_held ps l.1 h.1,
      )

-- ---- a part of a chain

-- the place that places lead to: the first of them, or `end` where there is none
abbrev pub lead : ℕ → List ℕ → ℕ
lead end [] = end
lead end (p ∷ ps) = p

module _ {A : Type 0} (place : A → ℕ) (row : ℕ → A → List ℕ) where
  -- the rows of a part of a chain that goes on at the place `end`
  abbrev pub rows_to : ℕ → List A → List Row
  rows_to end [] = []
  rows_to end (a ∷ l) = record { place = place a; bytes = row (lead end (map place l)) a } ∷ rows_to end l

  -- a chain is its front, which goes on at its rest, and its rest
  pub chain-append : (l m : List A) → chain_rows place row (l ++ m) ≡ rows_to (first (map place m)) l ++ chain_rows place row m
  chain-append [] m = refl
  chain-append (a ∷ l) m = λ i. record { place = place a; bytes = row (start l i) a } ∷ chain-append l m i
    where
      start : (l : List A) → first (map place (l ++ m)) ≡ lead (first (map place m)) (map place l)
      start [] = refl
      start (c ∷ l) = refl
