-- The rows of a part of a chain, written one after the other: each leads to the next, the last one to a given place. Cells that are freed and cells that
-- pushed data is cut into are two instances. Assumes nothing.
use Rattle.std.specs.Prelude.{ℕ, suc, ◌+◌, ◌≤◌, ◌<◌, ◌≡◌, length, eqb}
use Rattle.std.proofs.Common.{arith, sym, ◌∙◌}
use Rattle.std.proofs.Math.Path.{refl, ap}
use mathlib.Core.List.{List, [], ◌∷◌, map}
use Rattle.octets.specs.Octets.{part, put}
use Rattle.octets.specs.Bools.{one}
use Rattle.octets.specs.Lists.{All}
use Rattle.octets.specs.ListsLaws.{all-to}
use Rattle.machine.specs.Rows.{row_off}
use Rattle.machine.specs.Counting.{occurs}
use Rattle.machine_laws.specs.Counting.{self}
use Rattle.machine_laws.specs.Rows.{Held}
use Rattle.machine_laws.specs.Chains.{lead, rows_to}
use Rattle.machine_laws.specs.Write.{row_in, Wrote, write-row}

module _ {A : Type 0} (place : A → ℕ) (row : ℕ → A → List ℕ) (start size : ℕ) where
  -- the rows of l, written in their order; the last one leads to x
  unfoldable pub laid : ℕ → List A → List ℕ → List ℕ
  laid x [] b = b
  laid x (a ∷ l) b = laid x l (put b (row_off start size (place a)) (row (lead x (map place l)) a))

  -- their places stand in n bytes, and their rows are as long as rows are
  abbrev pub Fitting : ℕ → List A → Type 0
  Fitting n l = All (λ (a : A). (0 < place a) × (row_off start size (suc (place a)) ≤ n) × ((z : ℕ) → length (row z a) ≡ size)) l

  one-wrote : (x : ℕ) (a : A) (b : List ℕ) → 0 < place a → row_off start size (suc (place a)) ≤ length b → ((z : ℕ) → length (row z a) ≡ size)
      → Wrote start size (place a) (row x a) b (put b (row_off start size (place a)) (row x a))
  one-wrote x a b h g e = write-row start size (place a) (row x a) b h g (e x)

  -- the same of other bytes of that length
  longer : (n m : ℕ) (l : List A) → n ≡ m → Fitting n l → Fitting m l
  longer n m l e h =
      all-to (λ (a : A). (0 < place a) × (row_off start size (suc (place a)) ≤ n) × ((z : ℕ) → length (row z a) ≡ size))
      (λ (a : A). (0 < place a) × (row_off start size (suc (place a)) ≤ m) × ((z : ℕ) → length (row z a) ≡ size)) l (λ a q. (q.0, omega (arith, q.1), q.2)) h

  module _ (x : ℕ) where
    pub laid-length : (l : List A) (b : List ℕ) → Fitting (length b) l → length (laid x l b) ≡ length b
    unfolding laid
    laid-length [] b h = refl
    laid-length (a ∷ l) b h =
        let w = one-wrote (lead x (map place l)) a b h.0.0 h.0.1 h.0.2 in
        let c = put b (row_off start size (place a)) (row (lead x (map place l)) a) in
        laid-length l c (longer (length b) (length c) l (sym w.long) h.1) ∙ w.long

    -- rows at other places stay
    pub laid-other : (l : List A) (b : List ℕ) (k : ℕ) → Fitting (length b) l → 0 < k → occurs k (map place l) ≡ 0 → row_in start size (laid x l b) k ≡ row_in start size b k
    unfolding laid
    laid-other [] b k h z n = refl
    laid-other (a ∷ l) b k h z n =
        let w = one-wrote (lead x (map place l)) a b h.0.0 h.0.1 h.0.2 in
        let c = put b (row_off start size (place a)) (row (lead x (map place l)) a) in
        laid-other l c k (longer (length b) (length c) l (sym w.long) h.1) z (omega arith)
        ∙ w.others k z (λ e. let q : one (eqb k (place a)) ≡ 1 = ap (λ (j : ℕ). one (eqb k j)) (sym e) ∙ self k in omega arith)

    -- what stands before the rows stays
    pub laid-before : (l : List A) (b : List ℕ) (o n : ℕ) → Fitting (length b) l → o + n ≤ start → part (laid x l b) o n ≡ part b o n
    unfolding laid
    laid-before [] b o n h g = refl
    laid-before (a ∷ l) b o n h g =
        let w = one-wrote (lead x (map place l)) a b h.0.0 h.0.1 h.0.2 in
        let c = put b (row_off start size (place a)) (row (lead x (map place l)) a) in
        laid-before l c o n (longer (length b) (length c) l (sym w.long) h.1) g ∙ w.before o n g

    -- they are held as a part of a chain that goes on at x
    pub laid-held : (l : List A) (b : List ℕ) → Fitting (length b) l → ((k : ℕ) → occurs k (map place l) ≤ 1) → Held (row_in start size (laid x l b)) (rows_to place row x l)
    unfolding laid
    laid-held [] b h u = tt
    laid-held (a ∷ l) b h u =
        let w = one-wrote (lead x (map place l)) a b h.0.0 h.0.1 h.0.2 in
        let c = put b (row_off start size (place a)) (row (lead x (map place l)) a) in
        let i = longer (length b) (length c) l (sym w.long) h.1 in
        (laid-other l c (place a) i h.0.0 (omega (arith, u (place a), self (place a))) ∙ w.here, laid-held l c i (λ k. omega (arith, u k)))
