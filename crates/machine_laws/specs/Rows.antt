-- Rows at places: the rows that a function of the place holds, and the rows of bytes that stand one behind the other from a start on. One set of
-- laws for rows of any size; records and cells are two instances. Assumes nothing.
use Prim.Native.Nat.{ℕ, zero, suc, ◌+◌, ◌*◌, ◌-◌, ◌≤◌, ◌<◌}
use native.Mathlib.Omega.{arith}
use Rattle.std.proofs.Common.{add-zero, ◌∙◌, length-append, take-append-drop, drop-drop, eq-eqb, ne_eqb}
use Rattle.std.proofs.Math.Decide.{ℕ_discrete}
use Rattle.std.specs.Prelude.{◌≡◌, refl, length, eqb}
use Rattle.std.proofs.Math.Path.{sym, ap}
use mathlib.Core.List.{List, [], ◌∷◌, ◌++◌, append_assoc, map}
use Rattle.std.proofs.Math.ListN.{take, drop}
use Rattle.octets.specs.Octets.{part, Bytes}
use Rattle.octets.specs.Bools.{one}
use Rattle.octets.specs.Lists.{All}
use Rattle.octets.specs.PartsLaws.{part-skip, part-here}
use Rattle.machine.specs.Rows.{Row, row_at, row_off, table}
use Rattle.machine.specs.Counting.{occurs}
use Rattle.machine_laws.specs.Counting.{self, other}
use Rattle.machine_laws.specs.Fields.{bytes-nil, bytes-append}

-- the places of rows
abbrev pub places : List Row → List ℕ
places rows = map (λ (r : Row). r.place) rows

-- ---- rows held by a function of the place

-- f gives each row at its place
abbrev pub Held : (ℕ → List ℕ) → List Row → Type 0
Held f [] = Unit {0}
Held f (r ∷ rows) = (f r.place ≡ r.bytes) × Held f rows

pub held-left : (f : ℕ → List ℕ) (l m : List Row) → Held f (l ++ m) → Held f l
held-left f [] m h = tt
held-left f (r ∷ l) m h = (h.0, held-left f l m h.1)

pub held-right : (f : ℕ → List ℕ) (l m : List Row) → Held f (l ++ m) → Held f m
held-right f [] m h = h
held-right f (r ∷ l) m h = held-right f l m h.1

pub held-join : (f : ℕ → List ℕ) (l m : List Row) → Held f l → Held f m → Held f (l ++ m)
held-join f [] m h k = k
held-join f (r ∷ l) m h k = (h.0, held-join f l m h.1 k)

-- what holds the rows gives the row at each of their places
pub held-at : (f : ℕ → List ℕ) (rows : List Row) (k : ℕ) → Held f rows → 0 < occurs k (places rows) → f k ≡ row_at rows k
held-at f [] k h q = absurd (omega arith)
held-at f (r ∷ rows) k h q =
    elim (ℕ_discrete k r.place) [
      | yes e ↦ rw (eq-eqb k r.place e) (ap f e ∙ h.0)
      | no e ↦ rw (ne_eqb k r.place e) (held-at f rows k h.1 (omega (arith, other k r.place e)))
    ]

-- what agrees at their places holds them too
pub held_same : (f g : ℕ → List ℕ) (rows : List Row) → ((k : ℕ) → 0 < occurs k (places rows) → g k ≡ f k) → Held f rows → Held g rows
held_same f g [] e h = tt
held_same f g (r ∷ rows) e h = (e r.place (omega (arith, self r.place)) ∙ h.0, held_same f g rows (λ k q. e k (omega arith)) h.1)

-- rows at different places are held by `row_at`
pub at_held : (rows : List Row) → ((k : ℕ) → occurs k (places rows) ≤ 1) → Held (row_at rows) rows
at_held [] u = tt
at_held (r ∷ rows) u = (
  rw (eq-eqb r.place r.place refl),
  held_same (row_at rows) (row_at (r ∷ rows)) rows
      (λ k q. rw (ne_eqb k r.place (λ e. let z : one (eqb k r.place) ≡ 1 = ap one (eq-eqb k r.place e) in omega (arith, u k))))
      (at_held rows (λ k. omega (arith, u k))),
)

-- what is so of every row is so of the row at a place
pub row_has : (P : List ℕ → Type 0) (rows : List Row) (k : ℕ) → All (λ (r : Row). P r.bytes) rows → 0 < occurs k (places rows) → P (row_at rows k)
row_has P [] k h q = absurd (omega arith)
row_has P (r ∷ rows) k h q =
    elim (ℕ_discrete k r.place) [
      | yes e ↦ rw (eq-eqb k r.place e) h.0
      | no e ↦ rw (ne_eqb k r.place e) (row_has P rows k h.1 (omega (arith, other k r.place e)))
    ]

pub places-append : (l m : List Row) → places (l ++ m) ≡ places l ++ places m
places-append [] m = refl
places-append (r ∷ l) m = ap (λ (x : List ℕ). r.place ∷ x) (places-append l m)

-- ---- tables

-- what is so of a row at each of n places from k on
abbrev pub From : ℕ → ℕ → (ℕ → Type 0) → Type 0
From k n P = (j : ℕ) → k ≤ j → j < k + n → P j

pub table_same : (f g : ℕ → List ℕ) (k n : ℕ) → From k n (λ j. f j ≡ g j) → table f k n ≡ table g k n
table_same f g k zero e = refl
table_same f g k (suc n) e = λ i. e k (omega arith) (omega arith) i ++ table_same f g (suc k) n (λ j a b. e j (omega arith) (omega arith)) i

pub table-bytes : (f : ℕ → List ℕ) (k n : ℕ) → From k n (λ j. Bytes (f j)) → Bytes (table f k n)
table-bytes f k zero h = bytes-nil
table-bytes f k (suc n) h = bytes-append (f k) (table f (suc k) n) (h k (omega arith) (omega arith)) (table-bytes f (suc k) n (λ j a b. h j (omega arith) (omega arith)))

module _ (start size : ℕ) where
  abbrev off : ℕ → ℕ
  off k = row_off start size k

  -- rows stand one behind the other
  pub off-step : (k : ℕ) → 0 < k → off (suc k) ≡ off k + size
  off-step zero h = absurd (omega arith)
  off-step (suc j) h =
      let a : suc (suc j) - 1 ≡ suc j = omega arith in
      let b : suc j - 1 ≡ j = omega arith in
      let m : size * suc j ≡ size * j + size = omega arith in
      ap (λ (x : ℕ). start + size * x) a ∙ omega (arith, m, ap (λ (x : ℕ). size * x) b)

  -- bytes are their rows
  pub table_of : (b : List ℕ) (k n : ℕ) → 0 < k → drop (off k) b ≡ table (λ j. part b (off j) size) k n ++ drop (off (k + n)) b
  unfolding part
  table_of b k zero h = ap (λ (x : ℕ). drop (off x) b) (sym (add-zero k))
  table_of b k (suc n) h =
      let e : suc k + n ≡ k + suc n = omega arith in
      sym (take-append-drop size (drop (off k) b))
      ∙ ap (λ (l : List ℕ). take size (drop (off k) b) ++ l)
      (drop-drop size (off k) b ∙ ap (λ (x : ℕ). drop x b) (sym (off-step k h)) ∙ table_of b (suc k) n (omega arith)
      ∙ ap (λ (x : ℕ). table (λ j. part b (off j) size) (suc k) n ++ drop (off x) b) e)
      ∙ sym (append_assoc (take size (drop (off k) b)) (table (λ j. part b (off j) size) (suc k) n) (drop (off (k + suc n)) b))

  module _ (f : ℕ → List ℕ) where
    pub table-length : (k n : ℕ) → 0 < k → From k n (λ j. length (f j) ≡ size) → off k + length (table f k n) ≡ off (k + n)
    table-length k zero p h = add-zero (off k) ∙ ap off (sym (add-zero k))
    table-length k (suc n) p h =
        let e : off (suc k + n) ≡ off (k + suc n) = ap off (omega arith) in
        omega (
          arith,
          length-append (f k) (table f (suc k) n),
          h k (omega arith) (omega arith),
          off-step k p,
          table-length (suc k) n (omega arith) (λ j a b. h j (omega arith) (omega arith)),
        )

    -- the row at a place of a table
    pub table_at : (pre post : List ℕ) (k n j : ℕ) → 0 < k → length pre ≡ off k → From k n (λ j. length (f j) ≡ size) → k ≤ j → j < k + n
        → part (pre ++ (table f k n ++ post)) (off j) size ≡ f j
    table_at pre post k zero j p l h a b = absurd (omega arith)
    table_at pre post k (suc n) j p l h a b =
        elim (ℕ_discrete k j) [
          | yes e ↦ (let w : off j ≡ off k + 0 = ap off (sym e) ∙ sym (add-zero (off k)) in
              ap (λ (x : ℕ). part (pre ++ (f k ++ table f (suc k) n ++ post)) x size) w
              ∙ part-skip pre (f k ++ table f (suc k) n ++ post) (off k) 0 size l
              ∙ ap (λ (x : List ℕ). part x 0 size) (append_assoc (f k) (table f (suc k) n) post)
              ∙ part-here (f k) (table f (suc k) n ++ post) size (h k (omega arith) (omega arith))
              ∙ ap f e)
          | no e ↦
              ap (λ (x : List ℕ). part x (off j) size)
              (ap (λ (x : List ℕ). pre ++ x) (append_assoc (f k) (table f (suc k) n) post) ∙ sym (append_assoc pre (f k) (table f (suc k) n ++ post)))
              ∙ table_at (pre ++ f k) post (suc k) n j (omega arith)
              (omega (arith, length-append pre (f k), h k (omega arith) (omega arith), off-step k p)) (λ i c d. h i (omega arith) (omega arith)) (omega (arith, e)) (omega arith)
        ]
