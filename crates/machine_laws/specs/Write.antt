-- Writes to bytes that hold rows: a write inside the row at a place changes that row and nothing else. Said once over where rows start and how long
-- they are, then for records, cells and the head. Assumes nothing.
use Rattle.std.specs.Prelude.{ℕ, zero, suc, ◌+◌, ◌≤◌, ◌<◌, ◌≡◌, List, ◌∷◌, ◌++◌, map, length, eqb}
use Rattle.std.proofs.Common.{arith, add-zero, zero-add, sym, ap, ◌∙◌, subst, append_assoc}
use Rattle.std.proofs.Math.Decide.{dec_lt}
use Rattle.octets.specs.Octets.{part, put}
use Rattle.octets.specs.Bools.{one}
use Rattle.octets.specs.PartsLaws.{length-put, part-put-same, part-put-before, part-put-after, part-put-in}
use Rattle.machine.specs.Limits.{head_bytes, rec_count, rec_bytes, cell_bytes, store_bytes}
use Rattle.machine.specs.Rows.{Row, row_off}
use Rattle.machine_laws.specs.Rows.{places, off-step, Held, held-left, held-right, held-join, held_same, places-append}
use Rattle.machine.specs.Chains.{first, chain_rows}
use Rattle.machine.specs.Counting.{occurs}
use Rattle.machine.specs.Layout.{rec_off, cell_off, rec_at, cell_at}
use Rattle.machine_laws.specs.Counting.{self, occurs-append}
use Rattle.machine_laws.specs.Chains.{rows_to, chain-append}

module _ (start size : ℕ) where
  abbrev off : ℕ → ℕ
  off k = row_off start size k

  -- the row at a place of bytes
  abbrev pub row_in : List ℕ → ℕ → List ℕ
  row_in b k = part b (off k) size

  -- b' is b with another row at place k
  pub record Wrote (k : ℕ) (row b b' : List ℕ) : Type 0 where
    pub long : length b' ≡ length b
    pub here : row_in b' k ≡ row
    pub others : (j : ℕ) → 0 < j → (j ≡ k → ⊥) → row_in b' j ≡ row_in b j
    pub before : (o n : ℕ) → o + n ≤ start → part b' o n ≡ part b o n
    pub behind : (o n : ℕ) → off (suc k) ≤ o → part b' o n ≡ part b o n

  off-mono : (j k : ℕ) → 0 < j → j < k → off j + size ≤ off k
  off-mono j zero h g = absurd (omega arith)
  off-mono j (suc k) h g =
      elim (dec_lt j k) [
        | yes q ↦ omega (arith, off-mono j k h q, off-step start size k (omega arith))
        | no q ↦ (let e : off j ≡ off k = ap off (omega arith) in omega (arith, off-step start size k (omega arith)))
      ]

  off-start : (k : ℕ) → start ≤ off k
  off-start k = omega arith

  -- a field of the row at place k is written
  pub write-field : (k o : ℕ) (v b : List ℕ) → 0 < k → off (suc k) ≤ length b → o + length v ≤ size → Wrote k (put (row_in b k) o v) b (put b (off k + o) v)
  write-field k o v b h g q =
      let step = off-step start size k h in
      let fits : off k + o + length v ≤ length b = omega arith in
      record {
        long = length-put b (off k + o) v fits;
        here = part-put-in b (off k) size o v q (omega arith);
        others = λ j i n. elim (dec_lt j k) [
          | yes l ↦ part-put-before b (off k + o) v fits (off j) size (omega (arith, off-mono j k i l))
          | no l ↦ part-put-after b (off k + o) v fits (off j) size (omega (arith, off-mono k j h (omega (arith, n))))
        ];
        before = λ p n l. part-put-before b (off k + o) v fits p n (omega (arith, off-start k));
        behind = λ p n l. part-put-after b (off k + o) v fits p n (omega arith);
      }

  -- the whole row at place k is written
  pub write-row : (k : ℕ) (row b : List ℕ) → 0 < k → off (suc k) ≤ length b → length row ≡ size → Wrote k row b (put b (off k) row)
  write-row k row b h g e =
      let w = write-field k 0 row b h g (omega arith) in
      let at : put b (off k + 0) row ≡ put b (off k) row = ap (λ (o : ℕ). put b o row) (add-zero (off k)) in
      let step = off-step start size k h in
      record {
        long = ap length (sym at) ∙ w.long;
        here = ap (part (put b (off k) row) (off k)) (sym e) ∙ part-put-same b (off k) row (omega arith);
        others = λ j i n. ap (λ (x : List ℕ). row_in x j) (sym at) ∙ w.others j i n;
        before = λ o n l. ap (λ (x : List ℕ). part x o n) (sym at) ∙ w.before o n l;
        behind = λ o n l. ap (λ (x : List ℕ). part x o n) (sym at) ∙ w.behind o n l;
      }

  module _ (k : ℕ) (row b b' : List ℕ) (w : Wrote k row b b') where
    -- rows at other places stay
    pub held-stay : (rows : List Row) → occurs 0 (places rows) ≡ 0 → occurs k (places rows) ≡ 0 → Held (row_in b) rows → Held (row_in b') rows
    held-stay rows z n h =
        held_same (row_in b) (row_in b') rows
        (λ j q. w.others j (positive j q) (λ e. let d : occurs j (places rows) ≡ occurs k (places rows) = ap (λ (x : ℕ). occurs x (places rows)) e in omega arith)) h
      where
        positive : (j : ℕ) → 0 < occurs j (places rows) → 0 < j
        positive zero q = absurd (omega arith)
        positive (suc j) q = omega arith

    -- the row at place k is replaced, those around it stay
    pub held-swap : (l m : List Row) (old : List ℕ) → occurs 0 (places (l ++ (record { place = k; bytes = old } ∷ m))) ≡ 0
        → occurs k (places (l ++ (record { place = k; bytes = old } ∷ m))) ≤ 1
        → Held (row_in b) (l ++ (record { place = k; bytes = old } ∷ m)) → Held (row_in b') (l ++ (record { place = k; bytes = row } ∷ m))
    held-swap l m old z n h =
        let around : (j : ℕ) → occurs j (places (l ++ (record { place = k; bytes = old } ∷ m))) ≡ occurs j (places l) + (one (eqb j k) + occurs j (places m)) =
        λ j. ap (occurs j) (places-append l (record { place = k; bytes = old } ∷ m)) ∙ occurs-append j (places l) (k ∷ places m) in
        held-join (row_in b') l (record { place = k; bytes = row } ∷ m)
        (held-stay l (omega (arith, around 0)) (omega (arith, around k, self k)) (held-left (row_in b) l (record { place = k; bytes = old } ∷ m) h)) (
          w.here,
          held-stay m (omega (arith, around 0)) (omega (arith, around k, self k)) (held-right (row_in b) l (record { place = k; bytes = old } ∷ m) h).1,
        )

-- ---- an element of a chain replaced in its place, between other rows

module _ {A : Type 0} (place : A → ℕ) (row : ℕ → A → List ℕ) (front back : List Row) (l m : List A) where
  -- the rows of the chain that has a between l and m, and the rows around them
  abbrev pub chain_with : A → List Row
  chain_with a = front ++ (chain_rows place row (l ++ (a ∷ m)) ++ back)

  -- they are those before the row of a, which lead to it, that row, and those behind
  around : (a : A) → chain_with a ≡ (front ++ rows_to place row (place a) l) ++ (record { place = place a; bytes = row (first (map place m)) a } ∷ (chain_rows place row m ++ back))
  around a =
      ap (λ (x : List Row). front ++ (x ++ back)) (chain-append place row l (a ∷ m))
      ∙ ap (λ (x : List Row). front ++ x) (append_assoc (rows_to place row (place a) l) (record { place = place a; bytes = row (first (map place m)) a } ∷ chain_rows place row m) back)
      ∙ sym (append_assoc front (rows_to place row (place a) l) (record { place = place a; bytes = row (first (map place m)) a } ∷ (chain_rows place row m ++ back)))

  -- where that one row is written, the chain that has a' in its place is held
  pub chain-swap : (start size : ℕ) (a a' : A) (b b' : List ℕ) → place a' ≡ place a → ((k : ℕ) → occurs k (places (chain_with a)) ≤ 1) → occurs 0 (places (chain_with a)) ≡ 0
      → Wrote start size (place a) (row (first (map place m)) a') b b' → Held (row_in start size b) (chain_with a) → Held (row_in start size b') (chain_with a')
  chain-swap start size a a' b b' e u z w h =
      let next : ℕ = first (map place m) in
      let rest : List Row = chain_rows place row m ++ back in
      let same : chain_with a' ≡ (front ++ rows_to place row (place a) l) ++ (record { place = place a; bytes = row next a' } ∷ rest) =
      around a' ∙ (λ i. (front ++ rows_to place row (e i) l) ++ (record { place = e i; bytes = row next a' } ∷ rest)) in
      let count : (k : ℕ) → occurs k (places (chain_with a)) ≡ occurs k (places ((front ++ rows_to place row (place a) l) ++ (record { place = place a; bytes = row next a } ∷ rest))) =
      λ k. ap (λ (x : List Row). occurs k (places x)) (around a) in
      subst (λ (x : List Row). Held (row_in start size b') x) (sym same)
      (held-swap start size (place a) (row next a') b b' w (front ++ rows_to place row (place a) l) rest (row next a)
      (sym (count 0) ∙ z) (omega (arith, count (place a), u (place a)))
      (subst (λ (x : List Row). Held (row_in start size b) x) (around a) h))

-- ---- records, cells, head

module _ (k : ℕ) (row b b' : List ℕ) where
  -- a record's row is written: head and cells stay
  module _ (w : Wrote head_bytes rec_bytes k row b b') where
    pub rec-leaves-head : part b' 0 head_bytes ≡ part b 0 head_bytes
    rec-leaves-head = w.before 0 head_bytes (omega arith)

    pub rec-leaves-cells : k ≤ rec_count → (j : ℕ) → cell_at b' j ≡ cell_at b j
    rec-leaves-cells h j = w.behind (cell_off j) cell_bytes (omega arith)

  -- a cell's row is written: head and records stay
  module _ (w : Wrote (store_bytes 0) cell_bytes k row b b') where
    pub cell-leaves-head : part b' 0 head_bytes ≡ part b 0 head_bytes
    cell-leaves-head = w.before 0 head_bytes (omega arith)

    pub cell-leaves-recs : (j : ℕ) → j ≤ rec_count → rec_at b' j ≡ rec_at b j
    cell-leaves-recs j h = w.before (rec_off j) rec_bytes (omega arith)

-- a part of the head is written: records and cells stay
module _ (o : ℕ) (v b : List ℕ) (h : o + length v ≤ head_bytes) (g : head_bytes ≤ length b) where
  pub head-write : part (put b o v) 0 head_bytes ≡ put (part b 0 head_bytes) o v
  head-write = ap (λ (x : ℕ). part (put b x v) 0 head_bytes) (sym (zero-add o)) ∙ part-put-in b 0 head_bytes o v h (omega arith)

  pub head-leaves-recs : (j : ℕ) → rec_at (put b o v) j ≡ rec_at b j
  head-leaves-recs j = part-put-after b o v (omega arith) (rec_off j) rec_bytes (omega arith)

  pub head-leaves-cells : (j : ℕ) → cell_at (put b o v) j ≡ cell_at b j
  head-leaves-cells j = part-put-after b o v (omega arith) (cell_off j) cell_bytes (omega arith)
