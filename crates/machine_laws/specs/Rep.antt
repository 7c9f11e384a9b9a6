-- `Rep s b`: the bytes b hold the rows of the store s at their places. Of a valid store exactly one list of bytes does: its encoding.
-- Assumes nothing.
use Rattle.std.specs.Prelude.{ℕ, ◌+◌, ◌≤◌, ◌<◌, ◌≡◌, refl}
use Rattle.std.proofs.Common.{arith, ◌∙◌, length-append, take-append-drop}
use Rattle.std.proofs.Math.Path.{sym, ap}
use mathlib.Core.List.{List, [], ◌++◌, append_assoc, append-nil}
use Rattle.std.proofs.Math.ListN.{length, drop, drop_of_length-le}
use Rattle.octets.specs.Octets.{part}
use Rattle.octets.specs.Bools.{one}
use Rattle.octets.specs.BoolsLaws.{one-le}
use Rattle.octets.specs.Lists.{All}
use Rattle.octets.specs.ListsLaws.{all-to, all_of, all_left, all_right}
use Rattle.octets.specs.PartsLaws.{part-here}
use Rattle.machine.specs.Limits.{head_bytes, rec_count, rec_bytes, cell_bytes, store_bytes}
use Rattle.machine.specs.Codes.{held_kind, kind_whole}
use Rattle.machine.specs.Values.{Cell, Rec, Store}
use Rattle.machine.specs.Rows.{row_at, table}
use Rattle.machine_laws.specs.Rows.{places, Held, held-at, held_same, at_held, row_has, table_same, table_of, table-length, table_at}
use Rattle.machine.specs.Counting.{occurs, inside}
use Rattle.machine.specs.Layout.{rec_off, cell_off, head_row, rec_row, cell_row, rec_rows, cell_rows, encode, rec_at, cell_at}
use Rattle.machine.specs.Sound.{rec_places, cell_places}
use Rattle.machine.specs.Valid.{CellSized, RecSized, Valid}
use Rattle.machine_laws.specs.Counting.{one_inside, inside_one}
use Rattle.machine_laws.specs.FreeRow.{free-length}
use Rattle.machine_laws.specs.RecRow.{rec-length}
use Rattle.machine_laws.specs.CellRow.{cell-length}
use Rattle.machine_laws.specs.StoreRows.{rec-places, cell-places, recs-have, cells-have}

pub record Rep (s : Store) (b : List ℕ) : Type 0 where
  pub size : length b ≡ store_bytes s.setup.cells
  pub head : part b 0 head_bytes ≡ head_row s
  pub recs : Held (rec_at b) (rec_rows s)
  pub cells : Held (cell_at b) (cell_rows s)

module _ (role : ℕ) (s : Store) (v : Valid role s) where
  abbrev C : ℕ
  C = s.setup.cells

  -- each place has one row
  pub rec-once : (k : ℕ) → occurs k (places (rec_rows s)) ≡ one (inside rec_count k)
  rec-once k = ap (occurs k) (rec-places s) ∙ v.recs k

  pub cell-once : (k : ℕ) → occurs k (places (cell_rows s)) ≡ one (inside C k)
  cell-once k = ap (occurs k) (cell-places s) ∙ v.cells k

  pub rec-there : (k : ℕ) → 1 ≤ k → k < 1 + rec_count → 0 < occurs k (places (rec_rows s))
  rec-there k a b = omega (arith, rec-once k, inside_one rec_count k a (omega arith))

  pub cell-there : (k : ℕ) → 1 ≤ k → k < 1 + C → 0 < occurs k (places (cell_rows s))
  cell-there k a b = omega (arith, cell-once k, inside_one C k a (omega arith))

  -- what holds the rows of a store is its encoding
  pub rep-encode : (b : List ℕ) → Rep s b → b ≡ encode s
  unfolding encode part
  rep-encode b r =
      let q : length b ≤ cell_off (1 + C) = omega (arith, r.size) in
      let none : drop (cell_off (1 + C)) b ≡ [] = drop_of_length-le b q in
      let recs = table_same (rec_at b) (row_at (rec_rows s)) 1 rec_count (λ k h g. held-at (rec_at b) (rec_rows s) k r.recs (rec-there k h g)) in
      let cells = table_same (cell_at b) (row_at (cell_rows s)) 1 C (λ k h g. held-at (cell_at b) (cell_rows s) k r.cells (cell-there k h g)) in
      sym (take-append-drop head_bytes b)
      ∙ (λ i. r.head i ++ (table_of head_bytes rec_bytes b 1 rec_count (omega arith)
      ∙ (λ j. recs j ++ (table_of (store_bytes 0) cell_bytes b 1 C (omega arith) ∙ (λ h. cells h ++ none h) ∙ append-nil (table (row_at (cell_rows s)) 1 C)) j)) i)

  -- ---- the encoding holds the rows

  abbrev Any : ℕ → Type 0
  Any n = Unit {0}

  rec-long : (kind : ℕ) (l : List Rec) → All RecSized l → All (λ (r : Rec). (next : ℕ) → Any next → length (rec_row kind next r) ≡ rec_bytes) l
  rec-long kind l z = all-to RecSized (λ r. (next : ℕ) → Any next → length (rec_row kind next r) ≡ rec_bytes) l (λ r y next g. rec-length kind next r y) z

  cell-long : (r : Rec) → RecSized r → All (λ (c : Cell). (next : ℕ) → Any next → length (cell_row next c) ≡ cell_bytes) r.cells
  cell-long r z = all-to CellSized (λ c. (next : ℕ) → Any next → length (cell_row next c) ≡ cell_bytes) r.cells (λ c y next g. cell-length next c y) z.cells

  abbrev R : ℕ → List ℕ
  R = row_at (rec_rows s)

  abbrev K : ℕ → List ℕ
  K = row_at (cell_rows s)

  rec-size : (k : ℕ) → 1 ≤ k → k < 1 + rec_count → length (R k) ≡ rec_bytes
  rec-size k a b =
      row_has (λ l. length l ≡ rec_bytes) (rec_rows s) k
      (recs-have (λ l. length l ≡ rec_bytes) Any tt s (all_of Any (rec_places s) (λ n. tt)) (λ p next g. free-length rec_bytes next p (omega arith))
      (rec-long (held_kind s.setup.role) s.held (all_left RecSized s.held s.whole v.sized))
      (rec-long kind_whole s.whole (all_right RecSized s.held s.whole v.sized)))
      (rec-there k a b)

  cell-size : (k : ℕ) → 1 ≤ k → k < 1 + C → length (K k) ≡ cell_bytes
  cell-size k a b =
      row_has (λ l. length l ≡ cell_bytes) (cell_rows s) k
      (cells-have (λ l. length l ≡ cell_bytes) Any tt s (all_of Any (cell_places s) (λ n. tt)) (λ p next g. free-length cell_bytes next p (omega arith))
      (all-to RecSized (λ r. All (λ (c : Cell). (next : ℕ) → Any next → length (cell_row next c) ≡ cell_bytes) r.cells) (s.held ++ s.whole) cell-long v.sized))
      (cell-there k a b)

  recs-size : head_bytes + length (table R 1 rec_count) ≡ store_bytes 0
  recs-size = table-length head_bytes rec_bytes R 1 rec_count (omega arith) rec-size

  -- the encoding in the groups in which its rows are found
  by-rec : encode s ≡ head_row s ++ (table R 1 rec_count ++ (table K 1 C ++ []))
  unfolding encode
  by-rec = ap (λ (x : List ℕ). head_row s ++ (table R 1 rec_count ++ x)) (sym (append-nil (table K 1 C)))

  by-cell : encode s ≡ (head_row s ++ table R 1 rec_count) ++ (table K 1 C ++ [])
  by-cell = by-rec ∙ sym (append_assoc (head_row s) (table R 1 rec_count) (table K 1 C ++ []))

  pub length-encode : length (encode s) ≡ store_bytes C
  length-encode =
      ap length by-cell
      ∙ omega (
        arith,
        length-append (head_row s ++ table R 1 rec_count) (table K 1 C ++ []),
        length-append (head_row s) (table R 1 rec_count),
        length-append (table K 1 C) [],
        recs-size,
        table-length (store_bytes 0) cell_bytes K 1 C (omega arith) cell-size,
      )

  pub encode-rep : Rep s (encode s)
  encode-rep = record {
    size = length-encode;
    head = ap (λ (x : List ℕ). part x 0 head_bytes) by-rec ∙ part-here (head_row s) (table R 1 rec_count ++ (table K 1 C ++ [])) head_bytes refl;
    recs = held_same R (rec_at (encode s)) (rec_rows s) rec-in (at_held (rec_rows s) (λ k. omega (arith, rec-once k, one-le (inside rec_count k))));
    cells = held_same K (cell_at (encode s)) (cell_rows s) cell_in (at_held (cell_rows s) (λ k. omega (arith, cell-once k, one-le (inside C k))));
  }
    where
      rec-in : (k : ℕ) → 0 < occurs k (places (rec_rows s)) → rec_at (encode s) k ≡ R k
      rec-in k q =
          let z = one_inside rec_count k (omega (arith, rec-once k)) in
          ap (λ (x : List ℕ). part x (rec_off k) rec_bytes) by-rec
          ∙ table_at head_bytes rec_bytes R (head_row s) (table K 1 C ++ []) 1 rec_count k (omega arith) refl rec-size z.0 (omega arith)

      cell_in : (k : ℕ) → 0 < occurs k (places (cell_rows s)) → cell_at (encode s) k ≡ K k
      cell_in k q =
          let z = one_inside C k (omega (arith, cell-once k)) in
          ap (λ (x : List ℕ). part x (cell_off k) cell_bytes) by-cell
          ∙ table_at (store_bytes 0) cell_bytes K (head_row s ++ table R 1 rec_count) [] 1 C k (omega arith)
          (omega (arith, length-append (head_row s) (table R 1 rec_count), recs-size)) cell-size z.0 (omega arith)
