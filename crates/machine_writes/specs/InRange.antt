-- The bytes of a valid store have every link and size in range, and so have sound bytes. Assumes nothing.
use Rattle.std.specs.Prelude.{ℕ, ◌+◌, ◌≤◌, ◌<◌, ◌≡◌, true, List, [], ◌∷◌, ◌++◌, map, get_or}
use Rattle.std.proofs.Common.{arith, sym, ap, subst, leb-true}
use Rattle.octets.specs.Octets.{part, num, Bytes}
use Rattle.octets.specs.Lists.{All}
use Rattle.octets.specs.ListsLaws.{all-to, all_left, all_right}
use Rattle.octets.specs.PartsLaws.{get_or-part, part-part}
use Rattle.machine.specs.Limits.{rec_count, rec_bytes, cell_bytes}
use Rattle.machine.specs.Codes.{held_kind, kind_whole}
use Rattle.machine.specs.Values.{Cell, Rec, Store}
use Rattle.machine.specs.Chains.{first, next_at}
use Rattle.machine.specs.Layout.{free_at, held_at, whole_at, free_cells_at, count_at, first_cell_at, size_at, size_width, rec_off, cell_off, cell_place, rec_place}
use Rattle.machine.specs.Layout.{free_row, rec_row, cell_row, rec_rows, cell_rows, rec_at, cell_at, num_at, decode}
use Rattle.machine.specs.Sound.{rec_places, piece_places, cell_places, cell_tests, sound}
use Rattle.machine.specs.Valid.{CellSized, RecSized, Valid}
use Rattle.packet.specs.Frame.{largest_piece}
use Rattle.machine_laws.specs.Tests.{every_true}
use Rattle.machine_laws.specs.Counting.{few-inside}
use Rattle.machine_laws.specs.Rows.{held-at, row_has}
use Rattle.machine_laws.specs.Chains.{first-has}
use Rattle.machine_laws.specs.StoreRows.{recs-have, cells-have}
use Rattle.machine_laws.specs.RecRow.{rec-link, rec-first}
use Rattle.machine_laws.specs.CellRow.{cell-link, cell-shape}
use Rattle.machine_laws.specs.Rep.{Rep, rec-there, cell-there, encode-rep}
use Rattle.machine_laws.specs.Walks.{head_byte}
use Rattle.machine_laws.specs.SoundValid.{sound-valid}
use Rattle.machine_writes.specs.Byte.{first_byte}
use Rattle.machine_writes.specs.Links.{count, RecLink, Links}

-- sound bytes hold the store that they read as
pub sound-rep : (role : ℕ) (b : List ℕ) → Bytes b → sound role b ≡ true → Rep (decode b) b
sound-rep role b y t = let z = sound-valid role b y t in subst (Rep (decode b)) z.1 (encode-rep role (decode b) z.0)

module _ (role : ℕ) (s : Store) (v : Valid role s) (b : List ℕ) (rep : Rep s b) where
  abbrev C : ℕ
  C = s.setup.cells

  -- places are in range
  abbrev Low : ℕ → ℕ → Type 0
  Low n k = k ≤ n

  recs-low : All (Low rec_count) (rec_places s)
  recs-low = all-to (λ p. (0 < p) × (p ≤ rec_count)) (Low rec_count) (rec_places s) (λ p z. z.1) (few-inside rec_count (rec_places s) (λ k. omega (arith, v.recs k)))

  cells_low : All (Low C) (cell_places s)
  cells_low = all-to (λ p. (0 < p) × (p ≤ C)) (Low C) (cell_places s) (λ p z. z.1) (few-inside C (cell_places s) (λ k. omega (arith, v.cells k)))

  -- ---- rows

  -- links of a record's row, link and size of a cell's
  abbrev RecLow : List ℕ → Type 0
  RecLow row = (get_or row next_at 0 ≤ rec_count) × (get_or row first_cell_at 0 ≤ C)

  abbrev CellLow : List ℕ → Type 0
  CellLow row = (get_or row next_at 0 ≤ C) × (num_at size_width row size_at ≤ largest_piece)

  -- the records with pieces at places in range
  by-rec : (l : List Rec) → All (Low C) (piece_places l) → All RecSized l → All (λ (r : Rec). RecSized r × (first (map cell_place r.cells) ≤ C)) l
  by-rec [] h z = tt
  by-rec (r ∷ l) h z = (
    (z.0, first-has (Low C) (map cell_place r.cells) (omega arith) (all_left (Low C) (map cell_place r.cells) (piece_places l) h)),
    by-rec l (all_right (Low C) (map cell_place r.cells) (piece_places l) h) z.1,
  )

  recs-fine : All (λ (r : Rec). RecSized r × (first (map cell_place r.cells) ≤ C)) (s.held ++ s.whole)
  recs-fine = by-rec (s.held ++ s.whole) (all_right (Low C) s.free_cells (piece_places (s.held ++ s.whole)) cells_low) v.sized

  rec-low : (kind : ℕ) (r : Rec) → RecSized r × (first (map cell_place r.cells) ≤ C) → (next : ℕ) → next ≤ rec_count → RecLow (rec_row kind next r)
  rec-low kind r z next h = (omega (arith, rec-link kind next r z.0), omega (arith, rec-first kind next r z.0, z.1))

  cell-low : (c : Cell) → CellSized c → (next : ℕ) → next ≤ C → CellLow (cell_row next c)
  cell-low c z next h = (
    omega (arith, cell-link next c z),
    leb-true (num_at size_width (cell_row next c) size_at) largest_piece (every_true (cell_tests (cell_row next c)) (cell-shape next c z)).0,
  )

  free-cell-low : (p next : ℕ) → next ≤ C → CellLow (free_row cell_bytes next p)
  unfolding part num
  free-cell-low p next h = (h, omega arith)

  rec-at : (k : ℕ) → 0 < k → k ≤ rec_count → RecLow (rec_at b k)
  rec-at k h g =
      let there = rec-there role s v k h (omega arith) in
      subst RecLow (sym (held-at (rec_at b) (rec_rows s) k rep.recs there))
      (row_has RecLow (rec_rows s) k
      (recs-have RecLow (Low rec_count) (omega arith) s recs-low (λ p next q. (q, omega arith))
      (all-to (λ (r : Rec). RecSized r × (first (map cell_place r.cells) ≤ C)) (λ r. (next : ℕ) → next ≤ rec_count → RecLow (rec_row (held_kind s.setup.role) next r)) s.held
      (rec-low (held_kind s.setup.role)) (all_left (λ (r : Rec). RecSized r × (first (map cell_place r.cells) ≤ C)) s.held s.whole recs-fine))
      (all-to (λ (r : Rec). RecSized r × (first (map cell_place r.cells) ≤ C)) (λ r. (next : ℕ) → next ≤ rec_count → RecLow (rec_row kind_whole next r)) s.whole
      (rec-low kind_whole) (all_right (λ (r : Rec). RecSized r × (first (map cell_place r.cells) ≤ C)) s.held s.whole recs-fine)))
      there)

  cell-at : (k : ℕ) → 0 < k → k ≤ C → CellLow (cell_at b k)
  cell-at k h g =
      let there = cell-there role s v k h (omega arith) in
      subst CellLow (sym (held-at (cell_at b) (cell_rows s) k rep.cells there))
      (row_has CellLow (cell_rows s) k
      (cells-have CellLow (Low C) (omega arith) s cells_low free-cell-low
      (all-to RecSized (λ r. All (λ (c : Cell). (next : ℕ) → next ≤ C → CellLow (cell_row next c)) r.cells) (s.held ++ s.whole)
      (λ r z. all-to CellSized (λ c. (next : ℕ) → next ≤ C → CellLow (cell_row next c)) r.cells cell-low z.cells) v.sized))
      there)

  -- ---- bytes

  counts : count b ≡ C
  counts = head_byte role s v b rep count_at (omega arith)

  -- a byte of the head that is the first place of a chain of records
  head-link : (j : ℕ) → j < free_cells_at → (l : List ℕ) → get_or b j 0 ≡ first l → All (Low rec_count) l → RecLink b j
  head-link j h l e z = record { inside = omega arith; small = omega (arith, e, first-has (Low rec_count) l (omega arith) z); no_free = λ q. omega arith; no_first = λ k q. omega arith }

  apart : (k j : ℕ) → rec_off k ≡ rec_off j + first_cell_at → ⊥
  apart k j q = omega arith

  pub valid-links : Links b
  valid-links =
      let rest = all_right (Low rec_count) s.free (map rec_place s.held ++ map rec_place s.whole) recs-low in
      record {
        some = omega (arith, counts, v.some);
        most = omega (arith, counts, v.most);
        long = omega (arith, counts, rep.size);
        free = head-link free_at (omega arith) s.free (head_byte role s v b rep free_at (omega arith))
            (all_left (Low rec_count) s.free (map rec_place s.held ++ map rec_place s.whole) recs-low);
        held = head-link held_at (omega arith) (map rec_place s.held) (head_byte role s v b rep held_at (omega arith))
            (all_left (Low rec_count) (map rec_place s.held) (map rec_place s.whole) rest);
        whole = head-link whole_at (omega arith) (map rec_place s.whole) (head_byte role s v b rep whole_at (omega arith))
            (all_right (Low rec_count) (map rec_place s.held) (map rec_place s.whole) rest);
        free_cells = omega (
          arith,
          counts,
          head_byte role s v b rep free_cells_at (omega arith),
          first-has (Low C) s.free_cells (omega arith)
              (all_left (Low C) s.free_cells (piece_places (s.held ++ s.whole)) cells_low),
        );
        recs = λ k h g. record {
          inside = omega arith;
          small = omega (arith, (rec-at k h g).0, first_byte b (rec_off k) rec_bytes (omega arith));
          no_free = λ q. omega arith;
          no_first = λ j q. apart k j q;
        };
        firsts = λ k h g. omega (arith, counts, (rec-at k h g).1, get_or-part b (rec_off k) rec_bytes first_cell_at (omega arith));
        cells = λ k h g. omega (arith, counts, (cell-at k h (omega (arith, counts))).0, first_byte b (cell_off k) cell_bytes (omega arith));
        sizes = λ k h g. omega (arith, (cell-at k h (omega (arith, counts))).1, ap (num size_width) (part-part b (cell_off k) cell_bytes size_at size_width (omega arith)));
      }

pub links : (role : ℕ) (b : List ℕ) → Bytes b → sound role b ≡ true → Links b
links role b y t = valid-links role (decode b) (sound-valid role b y t).0 b (sound-rep role b y t)
