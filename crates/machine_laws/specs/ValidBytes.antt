-- The encoding of a valid store is bytes. Assumes nothing.
use Rattle.std.specs.Prelude.{ℕ, ◌+◌, ◌≤◌, ◌<◌, ◌≡◌, true, List, [], ◌∷◌, ◌++◌, map, length, eqb}
use Rattle.std.proofs.Common.{arith, eqb-true}
use Rattle.octets.specs.Octets.{Bytes}
use Rattle.octets.specs.BoolsLaws.{cases}
use Rattle.octets.specs.Lists.{All}
use Rattle.octets.specs.ListsLaws.{all-to, all-zip, all_left, all_right, all_join, ◌&◌}
use Rattle.machine.specs.Limits.{head_bytes, rec_count, rec_bytes, cell_bytes}
use Rattle.machine.specs.Codes.{role_receive, role_send, held_kind, kind_whole, is_role}
use Rattle.machine.specs.Values.{Cell, Rec, Store}
use Rattle.machine.specs.Rows.{row_at, table}
use Rattle.machine.specs.Layout.{form, cell_place, rec_place, head_row, head_fields, rec_front, rec_row, cell_row, rec_rows, cell_rows, encode}
use Rattle.machine.specs.Sound.{cell_fits, rec_fits, rec_places, piece_places, cell_places}
use Rattle.machine.specs.Valid.{CellSized, RecSized, Valid}
use Rattle.machine_laws.specs.Fields.{bytes_of, bytes-append, bytes-pad}
use Rattle.machine_laws.specs.Counting.{few-inside}
use Rattle.machine_laws.specs.Rows.{row_has, table-bytes}
use Rattle.machine_laws.specs.Chains.{first-has}
use Rattle.machine_laws.specs.FreeRow.{free_bytes}
use Rattle.machine_laws.specs.RecRow.{rec-bytes}
use Rattle.machine_laws.specs.CellRow.{cell-bytes}
use Rattle.machine_laws.specs.StoreRows.{recs-have, cells-have}
use Rattle.machine_laws.specs.Rep.{rec-there, cell-there}
use Rattle.machine_laws.specs.Fine.{fits-fine, slots-few, rising-below, sending-small, cell-small}

abbrev Byte : ℕ → Type 0
Byte n = n < 256

role-byte : (role : ℕ) → is_role role ≡ true → role < 256
role-byte role h =
    cases (eqb role role_receive)
    (λ e. omega (arith, eqb-true role role_receive e))
    (λ e. omega (arith, eqb-true role role_send (rw e at h)))

kind-byte : (role : ℕ) → held_kind role < 256
kind-byte role = cases (eqb role role_receive) (λ e. rw e (omega arith)) (λ e. rw e (omega arith))

-- the pieces' places, record by record
by-record : (l : List Rec) → All Byte (piece_places l) → All (λ (r : Rec). All Byte (map cell_place r.cells)) l
by-record [] g = tt
by-record (r ∷ l) g = (all_left Byte (map cell_place r.cells) (piece_places l) g, by-record l (all_right Byte (map cell_place r.cells) (piece_places l) g))

-- a record whose fields have their widths and whose pieces stand at places that fit a byte
abbrev Sized : Rec → Type 0
Sized r = RecSized r × All Byte (map cell_place r.cells)

-- a record of which all rows are bytes
abbrev Good : ℕ → ℕ → Rec → Type 0
Good role kind r = Sized r × (rec_fits role kind r ≡ true)

-- the single bytes of a record's fields
record Small (r : Rec) : Type 0 where
  reply : r.label.reply < 256
  state : r.sending.state < 256
  timed_out : r.sending.timed_out < 256
  topic : length r.label.topic < 256
  slots : r.slots < 256

rec-small : (role kind : ℕ) (r : Rec) → Good role kind r → Small r
rec-small role kind r g =
    let f = fits-fine role kind r g.1 in
    let x = sending-small role r.sending f.sending in
    record {
      reply = omega (arith, f.reply);
      state = omega (arith, x.0);
      timed_out = omega (arith, x.1);
      topic = omega (arith, g.0.0.label.topic.0);
      slots = omega (arith, f.high, slots-few r.label.total f.total);
    }

rec-good : (role kind : ℕ) → kind < 256 → (r : Rec) → Good role kind r → (next : ℕ) → next < 256 → Bytes (rec_row kind next r)
rec-good role kind k r g next h =
    let small = rec-small role kind r g in
    rec-bytes kind next r g.0.0
    (bytes_of (rec_front kind next r)
    (h & k & small.reply & small.state & small.timed_out & first-has Byte (map cell_place r.cells) (omega arith) g.0.1 & small.topic & small.slots & tt))

cells-good : (role kind : ℕ) (r : Rec) → Good role kind r → All (λ (c : Cell). (next : ℕ) → next < 256 → Bytes (cell_row next c)) r.cells
cells-good role kind r g =
    let f = fits-fine role kind r g.1 in
    all-to (λ c. (CellSized c × (cell_fits role c ≡ true)) × (c.index < r.slots)) (λ c. (next : ℕ) → next < 256 → Bytes (cell_row next c)) r.cells
    (λ c z next h.
    cell-bytes next c z.0.0 h (omega (arith, z.1, f.high, slots-few r.label.total f.total)) (omega (arith, cell-small role c z.0.1)))
    (all-zip (λ c. CellSized c × (cell_fits role c ≡ true)) (λ c. c.index < r.slots) r.cells
    (all-zip CellSized (λ c. cell_fits role c ≡ true) r.cells g.0.0.cells f.cells)
    (rising-below 0 r.slots r.cells f.rises))

module _ (role : ℕ) (s : Store) (v : Valid role s) where
  abbrev C : ℕ
  C = s.setup.cells

  recs-byte : All Byte (rec_places s)
  recs-byte = all-to (λ p. (0 < p) × (p ≤ rec_count)) Byte (rec_places s) (λ p h. omega arith) (few-inside rec_count (rec_places s) (λ k. omega (arith, v.recs k)))

  cells-byte : All Byte (cell_places s)
  cells-byte = all-to (λ p. (0 < p) × (p ≤ C)) Byte (cell_places s) (λ p h. omega (arith, v.most)) (few-inside C (cell_places s) (λ k. omega (arith, v.cells k)))

  sized : All Sized (s.held ++ s.whole)
  sized =
      all-zip RecSized (λ r. All Byte (map cell_place r.cells)) (s.held ++ s.whole) v.sized
      (by-record (s.held ++ s.whole) (all_right Byte s.free_cells (piece_places (s.held ++ s.whole)) cells-byte))

  held-good : All (Good role (held_kind role)) s.held
  held-good = all-zip Sized (λ r. rec_fits role (held_kind role) r ≡ true) s.held (all_left Sized s.held s.whole sized) v.held

  whole-good : All (Good role kind_whole) s.whole
  whole-good = all-zip Sized (λ r. rec_fits role kind_whole r ≡ true) s.whole (all_right Sized s.held s.whole sized) v.whole

  rec-rows : (k : ℕ) → 1 ≤ k → k < 1 + rec_count → Bytes (row_at (rec_rows s) k)
  rec-rows k a b =
      row_has Bytes (rec_rows s) k
      (recs-have Bytes Byte (omega arith) s recs-byte (λ p next h. free_bytes rec_bytes next p h)
      (all-to (Good role (held_kind role)) (λ r. (next : ℕ) → next < 256 → Bytes (rec_row (held_kind s.setup.role) next r)) s.held
      (λ r g. rw v.in_role (rec-good role (held_kind role) (kind-byte role) r g)) held-good)
      (all-to (Good role kind_whole) (λ r. (next : ℕ) → next < 256 → Bytes (rec_row kind_whole next r)) s.whole (rec-good role kind_whole (omega arith)) whole-good))
      (rec-there role s v k a b)

  abbrev PiecesGood : Rec → Type 0
  PiecesGood r = All (λ (c : Cell). (next : ℕ) → next < 256 → Bytes (cell_row next c)) r.cells

  cell-rows : (k : ℕ) → 1 ≤ k → k < 1 + C → Bytes (row_at (cell_rows s) k)
  cell-rows k a b =
      row_has Bytes (cell_rows s) k
      (cells-have Bytes Byte (omega arith) s cells-byte (λ p next h. free_bytes cell_bytes next p h)
      (all_join PiecesGood s.held s.whole
      (all-to (Good role (held_kind role)) PiecesGood s.held (cells-good role (held_kind role)) held-good)
      (all-to (Good role kind_whole) PiecesGood s.whole (cells-good role kind_whole) whole-good)))
      (cell-there role s v k a b)

  head_bytes_lem : Bytes (head_row s)
  head_bytes_lem =
      let rest = all_right Byte s.free (map rec_place s.held ++ map rec_place s.whole) recs-byte in
      let free = first-has Byte s.free (omega arith) (all_left Byte s.free (map rec_place s.held ++ map rec_place s.whole) recs-byte) in
      let held = first-has Byte (map rec_place s.held) (omega arith) (all_left Byte (map rec_place s.held) (map rec_place s.whole) rest) in
      let whole = first-has Byte (map rec_place s.whole) (omega arith) (all_right Byte (map rec_place s.held) (map rec_place s.whole) rest) in
      let free_cells = first-has Byte s.free_cells (omega arith) (all_left Byte s.free_cells (piece_places (s.held ++ s.whole)) cells-byte) in
      let formed : form < 256 = omega arith in
      let count : C < 256 = omega (arith, v.most) in
      let in_role : s.setup.role < 256 = omega (arith, v.in_role, role-byte role v.roles) in
      bytes-pad head_bytes (head_fields s) (bytes_of (head_fields s) (free & held & whole & free_cells & formed & count & in_role & tt))

  pub valid-bytes : Bytes (encode s)
  unfolding encode
  valid-bytes =
      bytes-append (head_row s) (table (row_at (rec_rows s)) 1 rec_count ++ table (row_at (cell_rows s)) 1 C) head_bytes_lem
      (bytes-append (table (row_at (rec_rows s)) 1 rec_count) (table (row_at (cell_rows s)) 1 C)
      (table-bytes (row_at (rec_rows s)) 1 rec_count rec-rows) (table-bytes (row_at (cell_rows s)) 1 C cell-rows))
