-- The encoding of a valid store is sound, and reads back as the store. Assumes nothing.
use Rattle.std.specs.Prelude.{ℕ, ◌-◌, ◌≡◌, refl, true, length, get_or}
use Rattle.std.proofs.Common.{arith, sym, ◌∙◌, subst, eq-eqb}
use Rattle.std.proofs.Math.Path.{ap}
use mathlib.Core.List.{List, [], ◌∷◌, ◌++◌, map}
use Rattle.octets.specs.Octets.{part, zeros}
use Rattle.octets.specs.Lists.{all, All}
use Rattle.octets.specs.ListsLaws.{true-all, all-to, all_of, all_left, all_right, ◌&◌}
use Rattle.octets.specs.PartsLaws.{part-part}
use Rattle.machine.specs.Limits.{head_bytes, rec_count, rec_bytes, cell_bytes, most_cells, most_of_source, store_bytes}
use Rattle.machine.specs.Codes.{held_kind, kind_whole}
use Rattle.machine.specs.Values.{Cell, Rec, Store}
use Rattle.machine.specs.Tests.{every}
use Rattle.machine.specs.Rows.{zero_from}
use Rattle.machine.specs.Chains.{first, chain_rows}
use Rattle.machine.specs.Layout.{held_at, whole_at, form_at, form, count_at, role_at, rest_at, first_cell_at, cell_place, rec_place, free_place, head_fields}
use Rattle.machine.specs.Layout.{free_row, rec_row, cell_row, pieces_rows, encode, rec_at, cell_at, cell_of, rec_of, rec_chain, read_cell, read_cells, read_rec}
use Rattle.machine.specs.Layout.{decode}
use Rattle.machine.specs.Sound.{head_tests, shape_tests, rec_fits, rec_places, piece_places, cell_places, rec_shape, cell_shape, free_shape, sound_tests, sound}
use Rattle.machine.specs.Valid.{CellSized, RecSized, Valid}
use Rattle.machine_laws.specs.Tests.{true-every, all_append}
use Rattle.machine_laws.specs.Fields.{pad-zero}
use Rattle.machine_laws.specs.Counting.{is-inside, is-once}
use Rattle.machine_laws.specs.Sources.{is-sources}
use Rattle.machine_laws.specs.Rows.{Held, held-left, held-right}
use Rattle.machine_laws.specs.Chains.{held_test, held-read}
use Rattle.machine_laws.specs.FreeRow.{free-map, free-shape}
use Rattle.machine_laws.specs.RecRow.{rec-back, rec-shape, rec-first}
use Rattle.machine_laws.specs.CellRow.{cell-back, cell-shape}
use Rattle.machine_laws.specs.StoreRows.{held-free, held-held, held_whole, held-free_cells, held-pieces}
use Rattle.machine_laws.specs.Rep.{Rep, encode-rep}
use Rattle.machine_laws.specs.Walks.{Walks, head_byte, free_walk, held-walk, whole-walk, free_cells-walk, pieces-walk}

module _ (b : List ℕ) where
  -- ---- what is read from rows is what they hold

  -- a record whose fields have their widths, and whose pieces are read back
  abbrev Back : Rec → Type 0
  Back r = RecSized r × (read_cells b (first (map cell_place r.cells)) ≡ r.cells)

  pieces-back : (l : List Cell) → All CellSized l → Held (cell_at b) (chain_rows cell_place cell_row l) → map (read_cell b) (map cell_place l) ≡ l
  pieces-back l z h =
      held-read cell_place cell_row (cell_at b) (read_cell b) l
      (all-to CellSized (λ c. (next : ℕ) → cell_at b c.place ≡ cell_row next c → read_cell b c.place ≡ c) l
      (λ c y next e. ap (cell_of c.place) e ∙ cell-back next c y) z) h

  all_back : (l : List Rec) → All RecSized l → All (Walks b) l → Held (cell_at b) (pieces_rows l) → All Back l
  all_back [] z w h = tt
  all_back (r ∷ l) z w h = (
    (z.0, ap (map (read_cell b)) w.0 ∙ pieces-back r.cells z.0.cells (held-left (cell_at b) (chain_rows cell_place cell_row r.cells) (pieces_rows l) h)),
    all_back l z.1 w.1 (held-right (cell_at b) (chain_rows cell_place cell_row r.cells) (pieces_rows l) h),
  )

  rec-read : (kind : ℕ) (r : Rec) → Back r → (next : ℕ) → rec_at b r.place ≡ rec_row kind next r → read_rec b r.place ≡ r
  rec-read kind r z next e =
      (λ i. rec_of r.place (read_cells b (get_or (e i) first_cell_at 0)) (e i))
      ∙ ap (λ (l : List Cell). rec_of r.place l (rec_row kind next r)) (ap (read_cells b) (rec-first kind next r z.0) ∙ z.1)
      ∙ rec-back kind next r z.0

  recs-back : (kind : ℕ) (l : List Rec) → All Back l → Held (rec_at b) (chain_rows rec_place (rec_row kind) l) → map (read_rec b) (map rec_place l) ≡ l
  recs-back kind l z h =
      held-read rec_place (rec_row kind) (rec_at b) (read_rec b) l
      (all-to Back (λ r. (next : ℕ) → rec_at b r.place ≡ rec_row kind next r → read_rec b r.place ≡ r) l (rec-read kind) z) h

  -- ---- rows have their shapes

  pieces-test : (l : List Rec) → All RecSized l → Held (cell_at b) (pieces_rows l) → all (λ p. cell_shape (cell_at b p)) (piece_places l) ≡ true
  pieces-test [] z h = refl
  pieces-test (r ∷ l) z h =
      all_append (λ p. cell_shape (cell_at b p)) (map cell_place r.cells) (piece_places l)
      (true-all (λ p. cell_shape (cell_at b p)) (map cell_place r.cells)
      (held_test cell_place cell_row (cell_at b) cell_shape r.cells
      (all-to CellSized (λ c. (next : ℕ) → cell_shape (cell_row next c) ≡ true) r.cells (λ c y next. cell-shape next c y) z.0.cells)
      (held-left (cell_at b) (chain_rows cell_place cell_row r.cells) (pieces_rows l) h)))
      (pieces-test l z.1 (held-right (cell_at b) (chain_rows cell_place cell_row r.cells) (pieces_rows l) h))

  recs-test : (kind : ℕ) (l : List Rec) → All RecSized l → Held (rec_at b) (chain_rows rec_place (rec_row kind) l) → all (λ p. rec_shape kind (rec_at b p)) (map rec_place l) ≡ true
  recs-test kind l z h =
      true-all (λ p. rec_shape kind (rec_at b p)) (map rec_place l)
      (held_test rec_place (rec_row kind) (rec_at b) (rec_shape kind) l
      (all-to RecSized (λ r. (next : ℕ) → rec_shape kind (rec_row kind next r) ≡ true) l (λ r y next. rec-shape kind next r y) z) h)

free-test : (size : ℕ) (f : ℕ → List ℕ) (ps : List ℕ) → Held f (chain_rows free_place (free_row size) ps) → all (λ p. free_shape size (f p)) ps ≡ true
free-test size f ps h =
    true-all (λ p. free_shape size (f p)) ps
    (subst (λ (l : List ℕ). All (λ p. free_shape size (f p) ≡ true) l) (free-map ps)
    (held_test free_place (free_row size) f (free_shape size) ps
    (all_of (λ p. (next : ℕ) → free_shape size (free_row size next p) ≡ true) ps (λ p next. free-shape size next p)) h))

-- ---- the store

module _ (role : ℕ) (s : Store) (v : Valid role s) (b : List ℕ) (rep : Rep s b) where
  -- what holds a valid store reads as that store
  pub rep-decode : decode b ≡ s
  unfolding decode
  rep-decode =
      let back = all_back b (s.held ++ s.whole) v.sized (pieces-walk role s v b rep) (held-pieces s (cell_at b) rep.cells) in
      let held : map (read_rec b) (rec_chain b (get_or b held_at 0)) ≡ s.held =
      ap (map (read_rec b)) (held-walk role s v b rep)
      ∙ recs-back b (held_kind s.setup.role) s.held (all_left (Back b) s.held s.whole back) (held-held s (rec_at b) rep.recs) in
      let whole : map (read_rec b) (rec_chain b (get_or b whole_at 0)) ≡ s.whole =
      ap (map (read_rec b)) (whole-walk role s v b rep)
      ∙ recs-back b kind_whole s.whole (all_right (Back b) s.held s.whole back) (held_whole s (rec_at b) rep.recs) in
      λ i. record {
        setup = record { cells = head_byte role s v b rep count_at (omega arith) i; role = head_byte role s v b rep role_at (omega arith) i };
        free = free_walk role s v b rep i;
        held = held i;
        whole = whole i;
        free_cells = free_cells-walk role s v b rep i;
      }

  is-head : every (head_tests role b s) ≡ true
  is-head =
      let rest : zero_from head_bytes rest_at b ≡ true =
      ap zeros (sym (part-part b 0 head_bytes rest_at (head_bytes - rest_at) (omega arith)) ∙ ap (λ (l : List ℕ). part l rest_at (head_bytes - rest_at)) rep.head)
      ∙ pad-zero head_bytes rest_at (head_fields s) refl in
      let C : ℕ = s.setup.cells in
      true-every (head_tests role b s)
      (is-inside most_cells C v.some v.most & eq-eqb (length b) (store_bytes C) rep.size & v.roles & eq-eqb s.setup.role role v.in_role
      & eq-eqb (get_or b form_at 0) form (head_byte role s v b rep form_at (omega arith)) & rest & tt)

  is-shaped : every (shape_tests role b s) ≡ true
  is-shaped =
      let held : all (λ p. rec_shape (held_kind role) (rec_at b p)) (map rec_place s.held) ≡ true =
      ap (λ (x : ℕ). all (λ p. rec_shape (held_kind x) (rec_at b p)) (map rec_place s.held)) (sym v.in_role)
      ∙ recs-test b (held_kind s.setup.role) s.held (all_left RecSized s.held s.whole v.sized) (held-held s (rec_at b) rep.recs) in
      let whole = recs-test b kind_whole s.whole (all_right RecSized s.held s.whole v.sized) (held_whole s (rec_at b) rep.recs) in
      let pieces = pieces-test b (s.held ++ s.whole) v.sized (held-pieces s (cell_at b) rep.cells) in
      let free = free-test rec_bytes (rec_at b) s.free (held-free s (rec_at b) rep.recs) in
      let free_cells = free-test cell_bytes (cell_at b) s.free_cells (held-free_cells s (cell_at b) rep.cells) in
      true-every (shape_tests role b s) (held & whole & pieces & free & free_cells & tt)

  pub rep-sound : sound role b ≡ true
  unfolding sound
  rep-sound =
      ap (λ (x : Store). every (sound_tests role b x)) rep-decode
      ∙ true-every (sound_tests role b s)
      (is-head & true-all (rec_fits role (held_kind role)) s.held v.held & true-all (rec_fits role kind_whole) s.whole v.whole & v.kinds
      & is-once rec_count (rec_places s) v.recs & is-once s.setup.cells (cell_places s) v.cells & v.ids & is-shaped
      & is-sources most_of_source role (s.held ++ s.whole) v.sources & tt)

-- a valid store's bytes are sound, and read back as the store
pub valid-sound : (role : ℕ) (s : Store) → Valid role s → (sound role (encode s) ≡ true) × (decode (encode s) ≡ s)
valid-sound role s v =
    let r = encode-rep role s v in
    (rep-sound role s v (encode s) r, rep-decode role s v (encode s) r)
