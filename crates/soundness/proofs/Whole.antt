-- What the parts of the check find together is whether the bytes are sound. Assumes nothing.
use Prim.Native.Nat.{ℕ, zero, suc, ◌≤◌}
use native.Mathlib.Omega.{arith}
use mathlib.Core.Path.{◌≡◌, refl, sym, ap, ◌∙◌, subst}
use mathlib.Core.Bool.{Bool, true, false, ◌&&◌, ◌||◌, not, and_assoc, and-true, and-false}
use mathlib.Core.List.{List, [], ◌∷◌, ◌++◌, map}
use lib.ListN.{length, get_or, replicate}
use lib.Dec.{eqb, leb}
use borrow.Author.Tests.{eqb-true}
use Rattle.octets.specs.BoolsLaws.{cases, clash, split, both, iff}
use Rattle.octets.specs.Lists.{all}
use Rattle.octets.specs.ListsLaws.{all_true, true-all, all-to, all-zip, all_map, map-all, ◌&◌}
use Rattle.machine.specs.Limits.{head_bytes, rec_count, rec_bytes, cell_bytes, most_cells, most_of_source, store_bytes}
use Rattle.machine.specs.Codes.{role_receive, held_kind, kind_arriving, kind_whole, kind_leaving}
use Rattle.machine.specs.Values.{Rec, key_of, same_key}
use Rattle.machine.specs.Tests.{every}
use Rattle.machine.specs.Chains.{walk}
use Rattle.machine.specs.Counting.{inside, each, once}
use Rattle.machine.specs.Sources.{fair}
use Rattle.machine.specs.Layout.{free_at, held_at, whole_at, free_cells_at, count_at, slots_at, size_at, size_width, cell_place, rec_place, rec_row, cell_row}
use Rattle.machine.specs.Layout.{rec_at}
use Rattle.machine.specs.Layout.{cell_at, num_at, cell_of, rec_of, label_of, sending_of, rec_chain, cell_chain, read_cell, read_cells, read_rec, decode}
use Rattle.machine.specs.Sound.{head_tests, cell_fits, rec_tests, rec_fits, no_rec, distinct, rec_places, piece_places}
use Rattle.machine.specs.Sound.{rec_shape, cell_tests, cell_shape, free_shape, shape_tests, sound_tests, sound, rising}
use Rattle.packet.specs.Frame.{largest_piece}
use Rattle.machine_laws.specs.Tests.{every_true, true-every, all-parts, all_append}
use Rattle.machine_laws.specs.Counting.{inside_is}
use Rattle.machine_laws.specs.Chains.{map-place}
use Rattle.machine_laws.specs.Marks.{three-is}
use Rattle.machine_laws.specs.StoreRows.{pieces-append}
use Rattle.rows.specs.Asked.{head_fits, own_tests, record_fits, piece_fits}
use Rattle.soundness.specs.Walked.{Room, RecordsInside, pieces_at, pieces_of, no_marks, records_once}
use Rattle.soundness.specs.Walked.{cells_once, readable, pieces_fit, record_pieces, unlike, records_fit, counted, no_counts, fair_on}
use Rattle.soundness.proofs.Shares.{fair-two}

-- ---- lists

module _ (b : List ℕ) where
  abbrev recs_at : List ℕ → List Rec
  recs_at ps = map (read_rec b) ps

  recs-places : (ps : List ℕ) → map rec_place (recs_at ps) ≡ ps
  unfolding rec_of
  recs-places ps = map-place rec_place (rec_row kind_whole) (rec_at b) (read_rec b) (λ p. refl) ps

  piece-places : (p : ℕ) → map cell_place (read_rec b p).cells ≡ pieces_at b p
  unfolding rec_of cell_of
  piece-places p = map-place cell_place cell_row (cell_at b) (read_cell b) (λ k. refl) (pieces_at b p)

  pieces-places : (ps : List ℕ) → piece_places (recs_at ps) ≡ pieces_of b ps
  pieces-places [] = refl
  pieces-places (p ∷ ps) = λ i. piece-places p i ++ pieces-places ps i

  -- ---- one record

  -- a record as machine's tests ask for it, and as the check does
  record Asked (role kind p : ℕ) : Type 0 where
    shape : rec_shape kind (rec_at b p) ≡ true
    fits : rec_fits role kind (read_rec b p) ≡ true
    cells : all (λ k. cell_shape (cell_at b k)) (pieces_at b p) ≡ true

  record Checked (role kind p : ℕ) : Type 0 where
    row : record_fits role kind (rec_at b p) ≡ true
    cells : all (λ k. piece_fits role (cell_at b k)) (pieces_at b p) ≡ true
    pieces : record_pieces kind b p ≡ true

  module _ (role kind p : ℕ) where
    abbrev own : List Bool
    own = own_tests role (label_of (rec_at b p)) (get_or (rec_at b p) slots_at 0) (sending_of (rec_at b p))

    asked-checked : Asked role kind p → Checked role kind p
    unfolding rec_fits rec_of cell_of record_fits piece_fits record_pieces pieces_fit
    asked-checked a =
        let t = every_true (rec_tests role kind (read_rec b p)) a.fits in
        let u = t.1.1.1.1 in
        let shapes = all_true (λ k. cell_shape (cell_at b k)) (pieces_at b p) a.cells in
        let fit = map-all (read_cell b) (λ c. cell_fits role c ≡ true) (pieces_at b p) (all_true (cell_fits role) (read_cells b _) t.1.1.1.0) in
        record {
          row = both _ _ a.shape (true-every own (t.0 & t.1.0 & t.1.1.0 & u.1.0 & u.1.1.0 & tt));
          cells =
              true-all (λ k. piece_fits role (cell_at b k)) (pieces_at b p)
              (all-to _ (λ k. piece_fits role (cell_at b k) ≡ true) (pieces_at b p)
              (λ k z. both (cell_shape (cell_at b k)) _ z.0 z.1) (all-zip _ _ (pieces_at b p) shapes fit));
          pieces = both _ _ u.0 (both _ _ u.1.1.1.0 u.1.1.1.1.0);
        }

    checked-asked : Checked role kind p → Asked role kind p
    unfolding rec_fits rec_of cell_of record_fits piece_fits record_pieces pieces_fit
    checked-asked a =
        let r = split (rec_shape kind (rec_at b p)) (every own) a.row in
        let t = every_true own r.1 in
        let q = split (rising 0 _ (read_cells b _)) _ a.pieces in
        let w = split (eqb kind kind_arriving || _) (not (eqb kind kind_leaving) || _) q.1 in
        let each = all_true (λ k. piece_fits role (cell_at b k)) (pieces_at b p) a.cells in
        let fit = all-to (λ k. piece_fits role (cell_at b k) ≡ true) (λ k. cell_fits role (read_cell b k) ≡ true)
        (pieces_at b p) (λ k z. (split (cell_shape (cell_at b k)) _ z).1) each in
        record {
          shape = r.0;
          fits =
              true-every (rec_tests role kind (read_rec b p))
              (t.0 & t.1.0 & t.1.1.0 & true-all (cell_fits role) (read_cells b _) (all_map (read_cell b) (λ c. cell_fits role c ≡ true) (pieces_at b p) fit)
              & q.0 & t.1.1.1.0 & t.1.1.1.1.0 & w.0 & w.1 & tt);
          cells =
              true-all (λ k. cell_shape (cell_at b k)) (pieces_at b p)
              (all-to (λ k. piece_fits role (cell_at b k) ≡ true) (λ k. cell_shape (cell_at b k) ≡ true)
              (pieces_at b p) (λ k z. (split (cell_shape (cell_at b k)) _ z).0) each);
        }

  -- ---- a chain of records

  record ChainAsked (role kind : ℕ) (ps : List ℕ) : Type 0 where
    shapes : all (λ p. rec_shape kind (rec_at b p)) ps ≡ true
    fits : all (rec_fits role kind) (recs_at ps) ≡ true
    cells : all (λ k. cell_shape (cell_at b k)) (pieces_of b ps) ≡ true

  record ChainChecked (role kind : ℕ) (ps : List ℕ) : Type 0 where
    rows : all (λ p. record_fits role kind (rec_at b p)) ps ≡ true
    cells : all (λ k. piece_fits role (cell_at b k)) (pieces_of b ps) ≡ true
    pieces : all (record_pieces kind b) ps ≡ true

  module _ (role kind : ℕ) where
    chain-checked : (ps : List ℕ) → ChainAsked role kind ps → ChainChecked role kind ps
    chain-checked [] a = record { rows = refl; cells = refl; pieces = refl }
    chain-checked (p ∷ ps) a =
        let s = split (rec_shape kind (rec_at b p)) _ a.shapes in
        let f = split (rec_fits role kind (read_rec b p)) _ a.fits in
        let c = all-parts (λ k. cell_shape (cell_at b k)) (pieces_at b p) (pieces_of b ps) a.cells in
        let h = asked-checked role kind p (record { shape = s.0; fits = f.0; cells = c.0 }) in
        let r = chain-checked ps (record { shapes = s.1; fits = f.1; cells = c.1 }) in
        record {
          rows = both _ _ h.row r.rows;
          cells = all_append (λ k. piece_fits role (cell_at b k)) (pieces_at b p) (pieces_of b ps) h.cells r.cells;
          pieces = both _ _ h.pieces r.pieces;
        }

    chain-asked : (ps : List ℕ) → ChainChecked role kind ps → ChainAsked role kind ps
    chain-asked [] a = record { shapes = refl; fits = refl; cells = refl }
    chain-asked (p ∷ ps) a =
        let s = split (record_fits role kind (rec_at b p)) _ a.rows in
        let f = split (record_pieces kind b p) _ a.pieces in
        let c = all-parts (λ k. piece_fits role (cell_at b k)) (pieces_at b p) (pieces_of b ps) a.cells in
        let h = checked-asked role kind p (record { row = s.0; cells = c.0; pieces = f.0 }) in
        let r = chain-asked ps (record { rows = s.1; cells = c.1; pieces = f.1 }) in
        record {
          shapes = both _ _ h.shape r.shapes;
          fits = both _ _ h.fits r.fits;
          cells = all_append (λ k. cell_shape (cell_at b k)) (pieces_at b p) (pieces_of b ps) h.cells r.cells;
        }

  -- ---- keys

  -- no two records at l, and none at l and one at m, have one key
  unfoldable apart : List ℕ → List ℕ → Bool
  apart [] m = true
  apart (p ∷ l) m = (all (unlike b p) l && all (unlike b p) m) && apart l m

  swap : (a u c v : Bool) → ((a && u) && (c && v)) ≡ ((a && c) && (u && v))
  swap true true c v = refl
  swap true false c v = sym (and-false c)
  swap false u c v = refl

  fit_is : (kind : ℕ) (l m : List ℕ) → records_fit kind b l m ≡ (all (record_pieces kind b) l && apart l m)
  unfolding records_fit apart
  fit_is kind [] m = refl
  fit_is kind (p ∷ l) m =
      ap (λ (x : Bool). (record_pieces kind b p && (all (unlike b p) l && all (unlike b p) m)) && x) (fit_is kind l m)
      ∙ swap (record_pieces kind b p) (all (unlike b p) l && all (unlike b p) m) (all (record_pieces kind b) l) (apart l m)

  all_of_map : (f : Rec → Bool) (ps : List ℕ) → all f (recs_at ps) ≡ all (λ p. f (read_rec b p)) ps
  all_of_map f [] = refl
  all_of_map f (p ∷ ps) = ap (λ (x : Bool). f (read_rec b p) && x) (all_of_map f ps)

  all-of-two : (f : Rec → Bool) (l m : List Rec) → all f (l ++ m) ≡ (all f l && all f m)
  all-of-two f [] m = refl
  all-of-two f (r ∷ l) m = ap (λ (x : Bool). f r && x) (all-of-two f l m) ∙ sym (and_assoc (f r) (all f l) (all f m))

  unlike-is : (p : ℕ) (ps : List ℕ) → all (λ (q : Rec). not (same_key (key_of (read_rec b p).label) (key_of q.label))) (recs_at ps) ≡ all (unlike b p) ps
  unfolding rec_of
  unlike-is p ps = all_of_map (λ (q : Rec). not (same_key (key_of (read_rec b p).label) (key_of q.label))) ps

  distinct-one : (m : List ℕ) → distinct (recs_at m) ≡ apart m []
  unfolding distinct apart
  distinct-one [] = refl
  distinct-one (p ∷ m) = λ i. (unlike-is p m ∙ sym (and-true (all (unlike b p) m))) i && distinct-one m i

  distinct-two : (l m : List ℕ) → distinct (recs_at l ++ recs_at m) ≡ (apart l m && apart m [])
  unfolding distinct apart
  distinct-two [] m = distinct-one m
  distinct-two (p ∷ l) m =
      (λ i. (all-of-two (λ (q : Rec). not (same_key (key_of (read_rec b p).label) (key_of q.label))) (recs_at l) (recs_at m)
      ∙ (λ j. unlike-is p l j && unlike-is p m j)) i
      && distinct-two l m i)
      ∙ sym (and_assoc (all (unlike b p) l && all (unlike b p) m) (apart l m) (apart m []))

  no_record : (x : ℕ) → no_rec (recs_at (rec_chain b x)) ≡ eqb x 0
  unfolding walk
  no_record x = cases (eqb x 0) (λ e. rw e) (λ e. rw e)

-- ---- all of it

none-marked : (k : ℕ) → get_or no_marks k 0 ≡ 0
none-marked k = go (suc most_cells) k
  where
    go : (n k : ℕ) → get_or {A = ℕ} (replicate n 0) k 0 ≡ 0
    go zero k = refl
    go (suc n) zero = refl
    go (suc n) (suc k) = go n k

module _ (role : ℕ) (b : List ℕ) where
  abbrev C : ℕ
  C = get_or b count_at 0

  abbrev P₀ : List ℕ
  P₀ = rec_chain b (get_or b free_at 0)

  abbrev P₁ : List ℕ
  P₁ = rec_chain b (get_or b held_at 0)

  abbrev P₂ : List ℕ
  P₂ = rec_chain b (get_or b whole_at 0)

  abbrev Q : List ℕ
  Q = cell_chain b (get_or b free_cells_at 0)

  pub head_room : head_fits role b ≡ true → Room C b
  unfolding head_fits decode
  head_room h =
      let f = every_true (head_tests role b (decode b)) h in
      record { most = (inside_is most_cells C f.0).1; long = eqb-true (length b) (store_bytes C) f.1.0 }

  pub head_long : head_fits role b ≡ true → head_bytes ≤ length b
  head_long h = let r = head_room h in omega (arith, r.long)

  pub store_room : {cells : ℕ} → head_fits role b ≡ true → cells ≡ C → Room cells b
  store_room h e = subst (λ (n : ℕ). Room n b) (sym e) (head_room h)

  -- what the marks of the records find, and of the cells
  record RecordsFound : Type 0 where
    free : all (λ p. free_shape rec_bytes (rec_at b p)) P₀ ≡ true
    held : all (λ p. record_fits role (held_kind role) (rec_at b p)) P₁ ≡ true
    whole : all (λ p. record_fits role kind_whole (rec_at b p)) P₂ ≡ true
    places : once rec_count (P₀ ++ (P₁ ++ P₂)) ≡ true

  record CellsFound : Type 0 where
    free : all (λ p. free_shape cell_bytes (cell_at b p)) Q ≡ true
    held : all (λ p. piece_fits role (cell_at b p)) (pieces_of b P₁) ≡ true
    whole : all (λ p. piece_fits role (cell_at b p)) (pieces_of b P₂) ≡ true
    places : once C (Q ++ (pieces_of b P₁ ++ pieces_of b P₂)) ≡ true

  abbrev free_recs : Bool
  free_recs = all (λ p. free_shape rec_bytes (rec_at b p)) P₀

  abbrev held_recs : Bool
  held_recs = all (λ p. record_fits role (held_kind role) (rec_at b p)) P₁

  abbrev whole_recs : Bool
  whole_recs = all (λ p. record_fits role kind_whole (rec_at b p)) P₂

  records_is : records_once role b ≡ ((free_recs && (held_recs && whole_recs)) && once rec_count (P₀ ++ (P₁ ++ P₂)))
  records_is = three-is _ _ _ rec_count P₀ P₁ P₂ no_marks none-marked (omega arith)

  abbrev free_cells : Bool
  free_cells = all (λ p. free_shape cell_bytes (cell_at b p)) Q

  abbrev held_cells : Bool
  held_cells = all (λ p. piece_fits role (cell_at b p)) (pieces_of b P₁)

  abbrev whole_cells : Bool
  whole_cells = all (λ p. piece_fits role (cell_at b p)) (pieces_of b P₂)

  cells_is : Room C b → cells_once C role b ≡ ((free_cells && (held_cells && whole_cells)) && once C (Q ++ (pieces_of b P₁ ++ pieces_of b P₂)))
  cells_is r = three-is _ _ _ C Q (pieces_of b P₁) (pieces_of b P₂) no_marks none-marked (omega (arith, r.most))

  records-found : records_once role b ≡ true → RecordsFound
  records-found h =
      let s = split (free_recs && (held_recs && whole_recs)) (once rec_count (P₀ ++ (P₁ ++ P₂))) (sym records_is ∙ h) in
      let f = split free_recs (held_recs && whole_recs) s.0 in
      let g = split held_recs whole_recs f.1 in
      record { free = f.0; held = g.0; whole = g.1; places = s.1 }

  found-records : RecordsFound → records_once role b ≡ true
  found-records f =
      records_is
      ∙ both (free_recs && (held_recs && whole_recs)) (once rec_count (P₀ ++ (P₁ ++ P₂)))
      (both free_recs (held_recs && whole_recs) f.free (both held_recs whole_recs f.held f.whole)) f.places

  cells-found : Room C b → cells_once C role b ≡ true → CellsFound
  cells-found r h =
      let s = split (free_cells && (held_cells && whole_cells)) (once C (Q ++ (pieces_of b P₁ ++ pieces_of b P₂))) (sym (cells_is r) ∙ h) in
      let f = split free_cells (held_cells && whole_cells) s.0 in
      let g = split held_cells whole_cells f.1 in
      record { free = f.0; held = g.0; whole = g.1; places = s.1 }

  found-cells : Room C b → CellsFound → cells_once C role b ≡ true
  found-cells r f =
      cells_is r
      ∙ both (free_cells && (held_cells && whole_cells)) (once C (Q ++ (pieces_of b P₁ ++ pieces_of b P₂)))
      (both free_cells (held_cells && whole_cells) f.free (both held_cells whole_cells f.held f.whole))
      f.places

  -- ---- and sound

  record Found : Type 0 where
    head : head_fits role b ≡ true
    records : RecordsFound
    cells : CellsFound
    kinds : (eqb role role_receive || eqb (get_or b whole_at 0) 0) ≡ true
    held : records_fit (held_kind role) b P₁ P₂ ≡ true
    whole : records_fit kind_whole b P₂ [] ≡ true
    sources : (not (eqb role role_receive) || fair most_of_source (recs_at b P₁ ++ recs_at b P₂)) ≡ true

  rec-list : rec_places (decode b) ≡ P₀ ++ (P₁ ++ P₂)
  unfolding decode
  rec-list = λ i. P₀ ++ (recs-places b P₁ i ++ recs-places b P₂ i)

  piece-list : piece_places ((decode b).held ++ (decode b).whole) ≡ pieces_of b P₁ ++ pieces_of b P₂
  unfolding decode
  piece-list = pieces-append (recs_at b P₁) (recs_at b P₂) ∙ (λ i. pieces-places b P₁ i ++ pieces-places b P₂ i)

  abbrev shaped : ℕ → Bool
  shaped k = cell_shape (cell_at b k)

  sound-found : sound role b ≡ true → Found
  unfolding sound head_fits decode
  sound-found t =
      let a = every_true (sound_tests role b (decode b)) t in
      let shapes = every_true (shape_tests role b (decode b)) a.1.1.1.1.1.1.1.0 in
      let pieces = all-parts shaped (pieces_of b P₁) (pieces_of b P₂) (sym (ap (all shaped) piece-list) ∙ shapes.1.1.0) in
      let held = chain-checked b role (held_kind role) P₁ (record {
        shapes = sym (ap (all (λ p. rec_shape (held_kind role) (rec_at b p))) (recs-places b P₁)) ∙ shapes.0;
        fits = a.1.0;
        cells = pieces.0;
      }) in
      let whole = chain-checked b role kind_whole P₂ (record {
        shapes = sym (ap (all (λ p. rec_shape kind_whole (rec_at b p))) (recs-places b P₂)) ∙ shapes.1.0;
        fits = a.1.1.0;
        cells = pieces.1;
      }) in
      let keys = split (apart b P₁ P₂) (apart b P₂ []) (sym (distinct-two b P₁ P₂) ∙ a.1.1.1.1.1.1.0) in
      record {
        head = a.0;
        records = record { free = shapes.1.1.1.0; held = held.rows; whole = whole.rows; places = sym (ap (once rec_count) rec-list) ∙ a.1.1.1.1.0 };
        cells = record {
          free = shapes.1.1.1.1.0;
          held = held.cells;
          whole = whole.cells;
          places = sym (ap (λ (l : List ℕ). once C (Q ++ l)) piece-list) ∙ a.1.1.1.1.1.0;
        };
        kinds = sym (ap (λ (x : Bool). eqb role role_receive || x) (no_record b (get_or b whole_at 0))) ∙ a.1.1.1.0;
        held = fit_is b (held_kind role) P₁ P₂ ∙ both (all (record_pieces (held_kind role) b) P₁) (apart b P₁ P₂) held.pieces keys.0;
        whole =
            fit_is b kind_whole P₂ []
            ∙ both (all (record_pieces kind_whole b) P₂) (apart b P₂ []) whole.pieces keys.1;
        sources = a.1.1.1.1.1.1.1.1.0;
      }

  found-sound : Found → sound role b ≡ true
  unfolding sound head_fits decode
  found-sound f =
      let h = split (all (record_pieces (held_kind role) b) P₁) (apart b P₁ P₂) (sym (fit_is b (held_kind role) P₁ P₂) ∙ f.held) in
      let w = split (all (record_pieces kind_whole b) P₂) (apart b P₂ []) (sym (fit_is b kind_whole P₂ []) ∙ f.whole) in
      let held = chain-asked b role (held_kind role) P₁ (record { rows = f.records.held; cells = f.cells.held; pieces = h.0 }) in
      let whole = chain-asked b role kind_whole P₂ (record { rows = f.records.whole; cells = f.cells.whole; pieces = w.0 }) in
      let pieces : all shaped (piece_places ((decode b).held ++ (decode b).whole)) ≡ true =
      ap (all shaped) piece-list ∙ all_append shaped (pieces_of b P₁) (pieces_of b P₂) held.cells whole.cells in
      true-every (sound_tests role b (decode b))
      (f.head & held.fits & whole.fits
      & (ap (λ (x : Bool). eqb role role_receive || x) (no_record b (get_or b whole_at 0)) ∙ f.kinds)
      & (ap (once rec_count) rec-list ∙ f.records.places)
      & (ap (λ (l : List ℕ). once C (Q ++ l)) piece-list ∙ f.cells.places)
      & (distinct-two b P₁ P₂ ∙ both (apart b P₁ P₂) (apart b P₂ []) h.1 w.1)
      & true-every (shape_tests role b (decode b))
      ((ap (all (λ p. rec_shape (held_kind role) (rec_at b p))) (recs-places b P₁) ∙ held.shapes)
      & (ap (all (λ p. rec_shape kind_whole (rec_at b p))) (recs-places b P₂) ∙ whole.shapes)
      & pieces & f.records.free & f.cells.free & tt)
      & f.sources & tt)

  -- ---- what the code learns on its way

  -- what a sound store has is missing
  not_sound : (sound role b ≡ true → ⊥) → sound role b ≡ false
  not_sound n = cases (sound role b) (λ e. absurd (n e)) (λ e. e)

  pub no_head : head_fits role b ≡ false → sound role b ≡ false
  no_head h = not_sound (λ t. clash (sound-found t).head h)

  pub no_records : records_once role b ≡ false → sound role b ≡ false
  no_records h = not_sound (λ t. clash (found-records (sound-found t).records) h)

  pub no_cells : {cells : ℕ} → cells ≡ C → head_fits role b ≡ true → cells_once cells role b ≡ false → sound role b ≡ false
  no_cells e f h = not_sound (λ t. clash (found-cells (head_room f) (sound-found t).cells) (ap (λ (n : ℕ). cells_once n role b) (sym e) ∙ h))

  -- the records that were met lie inside
  pub records_inside : records_once role b ≡ true → RecordsInside b
  records_inside h =
      let u = split (all (inside rec_count) (P₀ ++ (P₁ ++ P₂))) (each rec_count (P₀ ++ (P₁ ++ P₂))) (records-found h).places in
      let w = all-parts (inside rec_count) P₁ P₂ (all-parts (inside rec_count) P₀ (P₁ ++ P₂) u.0).1 in
      record { held = w.0; whole = w.1 }

  -- and their pieces can be read
  pieces-readable : (l : List ℕ) → all (inside C) l ≡ true → all (λ p. piece_fits role (cell_at b p)) l ≡ true → all (readable C b) l ≡ true
  unfolding piece_fits
  pieces-readable [] i h = refl
  pieces-readable (p ∷ l) i h =
      let u = split (inside C p) (all (inside C) l) i in
      let w = split (piece_fits role (cell_at b p)) (all (λ k. piece_fits role (cell_at b k)) l) h in
      let small = (every_true (cell_tests (cell_at b p)) (split (cell_shape (cell_at b p)) (cell_fits role (cell_of 0 (cell_at b p))) w.0).0).0 in
      both (readable C b p) (all (readable C b) l) (both (inside C p) (leb (num_at size_width (cell_at b p) size_at) largest_piece) u.0 small)
      (pieces-readable l u.1 w.1)

  module _ (r : Room C b) (h : records_once role b ≡ true) (g : cells_once C role b ≡ true) where
    places-in : (all (inside C) (pieces_of b P₁) ≡ true) × (all (inside C) (pieces_of b P₂) ≡ true)
    places-in =
        let u = split (all (inside C) (Q ++ (pieces_of b P₁ ++ pieces_of b P₂))) (each C (Q ++ (pieces_of b P₁ ++ pieces_of b P₂))) (cells-found r g).places in
        all-parts (inside C) (pieces_of b P₁) (pieces_of b P₂) (all-parts (inside C) Q (pieces_of b P₁ ++ pieces_of b P₂) u.0).1

    held-read : all (readable C b) (pieces_of b P₁) ≡ true
    held-read = pieces-readable (pieces_of b P₁) places-in.0 (cells-found r g).held

    whole-read : all (readable C b) (pieces_of b P₂) ≡ true
    whole-read = pieces-readable (pieces_of b P₂) places-in.1 (cells-found r g).whole

    -- the last tests decide; where the records fit, their pieces are counted
    module _ (f : head_fits role b ≡ true) (m : List ℕ) (x y : Bool) (p : x ≡ records_fit (held_kind role) b P₁ P₂)
        (q : y ≡ records_fit kind_whole b P₂ []) (n : x ≡ true → y ≡ true → m ≡ counted b P₂ (counted b P₁ no_counts)) where
      abbrev fits : Bool
      fits = (eqb role role_receive || eqb (get_or b whole_at 0) 0) && (x && y)

      abbrev shared : Bool
      shared = not (eqb role role_receive) || (fair_on most_of_source b m P₁ P₂ && fair_on most_of_source b m P₂ [])

      shared-is : x ≡ true → y ≡ true → (not (eqb role role_receive) || fair most_of_source (recs_at b P₁ ++ recs_at b P₂)) ≡ shared
      shared-is u w =
          ap (λ (z : Bool). not (eqb role role_receive) || z)
          (fair-two b most_of_source P₁ P₂ (records_inside h).held (records_inside h).whole m (n u w))

      decided : (fits && shared) ≡ sound role b
      decided = iff (fits && shared) (sound role b) to from
        where
          to : (fits && shared) ≡ true → sound role b ≡ true
          to t =
              let s = split fits shared t in
              let k = split (eqb role role_receive || eqb (get_or b whole_at 0) 0) (x && y) s.0 in
              let u = split x y k.1 in
              found-sound (record {
                head = f;
                records = records-found h;
                cells = cells-found r g;
                kinds = k.0;
                held = sym p ∙ u.0;
                whole = sym q ∙ u.1;
                sources = shared-is u.0 u.1 ∙ s.1;
              })

          from : sound role b ≡ true → (fits && shared) ≡ true
          from t =
              let d = sound-found t in
              let u : x ≡ true = p ∙ d.held in
              let w : y ≡ true = q ∙ d.whole in
              both fits shared (both (eqb role role_receive || eqb (get_or b whole_at 0) 0) (x && y) d.kinds (both x y u w)) (sym (shared-is u w) ∙ d.sources)

  -- the same of the number of cells that the code has read
  module _ {cells : ℕ} (e : cells ≡ C) (f : head_fits role b ≡ true) (h : records_once role b ≡ true) (g : cells_once cells role b ≡ true) where
    each-once : cells_once C role b ≡ true
    each-once = ap (λ (n : ℕ). cells_once n role b) (sym e) ∙ g

    pub held_read : all (readable cells b) (pieces_of b P₁) ≡ true
    held_read = ap (λ (n : ℕ). all (readable n b) (pieces_of b P₁)) e ∙ held-read (head_room f) h each-once

    pub whole_read : all (readable cells b) (pieces_of b P₂) ≡ true
    whole_read = ap (λ (n : ℕ). all (readable n b) (pieces_of b P₂)) e ∙ whole-read (head_room f) h each-once

    pub sound_is : {x y z : Bool} {m₁ m : List ℕ}
        → (x ≡ records_fit (held_kind role) b P₁ P₂) × (x ≡ true → m₁ ≡ counted b P₁ no_counts)
        → (y ≡ records_fit kind_whole b P₂ []) × (y ≡ true → m ≡ counted b P₂ m₁)
        → z ≡ (not (eqb role role_receive) || (fair_on most_of_source b m P₁ P₂ && fair_on most_of_source b m P₂ []))
        → (((eqb role role_receive || eqb (get_or b whole_at 0) 0) && (x && y)) && z) ≡ sound role b
    sound_is {x} {y} {z} {m₁} {m} p q s =
        ap (λ (w : Bool). ((eqb role role_receive || eqb (get_or b whole_at 0) 0) && (x && y)) && w) s
        ∙ decided (head_room f) h each-once f m x y p.0 q.0 (λ u w. q.1 w ∙ ap (counted b P₂) (p.1 u))

-- what the head gives, and what the parts of the check give one after the other
pub ruleset heads = (head_long, store_room)

pub ruleset parts = (no_records, no_cells, records_inside, held_read, whole_read, sound_is)
