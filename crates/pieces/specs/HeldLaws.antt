-- The pieces of a held record, in the bytes of a valid store: they are a chain whose first link is the record's. Assumes nothing.
use Rattle.std.specs.Prelude.{ℕ, suc, ◌+◌, ◌≤◌, ◌<◌, ◌≡◌, true, length}
use Rattle.std.proofs.Common.{arith, ◌∙◌, subst}
use Rattle.std.proofs.Math.Path.{sym, ap}
use mathlib.Core.List.{List, ◌∷◌, ◌++◌, map, append_assoc}
use Rattle.std.proofs.Math.ListN.{get_or}
use Rattle.std.proofs.lemmas.List.{length-map}
use Rattle.octets.specs.Bools.{one}
use Rattle.octets.specs.Lists.{All}
use Rattle.octets.specs.ListsLaws.{all-to, all_right, map-all}
use Rattle.octets.specs.PartsLaws.{get_or-part}
use Rattle.machine.specs.Limits.{rec_bytes, most_cells}
use Rattle.machine.specs.Codes.{held_kind}
use Rattle.machine.specs.Values.{Cell, Rec, Store}
use Rattle.machine.specs.Chains.{first, chain_rows}
use Rattle.machine.specs.Counting.{occurs, inside}
use Rattle.machine.specs.Layout.{first_cell_at, cell_place, rec_row, cell_row, rec_off, cell_at, pieces_rows, cell_of, read_cell, read_cells}
use Rattle.machine.specs.Find.{is_some}
use Rattle.machine.specs.Pieces.{piece_at}
use Rattle.machine.specs.Sound.{rec_fits, piece_places}
use Rattle.machine.specs.Valid.{CellSized, RecSized, Valid}
use Rattle.machine_laws.specs.Counting.{few-inside, few-short}
use Rattle.machine_laws.specs.Rows.{Held, held-left, held-right}
use Rattle.machine_laws.specs.Chains.{rows_to, chain-append, held-read}
use Rattle.machine_laws.specs.CellRow.{cell-back}
use Rattle.machine_laws.specs.Fine.{Fine, fits-fine}
use Rattle.machine_laws.specs.StoreRows.{rows_append, held-pieces}
use Rattle.machine_laws.specs.Rep.{Rep}
use Rattle.machine_laws.specs.Walks.{cells-once, Walks, pieces-walk}
use Rattle.machine_writes.specs.Swap.{row_is}
use Rattle.machine_writes.specs.Release.{pieces-around}
use Rattle.pieces.specs.InPlace.{first_link, spot_in, holds_index}
use Rattle.pieces.specs.SpotLaws.{below, onward, Chained, link_behind, spot_is, spot-chained, spot-holds}

module _ (role : ℕ) (s : Store) (v : Valid role s) (l : List Rec) (r : Rec) (m : List Rec) (is : s.held ≡ l ++ (r ∷ m)) where
  -- all records, with r apart
  pub around : s.held ++ s.whole ≡ l ++ (r ∷ (m ++ s.whole))
  around = ap (λ (x : List Rec). x ++ s.whole) is ∙ append_assoc l (r ∷ m) s.whole

  pub sized : RecSized r
  sized = (all_right RecSized l (r ∷ (m ++ s.whole)) (subst (All RecSized) around v.sized)).0

  pub fine : Fine role (held_kind role) r
  fine =
      fits-fine role (held_kind role) r
      (all_right (λ (x : Rec). rec_fits role (held_kind role) x ≡ true) l (r ∷ m)
      (subst (All (λ (x : Rec). rec_fits role (held_kind role) x ≡ true)) is v.held)).0

  -- each of their places is a cell's, and none of them stands twice or elsewhere
  pub pieces-once : (k : ℕ)
      → occurs k s.free_cells + (occurs k (map cell_place r.cells) + occurs k (piece_places (l ++ (m ++ s.whole)))) ≡ one (inside s.setup.cells k)
  pieces-once k = omega (arith, cells-once role s v k, ap (λ (x : List Rec). occurs k (piece_places x)) around ∙ pieces-around l r (m ++ s.whole) k)

  pub pieces-in : All (λ p. (0 < p) × (p ≤ s.setup.cells)) (map cell_place r.cells)
  pieces-in = few-inside s.setup.cells (map cell_place r.cells) (λ k. omega (arith, pieces-once k))

  pub few-pieces : length r.cells ≤ most_cells
  few-pieces =
      omega (arith, few-short s.setup.cells (map cell_place r.cells) (λ k. omega (arith, pieces-once k)), v.most, length-map r.cells cell_place)

  -- the place of a piece
  pub piece-in : (cl : List Cell) (c : Cell) (cm : List Cell) → r.cells ≡ cl ++ (c ∷ cm) → (0 < c.place) × (c.place ≤ s.setup.cells)
  piece-in cl c cm e =
      (all_right (λ (x : Cell). (0 < x.place) × (x.place ≤ s.setup.cells)) cl (c ∷ cm)
      (subst (All (λ (x : Cell). (0 < x.place) × (x.place ≤ s.setup.cells))) e
      (map-all cell_place (λ p. (0 < p) × (p ≤ s.setup.cells)) r.cells pieces-in))).0

  module _ (b : List ℕ) (rep : Rep s b) where
    pub pieces-held : Held (cell_at b) (chain_rows cell_place cell_row r.cells)
    pieces-held =
        let all = subst (λ (x : List Rec). Held (cell_at b) (pieces_rows x)) around (held-pieces s (cell_at b) rep.cells) in
        let rest = chain_rows cell_place cell_row r.cells ++ pieces_rows (m ++ s.whole) in
        held-left (cell_at b) (chain_rows cell_place cell_row r.cells) (pieces_rows (m ++ s.whole))
        (held-right (cell_at b) (pieces_rows l) rest (subst (Held (cell_at b)) (rows_append l (r ∷ (m ++ s.whole))) all))

    pub first_piece : get_or b (first_link r.place) 0 ≡ first (map cell_place r.cells)
    unfolding rec_row
    first_piece =
        sym (get_or-part b (rec_off r.place) rec_bytes first_cell_at (omega arith)) ∙ ap (λ (x : List ℕ). get_or x first_cell_at 0) (row_is role s v b rep l r m is)

    pub chained : Chained b (first_link r.place) r.cells
    chained = record {
      leads = first_piece;
      rows = pieces-held;
      places = all-to (λ p. (0 < p) × (p ≤ s.setup.cells)) (λ p. 0 < p) (map cell_place r.cells) (λ p h. h.0) pieces-in;
    }

    -- the row of a piece
    pub piece-row : (cl : List Cell) (c : Cell) (cm : List Cell) → r.cells ≡ cl ++ (c ∷ cm) → cell_at b c.place ≡ cell_row (first (map cell_place cm)) c
    piece-row cl c cm e =
        (held-right (cell_at b) (rows_to cell_place cell_row c.place cl) (chain_rows cell_place cell_row (c ∷ cm))
        (subst (Held (cell_at b)) (ap (chain_rows cell_place cell_row) e ∙ chain-append cell_place cell_row cl (c ∷ cm)) pieces-held)).0

    -- the spot of an index
    pub spot_of : (i : ℕ) → spot_in b r.place i ≡ link_behind (first_link r.place) (below i r.cells)
    spot_of i = spot_is b (suc most_cells) (first_link r.place) i r.cells (omega (arith, few-pieces)) chained

    -- whether there is a piece at the index, and where the link there leads
    pub spot-some : (i : ℕ) → holds_index b (spot_in b r.place i) i ≡ is_some (piece_at i r.cells)
    spot-some i = ap (λ (at : ℕ). holds_index b at i) (spot_of i) ∙ spot-holds b (first_link r.place) i 0 r.slots r.cells chained fine.rises

    pub spot-leads : (i : ℕ) → get_or b (spot_in b r.place i) 0 ≡ first (map cell_place (onward i r.cells))
    spot-leads i = ap (λ (at : ℕ). get_or b at 0) (spot_of i) ∙ (spot-chained b (first_link r.place) i r.cells chained).leads

    -- the cells read from the record's first link on are its pieces
    pub pieces-read : read_cells b (get_or b (first_link r.place) 0) ≡ r.cells
    pieces-read =
        let walks = (all_right (Walks b) l (r ∷ (m ++ s.whole)) (subst (All (Walks b)) around (pieces-walk role s v b rep))).0 in
        ap (read_cells b) first_piece ∙ ap (map (read_cell b)) walks
        ∙ held-read cell_place cell_row (cell_at b) (read_cell b) r.cells
        (all-to CellSized (λ c. (n : ℕ) → cell_at b c.place ≡ cell_row n c → read_cell b c.place ≡ c) r.cells
        (λ c y n e. ap (cell_of c.place) e ∙ cell-back n c y) sized.cells) pieces-held
