-- The first free cells become the pieces of a new record: their rows are laid down, and the head's link goes on behind them. The record itself is
-- opened next (`Ready` of Open). Assumes nothing.
use Rattle.std.specs.Prelude.{ℕ, ◌+◌, ◌≤◌, ◌<◌, ◌≡◌, List, [], ◌∷◌, ◌++◌, map, length}
use Rattle.std.proofs.Common.{arith, sym, ap, ◌∙◌, subst}
use Rattle.std.proofs.Math.Path.{refl}
use Rattle.octets.specs.Octets.{put}
use Rattle.octets.specs.Bools.{one}
use Rattle.octets.specs.BoolsLaws.{one-le}
use Rattle.octets.specs.Lists.{All}
use Rattle.octets.specs.PartsLaws.{length-put, part-put-in, part-put-after}
use Rattle.machine.specs.Limits.{head_bytes, rec_count, rec_bytes, cell_bytes, store_bytes}
use Rattle.machine.specs.Values.{Cell, Rec, Store}
use Rattle.machine.specs.Rows.{Row}
use Rattle.machine_laws.specs.Rows.{places, Held, held-right, held-join, held_same}
use Rattle.machine.specs.Chains.{first, chain_rows}
use Rattle.machine.specs.Counting.{occurs, inside}
use Rattle.machine.specs.Layout.{free_cells_at, cell_place, free_place, free_row, cell_row, rec_rows, pieces_rows, head_row, rec_at, cell_at, rec_off, cell_off}
use Rattle.machine.specs.Sound.{piece_places}
use Rattle.machine.specs.Valid.{Valid, CellSized}
use Rattle.machine_laws.specs.Counting.{occurs-append, few-inside, one_inside}
use Rattle.machine_laws.specs.Chains.{rows_to}
use Rattle.machine_laws.specs.CellRow.{cell-length}
use Rattle.machine_laws.specs.FreeRow.{free-map}
use Rattle.machine_laws.specs.StoreRows.{pieces-places, held-cells, held-free_cells, held-pieces}
use Rattle.machine_laws.specs.Rep.{Rep, rec-once}
use Rattle.machine_laws.specs.Walks.{cells-once}
use Rattle.machine_writes.specs.Link.{rows_append, chain-rows, rows-places}
use Rattle.machine_writes.specs.Laid.{laid, Fitting, laid-length, laid-other, laid-before, laid-held}
use Rattle.machine_writes.specs.Open.{Ready, with_free_cells, with_rec}

-- the bytes b with the pieces `cells` laid down and `spare` as what is free still
abbrev pub cut_bytes : List ℕ → List Cell → List ℕ → List ℕ
cut_bytes b cells spare = put (laid cell_place cell_row (store_bytes 0) cell_bytes 0 cells b) free_cells_at (first spare ∷ [])

module _ (role : ℕ) (s : Store) (v : Valid role s) (b : List ℕ) (rep : Rep s b) (r : Rec) (spare : List ℕ) (is : s.free_cells ≡ map cell_place r.cells ++ spare)
    (sized : All CellSized r.cells) where
  abbrev C : ℕ
  C = s.setup.cells

  abbrev c1 : List ℕ
  c1 = laid cell_place cell_row (store_bytes 0) cell_bytes 0 r.cells b

  abbrev c2 : List ℕ
  c2 = cut_bytes b r.cells spare

  counted : (k : ℕ) → occurs k (map cell_place r.cells) + (occurs k spare + occurs k (piece_places (s.held ++ s.whole))) ≡ one (inside C k)
  counted k = omega (arith, cells-once role s v k, ap (occurs k) is ∙ occurs-append k (map cell_place r.cells) spare)

  fitting : Fitting cell_place cell_row (store_bytes 0) cell_bytes (length b) r.cells
  fitting = go r.cells sized (few-inside C (map cell_place r.cells) (λ k. omega (arith, counted k)))
    where
      go : (l : List Cell) → All CellSized l → All (λ p. (0 < p) × (p ≤ C)) (map cell_place l) → Fitting cell_place cell_row (store_bytes 0) cell_bytes (length b) l
      go [] z h = tt
      go (c ∷ l) z h = ((h.0.0, omega (arith, h.0.0, h.0.1, rep.size), λ n. cell-length n c z.0), go l z.1 h.1)

  long1 : length c1 ≡ length b
  long1 = laid-length cell_place cell_row (store_bytes 0) cell_bytes 0 r.cells b fitting

  room : head_bytes ≤ length c1
  room = omega (arith, long1, rep.size)

  same1 : (k : ℕ) → cell_at c2 k ≡ cell_at c1 k
  same1 k = part-put-after c1 free_cells_at (first spare ∷ []) (omega (arith, room)) (cell_off k) cell_bytes (omega arith)

  recs-same : (k : ℕ) → k ≤ rec_count → rec_at c2 k ≡ rec_at b k
  recs-same k h =
      part-put-after c1 free_cells_at (first spare ∷ []) (omega (arith, room)) (rec_off k) rec_bytes (omega arith)
      ∙ laid-before cell_place cell_row (store_bytes 0) cell_bytes 0 r.cells b (rec_off k) rec_bytes fitting (omega arith)

  -- rows of other cells stay
  stay : (n : List Row) → ((k : ℕ) → occurs k (map cell_place r.cells) + occurs k (places n) ≤ one (inside C k)) → Held (cell_at b) n → Held (cell_at c2) n
  stay n u h =
      held_same (cell_at b) (cell_at c2) n
      (λ k q. same1 k ∙ laid-other cell_place cell_row (store_bytes 0) cell_bytes 0 r.cells b k fitting (one_inside C k (omega (arith, u k))).0 (omega (arith, u k, one-le (inside C k)))) h

  free-rows : Held (cell_at c2) (chain_rows free_place (free_row cell_bytes) spare)
  free-rows =
      let whole = subst (Held (cell_at b)) (ap (chain_rows free_place (free_row cell_bytes)) is ∙ chain-rows free_place (free_row cell_bytes) (map cell_place r.cells ++ spare)
      ∙ rows_append free_place (free_row cell_bytes) 0 (map cell_place r.cells) spare) (held-free_cells s (cell_at b) rep.cells) in
      subst (Held (cell_at c2)) (sym (chain-rows free_place (free_row cell_bytes) spare))
      (stay (rows_to free_place (free_row cell_bytes) 0 spare)
      (λ k. omega (arith, counted k, ap (occurs k) (rows-places free_place (free_row cell_bytes) 0 spare ∙ free-map spare)))
      (held-right (cell_at b) (rows_to free_place (free_row cell_bytes) _ (map cell_place r.cells)) (rows_to free_place (free_row cell_bytes) 0 spare) whole))

  new-rows : Held (cell_at c2) (chain_rows cell_place cell_row r.cells)
  new-rows =
      subst (Held (cell_at c2)) (sym (chain-rows cell_place cell_row r.cells))
      (held_same (cell_at c1) (cell_at c2) (rows_to cell_place cell_row 0 r.cells) (λ k q. same1 k)
      (laid-held cell_place cell_row (store_bytes 0) cell_bytes 0 r.cells b fitting (λ k. omega (arith, counted k, one-le (inside C k)))))

  old-rows : Held (cell_at c2) (pieces_rows (s.held ++ s.whole))
  old-rows = stay (pieces_rows (s.held ++ s.whole)) (λ k. omega (arith, counted k, ap (occurs k) (pieces-places (s.held ++ s.whole)))) (held-pieces s (cell_at b) rep.cells)

  heads : put (head_row s) free_cells_at (first spare ∷ []) ≡ head_row (with_free_cells spare s)
  unfolding put
  heads = refl

  pub cut-ready : Ready s spare r c2
  cut-ready = record {
    size = length-put c1 free_cells_at (first spare ∷ []) (omega (arith, room)) ∙ long1 ∙ rep.size;
    head = part-put-in c1 0 head_bytes free_cells_at (first spare ∷ []) (omega arith) (omega (arith, room))
        ∙ ap (λ (l : List ℕ). put l free_cells_at (first spare ∷ [])) (laid-before cell_place cell_row (store_bytes 0) cell_bytes 0 r.cells b 0 head_bytes fitting (omega arith) ∙ rep.head)
        ∙ heads;
    recs = held_same (rec_at b) (rec_at c2) (rec_rows s) (λ k q. recs-same k (one_inside rec_count k (omega (arith, rec-once role s v k))).1) rep.recs;
    cells = held-cells (with_rec r spare s) (cell_at c2) free-rows (held-join (cell_at c2) (chain_rows cell_place cell_row r.cells) (pieces_rows (s.held ++ s.whole)) new-rows old-rows);
  }
