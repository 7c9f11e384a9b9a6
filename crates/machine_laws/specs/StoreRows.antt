-- The rows of a store, chain by chain and all together: their places are the store's, what holds them all holds each chain's, and what is so
-- of each row of each chain is so of them all. Assumes nothing.
use Rattle.std.specs.Prelude.{ℕ, ◌≡◌, refl, List, [], ◌∷◌, ◌++◌, map}
use Rattle.std.proofs.Common.{sym, ap, ◌∙◌, subst, append_assoc}
use Rattle.octets.specs.Lists.{All}
use Rattle.octets.specs.ListsLaws.{all_left, all_right, all_join, all_of}
use Rattle.machine.specs.Limits.{rec_bytes, cell_bytes}
use Rattle.machine.specs.Codes.{held_kind, kind_whole}
use Rattle.machine.specs.Values.{Cell, Rec, Store}
use Rattle.machine.specs.Rows.{Row}
use Rattle.machine_laws.specs.Rows.{places, Held, held-left, held-right, held-join, places-append}
use Rattle.machine.specs.Chains.{chain_rows}
use Rattle.machine.specs.Layout.{cell_place, rec_place, free_place, free_row, rec_row, cell_row, rec_rows, pieces_rows, cell_rows}
use Rattle.machine.specs.Sound.{rec_places, piece_places, cell_places}
use Rattle.machine_laws.specs.Chains.{chain-places, chain-has}
use Rattle.machine_laws.specs.FreeRow.{free-map}

-- ---- pieces of two lists of records

pub pieces-append : (l m : List Rec) → piece_places (l ++ m) ≡ piece_places l ++ piece_places m
pieces-append [] m = refl
pieces-append (r ∷ l) m = ap (λ (x : List ℕ). map cell_place r.cells ++ x) (pieces-append l m) ∙ sym (append_assoc (map cell_place r.cells) (piece_places l) (piece_places m))

pub rows_append : (l m : List Rec) → pieces_rows (l ++ m) ≡ pieces_rows l ++ pieces_rows m
rows_append [] m = refl
rows_append (r ∷ l) m =
    ap (λ (x : List Row). chain_rows cell_place cell_row r.cells ++ x) (rows_append l m)
    ∙ sym (append_assoc (chain_rows cell_place cell_row r.cells) (pieces_rows l) (pieces_rows m))

-- ---- places

pub pieces-places : (l : List Rec) → places (pieces_rows l) ≡ piece_places l
pieces-places [] = refl
pieces-places (r ∷ l) =
    places-append (chain_rows cell_place cell_row r.cells) (pieces_rows l) ∙ (λ i. chain-places cell_place cell_row r.cells i ++ pieces-places l i)

free-places : (size : ℕ) (l : List ℕ) → places (chain_rows free_place (free_row size) l) ≡ l
free-places size l = chain-places free_place (free_row size) l ∙ free-map l

module _ (s : Store) where
  -- the rows, chain by chain
  abbrev pub free_rows : List Row
  free_rows = chain_rows free_place (free_row rec_bytes) s.free

  abbrev pub held_rows : List Row
  held_rows = chain_rows rec_place (rec_row (held_kind s.setup.role)) s.held

  abbrev pub whole_rows : List Row
  whole_rows = chain_rows rec_place (rec_row kind_whole) s.whole

  abbrev pub free_cell_rows : List Row
  free_cell_rows = chain_rows free_place (free_row cell_bytes) s.free_cells

  abbrev pub piece_rows : List Row
  piece_rows = pieces_rows (s.held ++ s.whole)

  pub rec-places : places (rec_rows s) ≡ rec_places s
  rec-places =
      places-append free_rows (held_rows ++ whole_rows)
      ∙ (λ i. free-places rec_bytes s.free i
      ++ (places-append held_rows whole_rows
      ∙ (λ j. chain-places rec_place (rec_row (held_kind s.setup.role)) s.held j ++ chain-places rec_place (rec_row kind_whole) s.whole j)) i)

  pub cell-places : places (cell_rows s) ≡ cell_places s
  cell-places = places-append free_cell_rows piece_rows ∙ (λ i. free-places cell_bytes s.free_cells i ++ pieces-places (s.held ++ s.whole) i)

  -- what holds the rows of all chains holds those of each, and the other way round
  module _ (f : ℕ → List ℕ) where
    pub held-free : Held f (rec_rows s) → Held f free_rows
    held-free h = held-left f free_rows (held_rows ++ whole_rows) h

    pub held-held : Held f (rec_rows s) → Held f held_rows
    held-held h = held-left f held_rows whole_rows (held-right f free_rows (held_rows ++ whole_rows) h)

    pub held_whole : Held f (rec_rows s) → Held f whole_rows
    held_whole h = held-right f held_rows whole_rows (held-right f free_rows (held_rows ++ whole_rows) h)

    pub held-recs : Held f free_rows → Held f held_rows → Held f whole_rows → Held f (rec_rows s)
    held-recs a b c = held-join f free_rows (held_rows ++ whole_rows) a (held-join f held_rows whole_rows b c)

    pub held-free_cells : Held f (cell_rows s) → Held f free_cell_rows
    held-free_cells h = held-left f free_cell_rows piece_rows h

    pub held-pieces : Held f (cell_rows s) → Held f piece_rows
    held-pieces h = held-right f free_cell_rows piece_rows h

    pub held-cells : Held f free_cell_rows → Held f piece_rows → Held f (cell_rows s)
    held-cells a b = held-join f free_cell_rows piece_rows a b

-- ---- what is so of all rows

module _ (P : List ℕ → Type 0) (Good : ℕ → Type 0) (none : Good 0) where
  -- a row with any good link
  abbrev pub Has : (ℕ → List ℕ) → Type 0
  Has row = (next : ℕ) → Good next → P (row next)

  free-has : (size : ℕ) (l : List ℕ) → All Good l → ((p : ℕ) → Has (λ next. free_row size next p)) → All (λ (r : Row). P r.bytes) (chain_rows free_place (free_row size) l)
  free-has size l g h =
      chain-has free_place (free_row size) P Good l none (subst (λ (x : List ℕ). All Good x) (sym (free-map l)) g)
      (all_of (λ p. (next : ℕ) → Good next → P (free_row size next p)) l h)

  pieces-have : (l : List Rec) → All Good (piece_places l) → All (λ (r : Rec). All (λ (c : Cell). Has (λ next. cell_row next c)) r.cells) l
      → All (λ (r : Row). P r.bytes) (pieces_rows l)
  pieces-have [] g h = tt
  pieces-have (r ∷ l) g h =
      all_join (λ (x : Row). P x.bytes) (chain_rows cell_place cell_row r.cells) (pieces_rows l)
      (chain-has cell_place cell_row P Good r.cells none (all_left Good (map cell_place r.cells) (piece_places l) g) h.0)
      (pieces-have l (all_right Good (map cell_place r.cells) (piece_places l) g) h.1)

  module _ (s : Store) where
    pub recs-have : All Good (rec_places s) → ((p : ℕ) → Has (λ next. free_row rec_bytes next p))
        → All (λ (r : Rec). Has (λ next. rec_row (held_kind s.setup.role) next r)) s.held
        → All (λ (r : Rec). Has (λ next. rec_row kind_whole next r)) s.whole
        → All (λ (r : Row). P r.bytes) (rec_rows s)
    recs-have g f h w =
        let rest = all_right Good s.free (map rec_place s.held ++ map rec_place s.whole) g in
        all_join (λ (r : Row). P r.bytes) (free_rows s) (held_rows s ++ whole_rows s)
        (free-has rec_bytes s.free (all_left Good s.free (map rec_place s.held ++ map rec_place s.whole) g) f)
        (all_join (λ (r : Row). P r.bytes) (held_rows s) (whole_rows s)
        (chain-has rec_place (rec_row (held_kind s.setup.role)) P Good s.held none (all_left Good (map rec_place s.held) (map rec_place s.whole) rest) h)
        (chain-has rec_place (rec_row kind_whole) P Good s.whole none (all_right Good (map rec_place s.held) (map rec_place s.whole) rest) w))

    pub cells-have : All Good (cell_places s) → ((p : ℕ) → Has (λ next. free_row cell_bytes next p))
        → All (λ (r : Rec). All (λ (c : Cell). Has (λ next. cell_row next c)) r.cells) (s.held ++ s.whole)
        → All (λ (r : Row). P r.bytes) (cell_rows s)
    cells-have g f h =
        all_join (λ (r : Row). P r.bytes) (free_cell_rows s) (piece_rows s)
        (free-has cell_bytes s.free_cells (all_left Good s.free_cells (piece_places (s.held ++ s.whole)) g) f)
        (pieces-have (s.held ++ s.whole) (all_right Good s.free_cells (piece_places (s.held ++ s.whole)) g) h)
