-- Freeing a chain of cells by its links, on bytes: "what is freed goes in front, a chain in its own order".
use Rattle.std.specs.Prelude.{ℕ, zero, suc, ◌≤◌, ◌<◌, ◌≡◌, cond, List, [], ◌∷◌, length, get_or, eqb}
use Rattle.octets.specs.Octets.{put}
use Rattle.machine.specs.Limits.{cell_bytes, most_cells, store_bytes}
use Rattle.machine.specs.Layout.{free_cells_at, cell_off, free_row}

-- a place, or `end` where a chain ends
abbrev pub or_else : ℕ → ℕ → ℕ
or_else end place = cond (eqb place 0) end place

-- the cell at a place is free; it leads where it led, the last one to `end`
abbrev pub cell_free : ℕ → ℕ → List ℕ → List ℕ
cell_free end place b = put b (cell_off place) (free_row cell_bytes (or_else end (get_or b (cell_off place) 0)) place)

-- the cells from a place on are free, at most n of them
unfoldable pub free_from : ℕ → ℕ → ℕ → List ℕ → List ℕ
free_from end zero place b = b
free_from end (suc n) place b = cond (eqb place 0) b (free_from end n (get_or b (cell_off place) 0) (cell_free end place b))

-- the chain of cells that starts at a place is free, in front of the free cells
abbrev pub clear_from : ℕ → List ℕ → List ℕ
clear_from place b = put (free_from (get_or b free_cells_at 0) (suc most_cells) place b) free_cells_at (or_else (get_or b free_cells_at 0) place ∷ [])

-- in bytes of some count of cells every cell's link is in range, and so are that place and `end`
pub record Clearable (place end : ℕ) (b : List ℕ) : Type 0 where
  pub count : ℕ
  pub most : count ≤ most_cells
  pub long : length b ≡ store_bytes count
  pub links : (k : ℕ) → 0 < k → k ≤ count → get_or b (cell_off k) 0 ≤ count
  pub start : place ≤ count
  pub stop : end ≤ count
