-- Bytes in which every link and size is in range: all that the operations in place need to stay inside the store. Links count from 1 and zero ends
-- a chain, so a link is at most the number of places.
use Rattle.std.specs.Prelude.{ℕ, ◌+◌, ◌≤◌, ◌<◌, ◌≡◌, List, length, get_or}
use Rattle.octets.specs.Octets.{part, num}
use Rattle.machine.specs.Limits.{rec_count, most_cells, store_bytes}
use Rattle.machine.specs.Layout.{free_at, held_at, whole_at, free_cells_at, count_at, first_cell_at, size_at, size_width, rec_off, cell_off}
use Rattle.packet.specs.Frame.{largest_piece}

-- C, as the head says
abbrev pub count : List ℕ → ℕ
count b = get_or b count_at 0

-- the size of the piece in the cell at place k
abbrev pub size_in : List ℕ → ℕ → ℕ
size_in b k = num size_width (part b (cell_off k + size_at) size_width)

-- a link to a record, or the end of a chain of records, stands at byte `at`, in the head or in a record; no link to a cell stands there
pub record RecLink (b : List ℕ) (at : ℕ) : Type 0 where
  pub inside : at < store_bytes 0
  pub small : get_or b at 0 ≤ rec_count
  pub no_free : at ≡ free_cells_at → ⊥
  pub no_first : (k : ℕ) → at ≡ rec_off k + first_cell_at → ⊥

pub record Links (b : List ℕ) : Type 0 where
  -- C from 1 to 45; store length agrees with C
  pub some : 1 ≤ count b
  pub most : count b ≤ most_cells
  pub long : length b ≡ store_bytes (count b)
  -- Label: first free record, first held, first whole, first free cell
  pub free : RecLink b free_at
  pub held : RecLink b held_at
  pub whole : RecLink b whole_at
  pub free_cells : get_or b free_cells_at 0 ≤ count b
  -- Record: next, first cell
  pub recs : (k : ℕ) → 0 < k → k ≤ rec_count → RecLink b (rec_off k)
  pub firsts : (k : ℕ) → 0 < k → k ≤ rec_count → get_or b (rec_off k + first_cell_at) 0 ≤ count b
  -- Cell: next, size
  pub cells : (k : ℕ) → 0 < k → k ≤ count b → get_or b (cell_off k) 0 ≤ count b
  pub sizes : (k : ℕ) → 0 < k → k ≤ count b → size_in b k ≤ largest_piece
