-- Dropping a record, on bytes: the link to it leads on, its row becomes free, and so do its cells.
use Rattle.std.specs.Prelude.{ℕ, ◌+◌, ◌≤◌, ◌<◌, List, [], ◌∷◌, get_or}
use Rattle.octets.specs.Octets.{put}
use Rattle.machine.specs.Limits.{rec_bytes, rec_count}
use Rattle.machine.specs.Layout.{free_at, free_cells_at, first_cell_at, rec_off, free_row}
use Rattle.machine_writes.specs.Links.{Links, RecLink}
use Rattle.records.specs.Clearing.{clear_from, Clearable}

-- the record at a place is free, in front of the free records
abbrev pub rec_free : ℕ → List ℕ → List ℕ
rec_free place b = put (put b (rec_off place) (free_row rec_bytes (get_or b free_at 0) place)) free_at (place ∷ [])

-- the record at a place, whose first cell is at `first`, is released
abbrev pub released : ℕ → ℕ → List ℕ → List ℕ
released place first b = clear_from first (rec_free place b)

-- the record whose link stands at byte `link` leaves its chain and is released
abbrev pub unlinked : ℕ → List ℕ → List ℕ
unlinked link b = released (get_or b link 0) (get_or b (rec_off (get_or b link 0) + first_cell_at) 0) (put b link (get_or b (rec_off (get_or b link 0)) 0 ∷ []))

-- a record is at a place; links of cells are in range
pub record Releasable (place first : ℕ) (b : List ℕ) : Type 0 where
  pub some : 0 < place
  pub small : place ≤ rec_count
  pub chain : Clearable first (get_or b free_cells_at 0) b

-- a link to a record stands at byte `link`
pub record Droppable (link : ℕ) (b : List ℕ) : Type 0 where
  pub links : Links b
  pub some : 0 < get_or b link 0
  pub led : RecLink b link
