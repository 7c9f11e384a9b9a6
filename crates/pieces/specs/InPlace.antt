-- What the operations make of the bytes of a store, as the contracts state it.
use Rattle.std.specs.Prelude.{ℕ, zero, suc, ◌+◌, ◌≤◌, ◌<◌, max, ◌≡◌, Bool, false, cond, List, [], ◌∷◌, ◌++◌, length, get_or, eqb, leb}
use Rattle.octets.specs.Octets.{put, be}
use Rattle.machine.specs.Limits.{rec_count, cell_bytes, most_cells}
use Rattle.machine.specs.Values.{Cell}
use Rattle.machine.specs.Layout.{count_at, free_cells_at, first_cell_at, slots_at, index_at, stamp_at, number_width, rec_off, cell_off, cell_row}
use Rattle.machine.specs.Pieces.{new_cell}
use Rattle.packet.specs.Frame.{largest_piece}

-- ---- walks

-- the state of a piece
abbrev pub piece_state : Cell → ℕ
piece_state c = c.state

-- the byte of a record that is its link to its first cell
abbrev pub first_link : ℕ → ℕ
first_link place = rec_off place + first_cell_at

-- the index of the cell that the link at byte `link` leads to
abbrev pub index_behind : List ℕ → ℕ → ℕ
index_behind b link = get_or b (cell_off (get_or b link 0) + index_at) 0

-- from the link at byte `link` on, the byte of the link to the first cell whose index is not below i, or of the 0 that ends the chain, in at most n
-- steps
unfoldable pub spot_from : List ℕ → ℕ → ℕ → ℕ → ℕ
spot_from b zero link i = link
spot_from b (suc n) link i = cond (eqb (get_or b link 0) 0) link (cond (leb i (index_behind b link)) link (spot_from b n (cell_off (get_or b link 0)) i))

-- the same in the chain of the record at a place
abbrev pub spot_in : List ℕ → ℕ → ℕ → ℕ
spot_in b place i = spot_from b (suc most_cells) (first_link place) i

-- whether the link at byte `link` leads to a cell of index i
abbrev pub holds_index : List ℕ → ℕ → ℕ → Bool
holds_index b link i = cond (eqb (get_or b link 0) 0) false (eqb i (index_behind b link))

-- ---- writes

-- Chunk: "the piece replaces its index": a piece in the cell at a place, which keeps its link and its index
abbrev pub rewritten : List ℕ → ℕ → List ℕ → List ℕ
rewritten b place bytes = put b (cell_off place) (cell_row (get_or b (cell_off place) 0) (new_cell place (get_or b (cell_off place + index_at) 0) bytes))

-- another stamp and state in the cell at a place
abbrev pub remarked : List ℕ → ℕ → ℕ → ℕ → List ℕ
remarked b place stamp state = put b (cell_off place + stamp_at) (be number_width stamp ++ (state ∷ []))

-- Chunk: "slots grow to index + 1", of the record at a place
abbrev pub grown : List ℕ → ℕ → ℕ → List ℕ
grown b place i = put b (rec_off place + slots_at) (max (get_or b (rec_off place + slots_at) 0) (suc i) ∷ [])

-- a piece of the record at a place in the cell p: its row leads to where the link at byte `link` led, the free chain goes on behind p, and the link
-- leads to p
abbrev pub inserted_at : ℕ → List ℕ → ℕ → ℕ → ℕ → List ℕ → List ℕ
inserted_at p b place link i bytes =
    put (put (put (grown b place i) (cell_off p) (cell_row (get_or b link 0) (new_cell p i bytes))) free_cells_at (get_or b (cell_off p) 0 ∷ [])) link (p ∷ [])

-- a new index takes the first free cell
unfoldable pub inserted : List ℕ → ℕ → ℕ → ℕ → List ℕ → List ℕ
inserted b place link i bytes = inserted_at (get_or b free_cells_at 0) b place link i bytes

-- a piece of index i comes to the record at a place
unfoldable pub chunked : List ℕ → ℕ → ℕ → List ℕ → List ℕ
chunked b place i bytes =
    cond (holds_index b (spot_in b place i) i) (rewritten b (get_or b (spot_in b place i) 0) bytes) (inserted b place (spot_in b place i) i bytes)

-- ---- what is asked

-- a cell of the bytes b, and a byte of them that is a link to a cell
pub record CellIn (b : List ℕ) (place : ℕ) : Type 0 where
  pub some : 1 ≤ place
  pub most : place ≤ most_cells
  pub fits : cell_off place + cell_bytes ≤ length b

pub record LinkIn (b : List ℕ) (link : ℕ) : Type 0 where
  pub inside : link < length b
  pub leads : get_or b link 0 ≤ get_or b count_at 0

-- the link at byte `spot` is where the record at a place has its piece of index i, or would have it
pub record Spot (b : List ℕ) (place i spot : ℕ) : Type 0 where
  pub is : spot ≡ spot_in b place i
  pub link : LinkIn b spot

-- of a piece of n bytes and index i for the record at a place
pub record PieceFits (place i n : ℕ) : Type 0 where
  pub some : 1 ≤ place
  pub most : place ≤ rec_count
  pub index : suc i < 256
  pub size : n ≤ largest_piece
