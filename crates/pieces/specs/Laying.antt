-- What laying down a piece of pushed data writes, on bytes.
use Rattle.std.specs.Prelude.{ℕ, cond, List, length, get_or, take, ltb}
use Rattle.octets.specs.Octets.{put}
use Rattle.machine.specs.Limits.{cut_by}
use Rattle.machine.specs.Layout.{cell_off, cell_row}
use Rattle.machine.specs.Pieces.{new_cell}

-- the first piece of the bytes that are left, of index i, in the cell at a place: it leads on where more bytes follow, the last one to 0
abbrev pub piece_laid : List ℕ → ℕ → ℕ → List ℕ → List ℕ
piece_laid b place i bytes =
    put b (cell_off place) (cell_row (cond (ltb cut_by (length bytes)) (get_or b (cell_off place) 0) 0) (new_cell place i (take cut_by bytes)))
