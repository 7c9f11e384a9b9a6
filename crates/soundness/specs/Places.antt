-- What is left of a chain that is walked, of records or of pieces.
use Rattle.std.specs.Prelude.{ℕ, List, map}
use Rattle.machine.specs.Values.{Cell}
use Rattle.machine.specs.Chains.{link, walk}
use Rattle.machine.specs.Layout.{rec_at, cell_at, cell_of, read_cell}
use Rattle.soundness.specs.declared.records.Records.{Records}
use Rattle.soundness.specs.declared.pieces.Piece.{Piece}
use Rattle.soundness.specs.declared.pieces.Pieces.{Pieces}

-- the places of the records
abbrev pub places : Records → List ℕ
places r = walk (link (rec_at r.store.bytes.now)) r.left r.next

-- the cell of a piece, and those of the pieces
abbrev pub piece_of : Piece → Cell
piece_of p = cell_of p.place p.row.now

abbrev pub pieces_left : Pieces → List Cell
pieces_left p = map (read_cell p.store.bytes.now) (walk (link (cell_at p.store.bytes.now)) p.left p.next)
