-- The pieces of a record: its cells, in index order.
use Rattle.std.specs.Prelude.{ℕ, zero, suc, cond, List, [], ◌∷◌, ◌++◌, take, drop, eqb, ltb}
use Rattle.std.proofs.Math.Option.{Option, map}
use Rattle.machine.specs.Limits.{cut_by}
use Rattle.machine.specs.Codes.{piece_started}
use Rattle.machine.specs.Values.{Cell}
use Rattle.machine.specs.Chains.{first}
use Rattle.machine.specs.Find.{find}

-- a piece that has just come: Started, no stamp
abbrev pub new_cell : ℕ → ℕ → List ℕ → Cell
new_cell place index bytes = record { place = place; index = index; bytes = bytes; stamp = 0; state = piece_started }

-- the piece at an index, if there is one
abbrev pub piece_at : ℕ → List Cell → Option Cell
piece_at i l = find eqb (λ (c : Cell). c.index) i l

-- the bytes of the piece at an index, if there is one
abbrev pub piece_bytes : ℕ → List Cell → Option (List ℕ)
piece_bytes i l = map (λ (c : Cell). c.bytes) (piece_at i l)

-- Chunk: "the piece replaces its index": at a held index it is written in its own cell; at a new one it takes the cell at `place`, in index order
unfoldable pub put_piece : ℕ → ℕ → List ℕ → List Cell → List Cell
put_piece place index bytes [] = new_cell place index bytes ∷ []
put_piece place index bytes (c ∷ l) =
    cond (ltb index c.index) (new_cell place index bytes ∷ c ∷ l)
    (cond (eqb index c.index) (new_cell c.place index bytes ∷ l) (c ∷ put_piece place index bytes l))

-- Done: "pieces joined in index order"
unfoldable pub joined : List Cell → List ℕ
joined [] = []
joined (c ∷ l) = c.bytes ++ joined l

-- what is left of a list behind its first element
abbrev pub rest : List ℕ → List ℕ
rest [] = []
rest (p ∷ l) = l

-- Push: "data cut by 1,300": n pieces from index i on, in the cells at the places
unfoldable pub cut_pieces : ℕ → ℕ → List ℕ → List ℕ → List Cell
cut_pieces zero i places bytes = []
cut_pieces (suc n) i places bytes = new_cell (first places) i (take cut_by bytes) ∷ cut_pieces n (suc i) (rest places) (drop cut_by bytes)
