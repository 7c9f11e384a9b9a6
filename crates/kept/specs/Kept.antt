-- The test that decides whether a fresh receiver keeps a survey's pieces and finishes it: on the length, the sizes and the number of cells alone. In the
-- order in which the office refuses.
use Rattle.std.specs.Prelude.{ℕ, suc, ◌+◌, Bool, ◌&&◌, ◌||◌, List, [], ◌∷◌, eqb, leb, ltb}
use Rattle.packet.specs.Frame.{largest_piece}
use Rattle.machine.specs.Limits.{longest, least_piece, most_of_source, slots_of, top_of}

-- a piece is long enough: 250 bytes, or its index is top, or it ends the message
abbrev pub long_enough : ℕ → ℕ → ℕ → ℕ → Bool
long_enough total i o size = leb least_piece size || (eqb i (top_of total) || eqb (o + size) total)

-- a piece at index i and offset o is kept: a frame can carry it, it lies in the message, its index is to top, it is long enough, its source has a share
-- left, and a cell is free
abbrev pub piece_fits : ℕ → ℕ → ℕ → ℕ → ℕ → Bool
piece_fits total cells i o size =
    leb size largest_piece
    && (leb (o + size) total && (leb i (top_of total) && (long_enough total i o size && (ltb i most_of_source && ltb i cells))))

-- the pieces from index i and offset o on are kept, and the done is taken: there are as many pieces as slots, and no byte is missing
unfoldable pub fits : ℕ → ℕ → ℕ → ℕ → List ℕ → Bool
fits total cells i o [] = leb (slots_of total) i && eqb o total
fits total cells i o (size ∷ l) = piece_fits total cells i o size && fits total cells (suc i) (o + size) l

-- .. behind an init of that length
abbrev pub keeps : ℕ → ℕ → List ℕ → Bool
keeps total cells sizes = leb total longest && fits total cells 0 0 sizes
