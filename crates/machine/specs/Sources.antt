-- The cells that a source holds: "count held cells for each source address, over its arriving and whole records"; and that none holds more than a
-- limit, which is a parameter, `most`.
use Rattle.std.specs.Prelude.{ℕ, ◌+◌, Bool, true, cond, ◌&&◌, List, [], ◌∷◌, length, leb}
use Rattle.octets.specs.Octets.{same}
use Rattle.machine.specs.Values.{Rec}
use Rattle.machine.specs.Counting.{total}

-- the cells that a record holds for a source: one for each piece where it is the record's source, else none
unfoldable pub cells_from : List ℕ → Rec → ℕ
cells_from source r = cond (same source r.label.source) (length r.cells) 0

-- the cells that records hold for a source
abbrev pub held_by : List ℕ → List Rec → ℕ
held_by source l = total (cells_from source) l

-- no source holds more: each record with the later ones of its source, so the first of a source has them all
unfoldable pub fair : ℕ → List Rec → Bool
fair most [] = true
fair most (r ∷ l) = leb (length r.cells + held_by r.label.source l) most && fair most l
