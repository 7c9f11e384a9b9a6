-- What "Sound" asks of the head and of one row by itself: the part of machine's tests that needs no other row.
use Rattle.std.specs.Prelude.{ℕ, ◌≤◌, ◌≡◌, Bool, ◌&&◌, List, [], ◌∷◌, get_or, leb}
use Rattle.machine.specs.Limits.{longest, rec_bytes, cell_bytes, slots_of, most_slots}
use Rattle.machine.specs.Values.{Label, Sending}
use Rattle.machine.specs.Tests.{every}
use Rattle.machine.specs.Layout.{slots_at, cell_of, label_of, sending_of, decode}
use Rattle.machine.specs.Sound.{is_mark, sending_fits, cell_fits, head_tests, rec_shape, cell_shape, free_shape}
use Rattle.rows.specs.declared.Holds.{Holds}
use Rattle.rows.specs.declared.Holds.TheVariants.{Free, Record, Piece}

-- store length agrees with C, role is that of the call's place
unfoldable pub head_fits : ℕ → List ℕ → Bool
head_fits role b = every (head_tests role b (decode b))

-- fields in range: the reply mark; length to 32,500; the sender's; slots in the range of the length
abbrev pub own_tests : ℕ → Label → ℕ → Sending → List Bool
own_tests role h slots x =
    is_mark h.reply ∷ leb h.total longest ∷ sending_fits role x ∷ leb (slots_of h.total) slots ∷ leb slots (most_slots h.total) ∷ []

-- a record's row, all but its pieces
unfoldable pub record_fits : ℕ → ℕ → List ℕ → Bool
record_fits role kind row = rec_shape kind row && every (own_tests role (label_of row) (get_or row slots_at 0) (sending_of row))

-- a piece's row, all but its index
unfoldable pub piece_fits : ℕ → List ℕ → Bool
piece_fits role row = cell_shape row && cell_fits role (cell_of 0 row)

-- a row of n bytes, by what it is to hold: free ones zero but for next
abbrev pub row_fits : ℕ → Holds → ℕ → List ℕ → Bool
row_fits role Free n row = free_shape n row
row_fits role (Record kind) n row = record_fits role kind row
row_fits role Piece n row = piece_fits role row

-- the bytes of a row, by what it is to hold; free rows have some
abbrev pub Sized : Holds → ℕ → Type 0
Sized Free n = 1 ≤ n
Sized (Record kind) n = n ≡ rec_bytes
Sized Piece n = n ≡ cell_bytes
