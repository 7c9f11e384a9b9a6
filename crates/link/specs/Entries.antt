-- The packets of a run: PROTOCOL, "Calls and answers". Any bytes have entries; of addresses that are cut off, what is missing counts as 0.
use Rattle.std.specs.Prelude.{ℕ, zero, suc, ◌+◌, List, [], ◌∷◌, length, take, drop, replicate}
use Rattle.octets.specs.Octets.{part, put, num}
use Rattle.packet.specs.Frame.{address_size}

-- "each after its byte count (2 bytes), from address (16) and to address (16)"
abbrev pub count_bytes : ℕ
count_bytes = 2

abbrev pub from_at : ℕ
from_at = count_bytes

abbrev pub to_at : ℕ
to_at = from_at + address_size

abbrev pub packet_at : ℕ
packet_at = to_at + address_size

-- where the first entry ends
unfoldable pub entry_end : List ℕ → ℕ
entry_end run = packet_at + num count_bytes run

abbrev pub first_of : List ℕ → List ℕ
first_of run = take (entry_end run) run

abbrev pub rest_of : List ℕ → List ℕ
rest_of run = drop (entry_end run) run

-- the entries, n at most
unfoldable pub entries : ℕ → List ℕ → List (List ℕ)
entries zero run = []
entries (suc n) [] = []
entries (suc n) (x ∷ l) = first_of (x ∷ l) ∷ entries n (rest_of (x ∷ l))

-- no run has more entries than bytes
abbrev pub entries_of : List ℕ → List (List ℕ)
entries_of run = entries (length run) run

-- ---- an entry's parts, as the packet call takes them

-- n bytes: those of l, and zeros behind them
abbrev pub filled : ℕ → List ℕ → List ℕ
filled n l = put (replicate n 0) 0 l

abbrev pub from_of : List ℕ → List ℕ
from_of e = filled address_size (part e from_at address_size)

abbrev pub to_of : List ℕ → List ℕ
to_of e = filled address_size (part e to_at address_size)

-- the frame has the bytes that the entry has
abbrev pub frame_of : List ℕ → List ℕ
frame_of e = drop packet_at e
