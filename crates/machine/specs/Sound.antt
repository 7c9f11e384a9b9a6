-- Which stores there are: `sound` tests bytes as PROTOCOL's "Stores" says, and `fresh` is the store that setup makes. `sound` looks at bytes only where
-- `decode` forgets them; everything else is asked of the decoded store. What that part does not name is not asked: an end after created, a timed-out
-- record's state, pieces' states while nothing is in progress, an arriving record's sum of sizes.
use Rattle.std.specs.Prelude.{ℕ, suc, ◌+◌, ◌-◌, ◌/◌, Bool, true, false, ◌&&◌, ◌||◌, not, cond, List, [], ◌∷◌, ◌++◌, map, length, get_or, eqb, leb, ltb}
use Rattle.octets.specs.Octets.{part, zeros}
use Rattle.octets.specs.Lists.{all}
use Rattle.packet.specs.Frame.{largest_piece}
use Rattle.machine.specs.Limits.{longest, cut_by, head_bytes, rec_count, rec_bytes, cell_bytes, most_cells, most_of_source, store_bytes, slots_of, most_slots}
use Rattle.machine.specs.Codes.{role_receive, kind_arriving, kind_whole, kind_leaving, held_kind, state_aborted, piece_sent, piece_acked, is_role}
use Rattle.machine.specs.Values.{Cell, Sending, Rec, Store, key_of, same_key}
use Rattle.machine.specs.Tests.{every}
use Rattle.machine.specs.Rows.{zero_from}
use Rattle.machine.specs.Counting.{inside, once, rise}
use Rattle.machine.specs.Sources.{fair}
use Rattle.machine.specs.Layout.{form_at, form, rest_at, kind_at, topic_size_at, topic_at, size_at, gap_at, bytes_at, size_width, gap_width, cell_place}
use Rattle.machine.specs.Layout.{rec_place, rec_at, cell_at, num_at, decode}

-- ---- the head

-- what is asked of the head and the length
abbrev pub head_tests : ℕ → List ℕ → Store → List Bool
head_tests role b s =
    -- C from 1 to 45; store length agrees with C
    inside most_cells s.setup.cells ∷ eqb (length b) (store_bytes s.setup.cells)
    -- role is that of the call's place
    ∷ is_role role ∷ eqb s.setup.role role
    -- form 1, zeros
    ∷ eqb (get_or b form_at 0) form ∷ zero_from head_bytes rest_at b ∷ []

-- ---- a record and its pieces

-- marks 0 or 1
abbrev pub is_mark : ℕ → Bool
is_mark n = leb n 1

-- unused fields are zero
abbrev pub idle_tests : Sending → List Bool
idle_tests x = eqb x.state 0 ∷ eqb x.timed_out 0 ∷ eqb x.created 0 ∷ eqb x.end 0 ∷ []

-- state to 4; the timed-out mark; a receiver does not use them
abbrev pub sending_fits : ℕ → Sending → Bool
sending_fits role x = cond (eqb role role_receive) (every (idle_tests x)) (leb x.state state_aborted && is_mark x.timed_out)

-- cell state to 2; stamp zero unless Sent; a receiver does not use them
abbrev pub cell_fits : ℕ → Cell → Bool
cell_fits role c =
    cond (eqb role role_receive)
    (eqb c.stamp 0 && eqb c.state 0)
    (leb c.state piece_acked && (eqb c.state piece_sent || eqb c.stamp 0))

-- indices rising, from low on, below high
unfoldable pub rising : ℕ → ℕ → List Cell → Bool
rising low high [] = true
rising low high (c ∷ l) = leb low c.index && (ltb c.index high && rising (suc c.index) high l)

-- the sum of the sizes of pieces
unfoldable pub sizes : List Cell → ℕ
sizes [] = 0
sizes (c ∷ l) = length c.bytes + sizes l

-- complete: every index below slots (as many pieces as slots, for indices rise below slots), sizes adding up to length
abbrev pub is_complete : Rec → Bool
is_complete r = eqb (length r.cells) r.slots && eqb (sizes r.cells) r.label.total

-- n bytes cut by 1,300: each piece has 1,300 bytes, but the last what is left
unfoldable pub is_cut : ℕ → List Cell → Bool
is_cut n [] = eqb n 0
is_cut n (c ∷ l) = ltb 0 n && eqb (length c.bytes) (cond (leb n cut_by) n cut_by) && is_cut (n - cut_by) l

-- what is asked of a record of a kind, in a store of a role
abbrev pub rec_tests : ℕ → ℕ → Rec → List Bool
rec_tests role kind r =
    -- fields in range: the reply mark; length to 32,500; the sender's; the pieces'
    is_mark r.label.reply ∷ leb r.label.total longest ∷ sending_fits role r.sending ∷ all (cell_fits role) r.cells
    -- indices rising below slots
    ∷ rising 0 r.slots r.cells
    -- slots from ceil(length/1,300) to the larger of that and top + 1
    ∷ leb (slots_of r.label.total) r.slots ∷ leb r.slots (most_slots r.label.total)
    -- whole and leaving pieces complete
    ∷ (eqb kind kind_arriving || is_complete r)
    -- leaving ones cut by 1,300
    ∷ (not (eqb kind kind_leaving) || is_cut r.label.total r.cells) ∷ []

unfoldable pub rec_fits : ℕ → ℕ → Rec → Bool
rec_fits role kind r = every (rec_tests role kind r)

-- ---- chains

-- a chain with no record
abbrev pub no_rec : List Rec → Bool
no_rec [] = true
no_rec (r ∷ l) = false

-- ids unique
unfoldable pub distinct : List Rec → Bool
distinct [] = true
distinct (r ∷ l) = all (λ (q : Rec). not (same_key (key_of r.label) (key_of q.label))) l && distinct l

-- the places of all records, chain by chain
abbrev pub rec_places : Store → List ℕ
rec_places s = s.free ++ (map rec_place s.held ++ map rec_place s.whole)

-- the places of all cells: the free chain, and the chain of each record
abbrev pub piece_places : List Rec → List ℕ
piece_places [] = []
piece_places (r ∷ l) = map cell_place r.cells ++ piece_places l

abbrev pub cell_places : Store → List ℕ
cell_places s = s.free_cells ++ piece_places (s.held ++ s.whole)

-- ---- bytes that a store does not hold

-- a record's kind; zeros past its topic
abbrev pub rec_shape : ℕ → List ℕ → Bool
rec_shape kind row = eqb (get_or row kind_at 0) kind && zero_from rec_bytes (topic_at + get_or row topic_size_at 0) row

-- a cell's size to 1,364; zeros between its state and its data, and past its size
abbrev pub cell_tests : List ℕ → List Bool
cell_tests row =
    leb (num_at size_width row size_at) largest_piece ∷ zeros (part row gap_at gap_width) ∷ zero_from cell_bytes (bytes_at + num_at size_width row size_at) row ∷ []

abbrev pub cell_shape : List ℕ → Bool
cell_shape row = every (cell_tests row)

-- free ones zero but for next
abbrev pub free_shape : ℕ → List ℕ → Bool
free_shape size row = zero_from size 1 row

-- what is asked of the rows, chain by chain
abbrev pub shape_tests : ℕ → List ℕ → Store → List Bool
shape_tests role b s =
    all (λ p. rec_shape (held_kind role) (rec_at b p)) (map rec_place s.held) ∷ all (λ p. rec_shape kind_whole (rec_at b p)) (map rec_place s.whole)
    ∷ all (λ p. cell_shape (cell_at b p)) (piece_places (s.held ++ s.whole))
    ∷ all (λ p. free_shape rec_bytes (rec_at b p)) s.free ∷ all (λ p. free_shape cell_bytes (cell_at b p)) s.free_cells ∷ []

-- ---- sound

-- what is asked of bytes b that read as the store s
abbrev pub sound_tests : ℕ → List ℕ → Store → List Bool
sound_tests role b s =
    -- store length agrees with C, role is that of the call's place
    every (head_tests role b s)
    -- fields in range; indices, slots and pieces; whole records only in role 1
    ∷ all (rec_fits role (held_kind role)) s.held ∷ all (rec_fits role kind_whole) s.whole ∷ (eqb role role_receive || no_rec s.whole)
    -- each record and cell in the one chain its kind names; free and held cells add to C
    ∷ once rec_count (rec_places s) ∷ once s.setup.cells (cell_places s)
    -- ids unique
    ∷ distinct (s.held ++ s.whole)
    -- a record's kind is its chain's, sizes to 1,364; free ones zero but for next, and the other zeros of the layout
    ∷ every (shape_tests role b s)
    -- "a receive store with a source above 30 is unsound"
    ∷ (not (eqb role role_receive) || fair most_of_source (s.held ++ s.whole)) ∷ []

-- row 25: bytes are sound, as a store of a role
unfoldable pub sound : ℕ → List ℕ → Bool
sound role b = every (sound_tests role b (decode b))

-- ---- setup

-- fresh free chains rise from 1
abbrev pub fresh : ℕ → ℕ → Store
fresh role cells = record { setup = record { cells = cells; role = role }; free = rise 1 rec_count; held = []; whole = []; free_cells = rise 1 cells }

-- how many cells fit behind the records of a store of n bytes
abbrev pub room : ℕ → ℕ
room n = (n - store_bytes 0) / cell_bytes

-- the C that a store length stands for, 0 for none
abbrev pub setup_cells : ℕ → ℕ
setup_cells n = cond (inside most_cells (room n) && eqb (store_bytes (room n)) n) (room n) 0

-- setup gives 25 for a store length that Stores does not allow or a role other than 1 or 2
abbrev pub allowed : ℕ → ℕ → Bool
allowed n role = ltb 0 (setup_cells n) && is_role role
