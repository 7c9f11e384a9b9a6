-- The bytes of a store: where each field stands, `encode` from a store to its bytes, and `decode` back, which follows the links.
use Rattle.std.specs.Prelude.{ℕ, suc, List, [], ◌∷◌, ◌++◌, map, length, get_or, replicate}
use Rattle.octets.specs.Octets.{part, be, num, capacity}
use Rattle.packet.specs.Frame.{id_size, address_size}
use Rattle.machine.specs.Limits.{head_bytes, rec_count, rec_bytes, cell_bytes, most_cells, store_bytes}
use Rattle.machine.specs.Codes.{held_kind, kind_whole}
use Rattle.machine.specs.Values.{Label, Cell, Sending, Rec, Store}
use Rattle.machine.specs.Rows.{Row, join, pad, row_off, row_at, table}
use Rattle.machine.specs.Chains.{first, link, walk, chain_rows}

-- ---- places of fields

-- Label, a byte each: first free record, first held, first whole, first free cell, form 1, C, role, zeros
abbrev pub free_at : ℕ
free_at = 0

abbrev pub held_at : ℕ
held_at = 1

abbrev pub whole_at : ℕ
whole_at = 2

abbrev pub free_cells_at : ℕ
free_cells_at = 3

abbrev pub form_at : ℕ
form_at = 4

abbrev pub form : ℕ
form = 1

abbrev pub count_at : ℕ
count_at = 5

abbrev pub role_at : ℕ
role_at = 6

abbrev pub rest_at : ℕ
rest_at = 7

-- Record: 0 next, 1 kind, 2 reply, 3 state, 4 timed out, 5 first cell, 6 topic length, 7 slots
abbrev pub kind_at : ℕ
kind_at = 1

abbrev pub reply_at : ℕ
reply_at = 2

abbrev pub state_at : ℕ
state_at = 3

abbrev pub timed_out_at : ℕ
timed_out_at = 4

abbrev pub first_cell_at : ℕ
first_cell_at = 5

abbrev pub topic_size_at : ℕ
topic_size_at = 6

abbrev pub slots_at : ℕ
slots_at = 7

-- 8 id, 16 source, 32 destination, 48 length, 56 created ms, 64 end ms, 72 topic; zeros past the topic, so byte 327 is zero
abbrev pub id_at : ℕ
id_at = 8

abbrev pub source_at : ℕ
source_at = 16

abbrev pub destination_at : ℕ
destination_at = 32

abbrev pub total_at : ℕ
total_at = 48

abbrev pub created_at : ℕ
created_at = 56

abbrev pub end_at : ℕ
end_at = 64

abbrev pub topic_at : ℕ
topic_at = 72

-- Cell: 0 next, 1 index, 2 size, 4 stamp, 12 state, 13 zeros, 16 data
abbrev pub index_at : ℕ
index_at = 1

abbrev pub size_at : ℕ
size_at = 2

abbrev pub stamp_at : ℕ
stamp_at = 4

abbrev pub piece_state_at : ℕ
piece_state_at = 12

abbrev pub gap_at : ℕ
gap_at = 13

abbrev pub bytes_at : ℕ
bytes_at = 16

-- widths: an id, an address, a number, a piece's size, the zeros between a cell's state and its data
abbrev pub id_width : ℕ
id_width = id_size

abbrev pub address_width : ℕ
address_width = address_size

abbrev pub number_width : ℕ
number_width = 8

-- a number is below 2^64
abbrev pub number_limit : ℕ
number_limit = capacity number_width

abbrev pub size_width : ℕ
size_width = 2

abbrev pub gap_width : ℕ
gap_width = 3

-- ---- places of rows

-- the record at place k, from 1 to 8, behind the head; the cell at place k, from 1 to C, behind the records
abbrev pub rec_off : ℕ → ℕ
rec_off k = row_off head_bytes rec_bytes k

abbrev pub cell_off : ℕ → ℕ
cell_off k = row_off (store_bytes 0) cell_bytes k

-- ---- rows

-- where a cell, a record and a free row stand; of a free row its place is all there is
abbrev pub cell_place : Cell → ℕ
cell_place c = c.place

abbrev pub rec_place : Rec → ℕ
rec_place r = r.place

abbrev pub free_place : ℕ → ℕ
free_place p = p

-- Label, its fields, and its row
abbrev pub head_fields : Store → List ℕ
head_fields s =
    first s.free ∷ first (map rec_place s.held) ∷ first (map rec_place s.whole) ∷ first s.free_cells
    ∷ form ∷ s.setup.cells ∷ s.setup.role ∷ []

abbrev pub head_row : Store → List ℕ
head_row s = pad head_bytes (head_fields s)

-- free ones zero but for next
abbrev pub free_row : ℕ → ℕ → ℕ → List ℕ
free_row size next p = pad size (next ∷ [])

-- Record, its first eight bytes
abbrev pub rec_front : ℕ → ℕ → Rec → List ℕ
rec_front kind next r =
    next ∷ kind ∷ r.label.reply ∷ r.sending.state ∷ r.sending.timed_out ∷ first (map cell_place r.cells)
    ∷ length r.label.topic ∷ r.slots ∷ []

-- Record, its fields, and its row: zeros past the topic
abbrev pub rec_fields : ℕ → ℕ → Rec → List (List ℕ)
rec_fields kind next r =
    rec_front kind next r ∷ r.label.id ∷ r.label.source ∷ r.label.destination ∷ be number_width r.label.total
    ∷ be number_width r.sending.created ∷ be number_width r.sending.end ∷ r.label.topic ∷ []

unfoldable pub rec_row : ℕ → ℕ → Rec → List ℕ
rec_row kind next r = pad rec_bytes (join (rec_fields kind next r))

-- Cell, its fields, and its row: zeros past size
abbrev pub cell_fields : ℕ → Cell → List (List ℕ)
cell_fields next c =
    (next ∷ c.index ∷ []) ∷ be size_width (length c.bytes) ∷ be number_width c.stamp ∷ (c.state ∷ replicate gap_width 0) ∷ c.bytes ∷ []

unfoldable pub cell_row : ℕ → Cell → List ℕ
cell_row next c = pad cell_bytes (join (cell_fields next c))

-- the rows of all records: the free, the held and the whole chain
abbrev pub rec_rows : Store → List Row
rec_rows s =
    chain_rows free_place (free_row rec_bytes) s.free
    ++ (chain_rows rec_place (rec_row (held_kind s.setup.role)) s.held ++ chain_rows rec_place (rec_row kind_whole) s.whole)

-- the rows of all cells: the free chain, and the chain of each held and whole record
abbrev pub pieces_rows : List Rec → List Row
pieces_rows [] = []
pieces_rows (r ∷ l) = chain_rows cell_place cell_row r.cells ++ pieces_rows l

abbrev pub cell_rows : Store → List Row
cell_rows s = chain_rows free_place (free_row cell_bytes) s.free_cells ++ pieces_rows (s.held ++ s.whole)

-- ---- encode

-- head, 8 records, C cells
unfoldable pub encode : Store → List ℕ
encode s = head_row s ++ (table (row_at (rec_rows s)) 1 rec_count ++ table (row_at (cell_rows s)) 1 s.setup.cells)

-- ---- decode

-- the row of the record, and of the cell, at place k
abbrev pub rec_at : List ℕ → ℕ → List ℕ
rec_at b k = part b (rec_off k) rec_bytes

abbrev pub cell_at : List ℕ → ℕ → List ℕ
cell_at b k = part b (cell_off k) cell_bytes

-- the number in the n bytes of a row from o on
abbrev pub num_at : ℕ → List ℕ → ℕ → ℕ
num_at n row o = num n (part row o n)

-- the cell at place p, from its row
unfoldable pub cell_of : ℕ → List ℕ → Cell
cell_of p row = record {
  place = p;
  index = get_or row index_at 0;
  bytes = part row bytes_at (num_at size_width row size_at);
  stamp = num_at number_width row stamp_at;
  state = get_or row piece_state_at 0;
}

-- what an init said, and what the sender keeps, from a record's row
abbrev pub label_of : List ℕ → Label
label_of row = record {
  id = part row id_at id_width;
  source = part row source_at address_width;
  destination = part row destination_at address_width;
  reply = get_or row reply_at 0;
  total = num_at number_width row total_at;
  topic = part row topic_at (get_or row topic_size_at 0);
}

abbrev pub sending_of : List ℕ → Sending
sending_of row = record {
  state = get_or row state_at 0;
  timed_out = get_or row timed_out_at 0;
  created = num_at number_width row created_at;
  end = num_at number_width row end_at;
}

-- the record at place p, from its row and its cells
unfoldable pub rec_of : ℕ → List Cell → List ℕ → Rec
rec_of p cells row = record { place = p; label = label_of row; slots = get_or row slots_at 0; sending = sending_of row; cells = cells }

-- the places of a chain from p on: at most one more than there are places, so that a chain that does not end meets one twice
abbrev pub rec_chain : List ℕ → ℕ → List ℕ
rec_chain b p = walk (link (rec_at b)) (suc rec_count) p

abbrev pub cell_chain : List ℕ → ℕ → List ℕ
cell_chain b p = walk (link (cell_at b)) (suc most_cells) p

-- the cell at a place, the cells of a chain, and the record at a place, from all bytes
abbrev pub read_cell : List ℕ → ℕ → Cell
read_cell b p = cell_of p (cell_at b p)

abbrev pub read_cells : List ℕ → ℕ → List Cell
read_cells b p = map (read_cell b) (cell_chain b p)

abbrev pub read_rec : List ℕ → ℕ → Rec
read_rec b p = rec_of p (read_cells b (get_or (rec_at b p) first_cell_at 0)) (rec_at b p)

-- the store that bytes hold; any bytes read as some store
unfoldable pub decode : List ℕ → Store
decode b = record {
  setup = record { cells = get_or b count_at 0; role = get_or b role_at 0 };
  free = rec_chain b (get_or b free_at 0);
  held = map (read_rec b) (rec_chain b (get_or b held_at 0));
  whole = map (read_rec b) (rec_chain b (get_or b whole_at 0));
  free_cells = cell_chain b (get_or b free_cells_at 0);
}
