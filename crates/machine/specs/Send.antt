-- What the tablet's store becomes, and what it sends: PROTOCOL, "The tablet".
use Rattle.std.specs.Prelude.{ℕ, ◌*◌, Bool, cond, not, ◌&&◌, ◌||◌, List, [], ◌∷◌, ◌++◌, map, length, drop, eqb}
use Rattle.std.proofs.Math.Option.{Option, none, some}
use Rattle.octets.specs.Lists.{all}
use Rattle.blake3.specs.Tree.{blake3}
use Rattle.packet.specs.Outgoing.{entry, init_packet, chunk_packet, done_packet, aborted_packet}
use Rattle.machine.specs.Limits.{cut_by, slots_of}
use Rattle.machine.specs.Codes.{state_init, state_in_progress, state_aborted, piece_sent, piece_acked}
use Rattle.machine.specs.Values.{Label, Cell, Rec, Store, Key}
use Rattle.machine.specs.Chains.{first}
use Rattle.machine.specs.Pieces.{cut_pieces, joined, rest}
use Rattle.machine.specs.Receive.{found, replaced, drop_at}
use Rattle.machine.specs.Choice.{chosen, among}

-- ---- rebuilding

-- the store with other held records
abbrev pub with_held : List Rec → Store → Store
with_held l s = record { setup = s.setup; free = s.free; held = l; whole = s.whole; free_cells = s.free_cells }

-- the record in another state
abbrev pub with_state : ℕ → Rec → Rec
with_state n r = record {
  place = r.place;
  label = r.label;
  slots = r.slots;
  sending = record { state = n; timed_out = r.sending.timed_out; created = r.sending.created; end = r.sending.end };
  cells = r.cells;
}

-- the record with other cells
abbrev pub with_cells : List Cell → Rec → Rec
with_cells l r = record { place = r.place; label = r.label; slots = r.slots; sending = r.sending; cells = l }

-- the piece with another stamp and state
abbrev pub marked : Cell → ℕ → ℕ → Cell
marked c stamp state = record { place = c.place; index = c.index; bytes = c.bytes; stamp = stamp; state = state }

-- the record with a key, changed where it stands
unfoldable pub change_at : (Rec → Rec) → Option Rec → Store → Store
change_at f none s = s
change_at f (some r) s = with_held (replaced (f r) s.held) s

-- the record with a key, changed by f; nothing where there is none
abbrev pub change : (Rec → Rec) → Key → Store → Store
change f k s = change_at f (found k s.held) s

-- ---- push

-- "data cut by 1,300"; end is created + try
unfoldable pub push_step : Label → ℕ → ℕ → List ℕ → Store → Store
push_step h created end bytes s = record {
  setup = s.setup;
  free = rest s.free;
  held = record {
    place = first s.free;
    label = h;
    slots = slots_of (length bytes);
    sending = record { state = state_init; timed_out = 0; created = created; end = end };
    cells = cut_pieces (slots_of (length bytes)) 0 s.free_cells bytes;
  } ∷ s.held;
  whole = s.whole;
  free_cells = drop (slots_of (length bytes)) s.free_cells;
}

-- ---- acknowledgements

-- "ack chunk .. marks its piece Acked"; the stamp is zero unless Sent
abbrev pub ack_cell : ℕ → Cell → Cell
ack_cell index c = cond (eqb c.index index) (marked c 0 piece_acked) c

-- the record with the piece at an index Acked
abbrev pub ack_piece : ℕ → Rec → Rec
ack_piece index r = with_cells (map (ack_cell index) r.cells) r

-- ---- packets of a record, from its source to its destination

abbrev pub sent_by : Label → List ℕ → List ℕ
sent_by h packet = entry h.source h.destination packet

-- "init sent with topic; reply flag if a reply"
abbrev pub init_out : Label → List ℕ
init_out h = sent_by h (init_packet h.id (eqb h.reply 1) h.total h.topic)

-- a chunk: its offset is 1,300 times its index
abbrev pub chunk_out : Label → Cell → List ℕ
chunk_out h c = sent_by h (chunk_packet h.id c.index (cut_by * c.index) c.bytes)

-- the done: the number of pieces and the sum of the pieces joined
abbrev pub done_out : Rec → List ℕ
done_out r = sent_by r.label (done_packet r.label.id r.slots (blake3 (joined r.cells)))

-- the aborted packet
abbrev pub aborted_out : Label → List ℕ
aborted_out h = sent_by h (aborted_packet h.id)

-- ---- send wake

-- the pieces that a record sends: only in state 1 and not timed out
abbrev pub sends_pieces : Rec → Bool
sends_pieces r = eqb r.sending.state state_in_progress && not (eqb r.sending.timed_out 1)

unfoldable pub sent_pieces : ℕ → Rec → List Cell
sent_pieces clock r = cond (sends_pieces r) (chosen clock r.cells) []

-- their chunks, in the order of sending
unfoldable pub chunks_out : Label → List Cell → List ℕ
chunks_out h [] = []
chunks_out h (c ∷ l) = chunk_out h c ++ chunks_out h l

-- of a record's pieces, those that are sent are stamped
abbrev pub stamped : ℕ → List Cell → Cell → Cell
stamped clock those c = cond (among those c.index) (marked c clock piece_sent) c

abbrev pub with_stamps : ℕ → List Cell → Rec → Rec
with_stamps clock those r = with_cells (map (stamped clock those) r.cells) r

-- every piece is Acked
abbrev pub all_acked : List Cell → Bool
all_acked l = all (λ (c : Cell). eqb c.state piece_acked) l

-- what else a wake sends: "State 0: init again"; in state 1, "all Acked: done"
abbrev pub other_out : Rec → List ℕ
other_out r =
    cond (eqb r.sending.state state_init) (init_out r.label)
    (cond (eqb r.sending.state state_in_progress && all_acked r.cells) (done_out r) [])

-- "nothing if timed out"
unfoldable pub wake_out : ℕ → Rec → List ℕ
wake_out clock r = cond (eqb r.sending.timed_out 1) [] (chunks_out r.label (sent_pieces clock r) ++ other_out r)

-- the record after it
unfoldable pub woken : ℕ → Rec → Rec
woken clock r = with_stamps clock (sent_pieces clock r) r

-- ---- deadline wake

-- in state 0 or 1
abbrev pub unsettled : Rec → Bool
unsettled r = eqb r.sending.state state_init || eqb r.sending.state state_in_progress

-- "the first sets the timed-out mark and turns 0 or 1 into 4"
abbrev pub timed_out : Rec → Rec
timed_out r = record {
  place = r.place;
  label = r.label;
  slots = r.slots;
  sending = record {
    state = cond (unsettled r) state_aborted r.sending.state;
    timed_out = 1;
    created = r.sending.created;
    end = r.sending.end;
  };
  cells = r.cells;
}

-- ".. with an aborted packet"
unfoldable pub deadline_out : Rec → List ℕ
deadline_out r = cond (eqb r.sending.timed_out 1) [] (cond (unsettled r) (aborted_out r.label) [])

-- "the second drops the record"
unfoldable pub deadline_at : Option Rec → Store → Store
deadline_at none s = s
deadline_at (some r) s = cond (eqb r.sending.timed_out 1) (drop_at (some r) s) (change_at timed_out (some r) s)
