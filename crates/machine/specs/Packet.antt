-- Packet, as a function from its bytes and numbers to its outcome: its row of refusals in the order of PROTOCOL's "Calls and answers", what each kind
-- makes of the two stores ("The office", "The tablet"), and what it replies.
use Rattle.std.specs.Prelude.{ℕ, ◌+◌, Bool, true, false, cond, not, ◌&&◌, ◌||◌, List, [], ◌∷◌, ◌++◌, length, eqb, leb, ltb}
use Rattle.std.proofs.Math.Option.{Option}
use Rattle.octets.specs.Octets.{put, same}
use Rattle.octets.specs.Bools.{one}
use Rattle.answer.specs.Answers.{bare, accepted}
use Rattle.blake3.specs.Tree.{blake3}
use Rattle.topic.specs.Book.{well_formed, admits}
use Rattle.packet.specs.declared.header.Kind.{Kind}
use Rattle.packet.specs.declared.header.Kind.TheVariants.{Init, Chunk, Done, Read, Aborted, AckInit, AckChunk, AckDone, Nothing}
use Rattle.packet.specs.Frame.{has, reply_flag, kind_of, id_of, flags_of, init_length, init_topic, chunk_index, chunk_offset, chunk_size, piece, done_count, done_sum}
use Rattle.packet.specs.Frame.{is_frame, is_enough}
use Rattle.packet.specs.Outgoing.{entry, reply_packet, init_reply, chunk_reply, done_reply}
use Rattle.machine.specs.Limits.{longest, least_piece, most_of_source, top_of}
use Rattle.machine.specs.Codes.{role_receive, role_send, state_init, state_in_progress, state_received, state_read, bad_frame, short_output, bad_rules}
use Rattle.machine.specs.Codes.{closed_topic, already_whole, too_long, no_record, past_end, high_index, short_piece, no_cell, wrong_count, gap}
use Rattle.machine.specs.Codes.{wrong_total, wrong_sum, no_key, wrong_state, no_such_piece, no_work, unsound_store, short_frame, source_full, yes}
use Rattle.machine.specs.Values.{Label, Rec, Store, Key}
use Rattle.machine.specs.Layout.{encode, decode}
use Rattle.machine.specs.Sources.{held_by}
use Rattle.machine.specs.Sound.{sound, sizes}
use Rattle.machine.specs.Find.{is_some}
use Rattle.machine.specs.Refusals.{Refusals, refusal, asks_of, held_row}
use Rattle.machine.specs.Pieces.{piece_at, joined}
use Rattle.machine.specs.Receive.{found, init_step, chunk_step, done_step, drop_step}
use Rattle.machine.specs.Send.{change, with_state, ack_piece}
use Rattle.machine.specs.Outcomes.{PacketOutcome}

-- a packet as it comes in: the frame, its addresses, the rule book and the host's mark for a known key
pub record Packet : Type 0 where
  pub frame : List ℕ
  pub from : List ℕ
  pub to : List ℕ
  pub rules : List ℕ
  pub known : ℕ

-- the kind that its flags decide
abbrev pub kind : Packet → Kind
kind p = kind_of (flags_of p.frame)

-- the key that a packet asks for
abbrev pub asked : Packet → Key
asked p = id_of p.frame

-- it has the reply flag
abbrev pub is_reply : Packet → Bool
is_reply p = has (flags_of p.frame) reply_flag

-- what an init says
abbrev pub init_label : Packet → Label
init_label p = record {
  id = id_of p.frame;
  source = p.from;
  destination = p.to;
  reply = one (is_reply p);
  total = init_length p.frame;
  topic = init_topic p.frame;
}

-- init 3, 4; "reply inits skip" the rule book
abbrev pub rules_row : Bool → List ℕ → List ℕ → List ℕ → Refusals
rules_row reply from topic rules = (reply || well_formed rules, bad_rules) ∷ (reply || admits rules topic from, closed_topic) ∷ []

-- init 5, 6, 7, on a store and with the held record of its key
abbrev pub place_row : Key → ℕ → Store → Option Rec → Refusals
place_row k total s o =
    (not (is_some (found k s.whole)), already_whole)
    ∷ (leb total longest, too_long)
    ∷ (is_some o || ltb 0 (length s.free), no_record)
    ∷ []

-- init 3, 4, 5, 6, 7
abbrev pub init_row : Packet → Store → Refusals
init_row p s =
    rules_row (is_reply p) p.from (init_topic p.frame) p.rules
    ++ place_row (asked p) (init_length p.frame) s (found (asked p) s.held)

-- row 11: "a size below 250, an index that is not top, and an end that is not the message's"
unfoldable pub too_short : ℕ → ℕ → ℕ → ℕ → Bool
too_short total index offset size = ltb size least_piece && not (eqb index (top_of total)) && not (eqb (offset + size) total)

-- row 12: "a piece at a new index 1, at a held index 0"
abbrev pub cells_needed : ℕ → Rec → ℕ
cells_needed index r = cond (is_some (piece_at index r.cells)) 0 1

-- chunk 9, 10, 11, of its record
abbrev pub piece_row : ℕ → ℕ → ℕ → Rec → Refusals
piece_row index offset size r =
    (leb (offset + size) r.label.total, past_end)
    ∷ (leb index (top_of r.label.total), high_index)
    ∷ (not (too_short r.label.total index offset size), short_piece)
    ∷ []

-- row 28: "a piece needing a new cell while its record's source holds 30"
abbrev pub has_share : ℕ → ℕ → Store → Rec → Bool
has_share most index s r = is_some (piece_at index r.cells) || ltb (held_by r.label.source (s.held ++ s.whole)) most

-- chunk 28, "just before 12"
abbrev pub cell_row : ℕ → Store → Rec → Refusals
cell_row index s r = (has_share most_of_source index s r, source_full) ∷ (leb (cells_needed index r) (length s.free_cells), no_cell) ∷ []

-- chunk 8, 9, 10, 11, 28, 12
abbrev pub chunk_row : ℕ → ℕ → ℕ → Store → Option Rec → Refusals
chunk_row index offset size s o = asks_of o (λ r. piece_row index offset size r ++ cell_row index s r)

-- done 8, 13 to 17; indices rise below slots, so every one below slots has a piece where there are as many as slots (row 14)
abbrev pub done_row : ℕ → List ℕ → Bool → Option Rec → Refusals
done_row count sum known o =
    asks_of o
    (λ r.
    (eqb count r.slots, wrong_count)
    ∷ (eqb (length r.cells) r.slots, gap)
    ∷ (eqb (sizes r.cells) r.label.total, wrong_total)
    ∷ (same sum (blake3 (joined r.cells)), wrong_sum)
    ∷ (known, no_key)
    ∷ [])

-- "the rest 8, 18, 19": the state that an acknowledgement or a read needs
abbrev pub state_row : ℕ → Option Rec → Refusals
state_row state o = asks_of o (λ r. (eqb r.sending.state state, wrong_state) ∷ [])

-- .. and, of a chunk, an index below the number of pieces (row 19)
abbrev pub ack_chunk_row : ℕ → Option Rec → Refusals
ack_chunk_row index o = asks_of o (λ r. (eqb r.sending.state state_in_progress, wrong_state) ∷ (ltb index (length r.cells), no_such_piece) ∷ [])

-- row 20: some kind fits
abbrev pub is_kind : Kind → Bool
is_kind Init = true
is_kind Chunk = true
is_kind Done = true
is_kind Read = true
is_kind Aborted = true
is_kind AckInit = true
is_kind AckChunk = true
is_kind AckDone = true
is_kind Nothing = false

-- the refusals of a kind, on the two stores
unfoldable pub kind_row : Kind → Packet → Store → Store → Refusals
kind_row Init p recv send = init_row p recv
kind_row Chunk p recv send = chunk_row (chunk_index p.frame) (chunk_offset p.frame) (chunk_size p.frame) recv (found (asked p) recv.held)
kind_row Done p recv send = done_row (done_count p.frame) (done_sum p.frame) (yes p.known) (found (asked p) recv.held)
kind_row Read p recv send = state_row state_received (found (asked p) send.held)
kind_row Aborted p recv send = held_row (found (asked p) recv.held)
kind_row AckInit p recv send = state_row state_init (found (asked p) send.held)
kind_row AckChunk p recv send = ack_chunk_row (chunk_index p.frame) (found (asked p) send.held)
kind_row AckDone p recv send = state_row state_in_progress (found (asked p) send.held)
kind_row Nothing p recv send = (is_kind Nothing, no_work) ∷ []

-- what a kind makes of the receive store
unfoldable pub recv_step : Kind → Packet → Store → Store
recv_step Init p s = init_step (init_label p) s
recv_step Chunk p s = chunk_step (asked p) (chunk_index p.frame) (piece p.frame) s
recv_step Done p s = done_step (asked p) s
recv_step Read p s = s
recv_step Aborted p s = drop_step (asked p) s
recv_step AckInit p s = s
recv_step AckChunk p s = s
recv_step AckDone p s = s
recv_step Nothing p s = s

-- .. and of the send store: "ack init 0 to 1, ack done 1 to 2, read 2 to 3"
unfoldable pub send_step : Kind → Packet → Store → Store
send_step Init p s = s
send_step Chunk p s = s
send_step Done p s = s
send_step Read p s = change (with_state state_read) (asked p) s
send_step Aborted p s = s
send_step AckInit p s = change (with_state state_in_progress) (asked p) s
send_step AckChunk p s = change (ack_piece (chunk_index p.frame)) (asked p) s
send_step AckDone p s = change (with_state state_received) (asked p) s
send_step Nothing p s = s

-- a reply goes "from the packet's to-address to its from-address"
abbrev pub replied : ℕ → Packet → List ℕ
replied n p = entry p.to p.from (reply_packet n p.frame)

-- "Reply: first 21 bytes", 36, 52; 0 for none
abbrev pub reply_bytes : Kind → ℕ
reply_bytes Init = init_reply
reply_bytes Chunk = chunk_reply
reply_bytes Done = done_reply
reply_bytes Read = 0
reply_bytes Aborted = 0
reply_bytes AckInit = 0
reply_bytes AckChunk = 0
reply_bytes AckDone = 0
reply_bytes Nothing = 0

abbrev pub kind_out : Kind → Packet → List ℕ
kind_out k p = cond (eqb (reply_bytes k) 0) [] (replied (reply_bytes k) p)

-- "Accepted ack init and ack chunk set the wake mark"
unfoldable pub kind_wake : Kind → ℕ
kind_wake Init = 0
kind_wake Chunk = 0
kind_wake Done = 0
kind_wake Read = 0
kind_wake Aborted = 0
kind_wake AckInit = 1
kind_wake AckChunk = 1
kind_wake AckDone = 0
kind_wake Nothing = 0

-- row 2: a packet's run buffer
abbrev pub packet_room : ℕ
packet_room = 86

-- packet 25, 1, 27, 20, 2
abbrev pub packet_front : Packet → List ℕ → List ℕ → List ℕ → Refusals
packet_front p recv send out =
    (sound role_receive recv, unsound_store)
    ∷ (sound role_send send, unsound_store)
    ∷ (is_frame p.frame, bad_frame)
    ∷ (is_enough (kind p) p.frame, short_frame)
    ∷ (is_kind (kind p), no_work)
    ∷ (leb packet_room (length out), short_output)
    ∷ []

-- .. then its kind's
unfoldable pub packet_row : Packet → List ℕ → List ℕ → List ℕ → Refusals
packet_row p recv send out = packet_front p recv send out ++ kind_row (kind p) p (decode recv) (decode send)

-- what is left of it, with the number that its row gives
abbrev pub packet_at : ℕ → Packet → List ℕ → List ℕ → List ℕ → PacketOutcome
packet_at n p recv send out =
    cond (eqb n 0)
    (record {
      answer = accepted (length (kind_out (kind p) p)) (kind_wake (kind p));
      recv = encode (recv_step (kind p) p (decode recv));
      send = encode (send_step (kind p) p (decode send));
      out = put out 0 (kind_out (kind p) p);
    })
    (record { answer = bare n; recv = recv; send = send; out = out })

-- the packet call, with its packet as one value
abbrev pub packet_answer : Packet → List ℕ → List ℕ → List ℕ → PacketOutcome
packet_answer p recv send out = packet_at (refusal (packet_row p recv send out)) p recv send out

-- packet, as the code has its parameters
abbrev pub arrival : List ℕ → List ℕ → List ℕ → List ℕ → ℕ → Packet
arrival frame from to rules known = record { frame = frame; from = from; to = to; rules = rules; known = known }

unfoldable pub packet_of : List ℕ → List ℕ → List ℕ → List ℕ → List ℕ → List ℕ → ℕ → List ℕ → PacketOutcome
packet_of recv send frame from to rules known out = packet_answer (arrival frame from to rules known) recv send out
