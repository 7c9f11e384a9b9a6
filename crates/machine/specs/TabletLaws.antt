-- A worked run of the tablet by computation, call by call: what is answered, what is put out, what the store becomes, and what a report says.
--   A survey of 1,550 bytes is pushed, its init acknowledged; a wake sends both pieces; one is acknowledged, and a wake at 1,100 ms sends the other again;
--   when both are acknowledged the wake sends the done; the done is acknowledged and the survey read. Sums stay as they are: they are not computed.
--   In another run the deadline passes twice; in a third the tablet waits for opening hours. Last, which eight of thirteen pieces go, and in which order.
use Rattle.std.specs.Prelude.{ℕ, ◌+◌, ◌≡◌, refl, false, cond, List, [], ◌∷◌, ◌++◌, map, length, replicate, eqb}
use Rattle.std.proofs.Math.Option.{some}
use Rattle.octets.specs.Octets.{part, be, num, capacity, same}
use Rattle.blake3.specs.Tree.{blake3}
use Rattle.packet.specs.Frame.{init_flag, chunk_flag, done_flag, read_flag, ack_flag, kind_of}
use Rattle.packet.specs.Outgoing.{entry, header, init_packet, chunk_packet, done_packet, aborted_packet}
use Rattle.calendar.specs.Days.{times, counted}
use Rattle.calendar.specs.Calendar.{every, well_formed, is_open}
use Rattle.machine.specs.Codes.{role_receive, role_send, state_init, state_in_progress, state_received, state_read, state_aborted, piece_started}
use Rattle.machine.specs.Codes.{piece_sent, piece_acked, wrong_state, no_such_piece, unknown_id, short_output, no_work, bad_calendar}
use Rattle.machine.specs.Values.{Cell, Rec, Store, same_key}
use Rattle.machine.specs.Counting.{rise}
use Rattle.machine.specs.Sound.{fresh}
use Rattle.machine.specs.Find.{find, swap, without}
use Rattle.machine.specs.Refusals.{refusal}
use Rattle.machine.specs.Pieces.{cut_pieces, joined}
use Rattle.machine.specs.Receive.{found, drop_at}
use Rattle.machine.specs.Choice.{only, insert, by_stamp, waiting, chosen}
use Rattle.machine.specs.Send.{stamped, timed_out, change_at, push_step, init_out, sent_pieces, chunks_out, wake_out, woken, deadline_out, deadline_at}
use Rattle.machine.specs.Packet.{Packet, kind, kind_row, send_step, kind_wake}
use Rattle.machine.specs.Push.{Push, push_label, push_room, push_tests}
use Rattle.machine.specs.Wake.{Wake, send_wake, deadline_wake, waking, wake_room, wake_tests, wake_run, wake_pieces, wake_step}
use Rattle.machine.specs.Report.{reported}
use Rattle.machine.specs.Samples.{id, address, from}

-- ---- calendars

-- windows from Monday on, then UTC and no closed date
unfoldable pub hours : List ℕ → List ℕ
hours windows = windows ++ be 2 720 ++ (0 ∷ [])

-- a window, and a day without one
abbrev pub window : ℕ → ℕ → List ℕ
window opens closes = be 2 opens ++ be 2 closes

abbrev pub shut : List ℕ
shut = window 0 0

abbrev pub all_day : List ℕ
all_day = window 0 1440

-- open all the time
unfoldable pub always : List ℕ
always = hours (all_day ++ all_day ++ all_day ++ all_day ++ all_day ++ all_day ++ all_day)

-- open on Thursdays from 10 to 11
unfoldable pub thursdays : List ℕ
thursdays = hours (shut ++ shut ++ shut ++ window 600 660 ++ shut ++ shut ++ shut)

-- ---- what it hears and does

-- acknowledgements of an init, a chunk and a done, and a read
unfoldable pub ack_init : List ℕ
ack_init = header id (init_flag + ack_flag)

unfoldable pub ack_chunk : ℕ → List ℕ
ack_chunk index = header id (chunk_flag + ack_flag) ++ be 8 index ++ replicate 16 0

unfoldable pub ack_done : List ℕ
ack_done = header id (done_flag + ack_flag)

unfoldable pub read : List ℕ
read = header id read_flag

-- what a call answers (number, wake mark and piece packets), what it puts out, and the send store that it leaves
pub record Told : Type 0 where
  pub number : ℕ
  pub wake : ℕ
  pub pieces : ℕ
  pub out : List ℕ
  pub send : Store

-- by the number n of its row: mark, piece packets, run and store where it is 0
abbrev pub told : ℕ → ℕ → ℕ → List ℕ → Store → Store → Told
told n wake pieces out new old =
    cond (eqb n 0)
    (record { number = 0; wake = wake; pieces = pieces; out = out; send = new })
    (record { number = n; wake = 0; pieces = 0; out = []; send = old })

unfoldable pub pushes : Push → Store → Told
pushes p s =
    told (refusal (push_tests p s push_room)) 0 0 (init_out (push_label p)) (push_step (push_label p) p.created (p.created + p.try) p.bytes s) s

unfoldable pub hears : List ℕ → Store → Told
hears f s =
    let p : Packet = from f in
    told (refusal (kind_row (kind p) p (fresh role_receive 1) s)) (kind_wake (kind p)) 0 [] (send_step (kind p) p s) s

-- a wake with room for a run, a calendar and a time
unfoldable pub wakes-with : ℕ → List ℕ → ℕ → ℕ → ℕ → Store → Told
wakes-with room calendar unix kind clock s =
    let w : Wake = waking kind id clock calendar unix in
    let r = found id s.held in
    told (refusal (wake_tests w s room)) 0 (length (wake_pieces w r)) (wake_run w r) (wake_step w s) s

-- .. with room enough
unfoldable pub wakes-at : List ℕ → ℕ → ℕ → ℕ → Store → Told
wakes-at calendar unix kind clock s = wakes-with (wake_room kind) calendar unix kind clock s

-- .. and always within hours
unfoldable pub wakes : ℕ → ℕ → Store → Told
wakes kind clock s = wakes-at always 0 kind clock s

unfoldable pub reports : Store → List ℕ
reports s = reported (found id s.held)

-- ---- the survey

unfoldable pub office : List ℕ
office = replicate 16 9

unfoldable pub topic : List ℕ
topic = 100 ∷ 117 ∷ []

unfoldable pub piece0 : List ℕ
piece0 = replicate 1300 3

unfoldable pub piece1 : List ℕ
piece1 = replicate 250 4

-- created after 5,999 ms, to be tried for 2,001 ms: second 5 to second 8
unfoldable pub survey : Push
survey = record { id = id; reply = 0; from = address; to = office; topic = topic; bytes = piece0 ++ piece1; created = 5999; try = 2001 }

-- ---- its store of three cells

-- a piece in its cell, with stamp and state
abbrev cell : ℕ → List ℕ → ℕ → ℕ → Cell
cell index bytes stamp state = record { place = 1 + index; index = index; bytes = bytes; stamp = stamp; state = state }

-- the survey in a state, timed out or not, with its two pieces
abbrev holding : ℕ → ℕ → Cell → Cell → Store
holding state late a b = record {
  setup = record { cells = 3; role = role_send };
  free = rise 2 7;
  held = record {
    place = 1;
    label = record { id = id; source = address; destination = office; reply = 0; total = 1550; topic = topic };
    slots = 2;
    sending = record { state = state; timed_out = late; created = 5999; end = 8000 };
    cells = a ∷ b ∷ [];
  } ∷ [];
  whole = [];
  free_cells = 3 ∷ [];
}

-- a call that is done
abbrev answers : ℕ → ℕ → List ℕ → Store → Told
answers wake pieces out s = record { number = 0; wake = wake; pieces = pieces; out = out; send = s }

-- a call that is refused
abbrev refuses : ℕ → Store → Told
refuses n s = record { number = n; wake = 0; pieces = 0; out = []; send = s }

abbrev sends : List ℕ → List ℕ
sends packet = entry address office packet

-- what a report says in a state, with counts of Started, Sent and Acked
abbrev says : ℕ → ℕ → ℕ → ℕ → List ℕ
says state started sent acked = office ++ (state ∷ started ∷ sent ∷ acked ∷ []) ++ be 8 5 ++ be 8 8 ++ be 8 1550

-- the store after the push, after the first wake, after the second, and when all is acknowledged
abbrev pushed : ℕ → Store
pushed state = holding state 0 (cell 0 piece0 0 piece_started) (cell 1 piece1 0 piece_started)

abbrev sent : Store
sent = holding state_in_progress 0 (cell 0 piece0 1000 piece_sent) (cell 1 piece1 1000 piece_sent)

abbrev partly : ℕ → Store
partly stamp = holding state_in_progress 0 (cell 0 piece0 stamp piece_sent) (cell 1 piece1 0 piece_acked)

abbrev acked : ℕ → Store
acked state = holding state 0 (cell 0 piece0 0 piece_acked) (cell 1 piece1 0 piece_acked)

-- ---- the runs

-- push: the init goes out; before its acknowledgement a wake sends it again, and other acknowledgements are refused
pub tablet-starts : (pushes survey (fresh role_send 3) ≡ answers 0 0 (sends (init_packet id false 1550 topic)) (pushed state_init))
    × (wakes send_wake 900 (pushed state_init) ≡ answers 0 0 (sends (init_packet id false 1550 topic)) (pushed state_init))
    × (reports (pushed state_init) ≡ says state_init 0 0 0) × (hears (ack_chunk 0) (pushed state_init) ≡ refuses wrong_state (pushed state_init))
    × (hears ack_init (pushed state_init) ≡ answers 1 0 [] (pushed state_in_progress)) × (hears ack_init (pushed state_in_progress) ≡ refuses wrong_state (pushed state_in_progress))
unfolding office topic piece0 piece1 survey id address ack_init ack_chunk pushes hears wakes reports part be num same header kind_of same_key
    rise find swap without refusal cut_pieces change_at push_step only by_stamp sent_pieces chunks_out wake_out woken kind_row send_step kind_wake wake_run wake_pieces wake_step wakes-with
    wakes-at hours
    always well_formed is_open every counted times reported capacity
tablet-starts = (refl, refl, refl, refl, refl, refl)

-- wakes: both pieces; neither again after 99 ms; the one that is not acknowledged again after 100
pub tablet-sends : (reports (pushed state_in_progress) ≡ says state_in_progress 2 0 0)
    × (wakes send_wake 1000 (pushed state_in_progress) ≡ answers 0 2 (sends (chunk_packet id 0 0 piece0) ++ (sends (chunk_packet id 1 1300 piece1) ++ [])) sent)
    × (reports sent ≡ says state_in_progress 0 2 0) × (wakes send_wake 1099 sent ≡ answers 0 0 [] sent) × (hears (ack_chunk 2) sent ≡ refuses no_such_piece sent)
    × (hears (ack_chunk 1) sent ≡ answers 1 0 [] (partly 1000)) × (reports (partly 1000) ≡ says state_in_progress 0 1 1)
    × (wakes send_wake 1100 (partly 1000) ≡ answers 0 1 (sends (chunk_packet id 0 0 piece0) ++ []) (partly 1100))
    × (hears (ack_chunk 0) (partly 1100) ≡ answers 1 0 [] (acked state_in_progress))
unfolding office topic piece0 piece1 id address ack_chunk hears wakes reports part be num same header kind_of same_key rise find swap without
    refusal change_at only insert by_stamp sent_pieces chunks_out wake_out woken kind_row send_step kind_wake wake_run wake_pieces wake_step wakes-with wakes-at hours always well_formed is_open every
    counted times reported joined entry chunk_packet
tablet-sends = (refl, refl, refl, refl, refl, refl, refl, refl, refl)

-- the done, its acknowledgement, and the read: the state is Received when the done is acknowledged, not when it is sent
pub tablet-ends : (wakes send_wake 1200 (acked state_in_progress) ≡ answers 0 0 (sends (done_packet id 2 (blake3 (piece0 ++ (piece1 ++ []))))) (acked state_in_progress))
    × (hears read (acked state_in_progress) ≡ refuses wrong_state (acked state_in_progress)) × (hears ack_done (acked state_in_progress) ≡ answers 0 0 [] (acked state_received))
    × (wakes send_wake 1300 (acked state_received) ≡ answers 0 0 [] (acked state_received)) × (hears read (acked state_received) ≡ answers 0 0 [] (acked state_read))
    × (reports (acked state_read) ≡ says state_read 0 0 0)
unfolding office topic piece0 piece1 id address ack_done read hears wakes reports part be num same header kind_of same_key rise find swap
    without refusal change_at only insert by_stamp sent_pieces chunks_out wake_out woken kind_row send_step kind_wake wake_run wake_pieces wake_step wakes-with wakes-at hours always
    well_formed is_open
    every counted times reported joined
tablet-ends = (refl, refl, refl, refl, refl, refl)

-- the deadline: Aborted, with an aborted packet, and nothing is sent any more; then the record and its cells are free
pub tablet-aborts : (wakes deadline_wake 9000 sent ≡ answers 0 0 (sends (aborted_packet id)) (holding state_aborted 1 (cell 0 piece0 1000 piece_sent) (cell 1 piece1 1000 piece_sent)))
    × (wakes send_wake 9000 (holding state_aborted 1 (cell 0 piece0 1000 piece_sent) (cell 1 piece1 1000 piece_sent))
    ≡ answers 0 0 [] (holding state_aborted 1 (cell 0 piece0 1000 piece_sent) (cell 1 piece1 1000 piece_sent)))
    × (wakes deadline_wake 9000 (holding state_aborted 1 (cell 0 piece0 1000 piece_sent) (cell 1 piece1 1000 piece_sent)) ≡ answers 0 0 [] (fresh role_send 3))
    × (wakes deadline_wake 9000 (fresh role_send 3) ≡ refuses unknown_id (fresh role_send 3))
unfolding office topic piece0 piece1 id address hears wakes part be num same header kind_of same_key rise find swap without refusal change_at
    drop_at only by_stamp sent_pieces chunks_out wake_out woken deadline_out deadline_at wake_run wake_pieces wake_step wakes-with wakes-at hours always well_formed is_open every counted times
tablet-aborts = (refl, refl, refl, refl)

-- hours, 10 to 11 on Thursdays: before 10 and from 11 on a wake sends and stamps nothing and answers 0, and the deadline passes all the same
pub tablet-waits : (wakes-at thursdays 35999999 send_wake 1000 (pushed state_in_progress) ≡ answers 0 0 [] (pushed state_in_progress))
    × (wakes-at thursdays 36000000 send_wake 1000 (pushed state_in_progress) ≡ wakes send_wake 1000 (pushed state_in_progress))
    × (wakes-at thursdays 39599999 send_wake 1000 (pushed state_in_progress) ≡ wakes send_wake 1000 (pushed state_in_progress))
    × (wakes-at thursdays 39600000 send_wake 1000 (pushed state_in_progress) ≡ answers 0 0 [] (pushed state_in_progress))
    × (wakes-at thursdays 39600000 send_wake 1000 (pushed state_init) ≡ answers 0 0 [] (pushed state_init))
    × (wakes-at thursdays 39600000 send_wake 1000 (acked state_in_progress) ≡ answers 0 0 [] (acked state_in_progress))
    × (wakes-at thursdays 39600000 deadline_wake 9000 sent ≡ wakes deadline_wake 9000 sent)
unfolding office topic piece0 piece1 id address part be num same header kind_of same_key rise find swap without refusal change_at only insert by_stamp sent_pieces chunks_out
    wake_out woken deadline_out deadline_at wake_run wake_pieces wake_step wakes-with wakes-at wakes hours always thursdays well_formed is_open every counted times
tablet-waits = (refl, refl, refl, refl, refl, refl, refl)

-- a calendar that is none, to a send wake alone: behind the kind, before the room and the id; outside hours these two are asked all the same
pub tablet-calendars : (wakes-at [] 36000000 send_wake 1000 sent ≡ refuses bad_calendar sent) × (wakes-at [] 36000000 3 1000 sent ≡ refuses no_work sent)
    × (wakes-with 10959 [] 36000000 send_wake 1000 sent ≡ refuses bad_calendar sent)
    × (wakes-at [] 36000000 send_wake 1000 (fresh role_send 3) ≡ refuses bad_calendar (fresh role_send 3))
    × (wakes-with 10959 thursdays 0 send_wake 1000 sent ≡ refuses short_output sent)
    × (wakes-at thursdays 0 send_wake 1000 (fresh role_send 3) ≡ refuses unknown_id (fresh role_send 3))
    × (wakes-at [] 36000000 deadline_wake 9000 sent ≡ wakes deadline_wake 9000 sent)
unfolding office topic piece0 piece1 id address part be num same header kind_of same_key rise find swap without refusal change_at only insert by_stamp sent_pieces chunks_out
    wake_out woken deadline_out deadline_at wake_run wake_pieces wake_step wakes-with wakes-at wakes hours always thursdays well_formed is_open every counted times
tablet-calendars = (refl, refl, refl, refl, refl, refl, refl)

-- ---- eight of thirteen pieces

-- a piece without bytes
abbrev bare : ℕ → ℕ → ℕ → Cell
bare index stamp state = cell index [] stamp state

-- at 1,000: 1 is Acked, 5 was sent 99 ms before, 9 and 12 when the clock was ahead
unfoldable pub thirteen : List Cell
thirteen =
    bare 0 500 piece_sent ∷ bare 1 0 piece_acked ∷ bare 2 0 piece_started ∷ bare 3 300 piece_sent ∷ bare 4 300 piece_sent ∷ bare 5 901 piece_sent
    ∷ bare 6 0 piece_started ∷ bare 7 900 piece_sent ∷ bare 8 0 piece_sent ∷ bare 9 18446744073709551615 piece_sent ∷ bare 10 300 piece_sent
    ∷ bare 11 400 piece_sent ∷ bare 12 1001 piece_sent ∷ []

abbrev indices : List Cell → List ℕ
indices l = map (λ (c : Cell). c.index) l

-- Started ones by index, then due ones by oldest stamp, equal stamps by index: the first eight; at the same clock the ninth is left, then none
pub tablet-chooses : (indices (waiting 1000 thirteen) ≡ 2 ∷ 6 ∷ 8 ∷ 3 ∷ 4 ∷ 10 ∷ 11 ∷ 0 ∷ 7 ∷ []) × (indices (chosen 1000 thirteen) ≡ 2 ∷ 6 ∷ 8 ∷ 3 ∷ 4 ∷ 10 ∷ 11 ∷ 0 ∷ [])
    × (indices (chosen 1000 (map (stamped 1000 (chosen 1000 thirteen)) thirteen)) ≡ 7 ∷ [])
    × (indices (chosen 1000 (map (stamped 1000 (waiting 1000 thirteen)) thirteen)) ≡ [])
unfolding thirteen only insert by_stamp
tablet-chooses = (refl, refl, refl, refl)

-- the record that has them, in progress
unfoldable pub busy : Rec
busy = record {
  place = 1;
  label = record { id = id; source = address; destination = office; reply = 0; total = 0; topic = topic };
  slots = 13;
  sending = record { state = state_in_progress; timed_out = 0; created = 0; end = 0 };
  cells = thirteen;
}

-- the wake's number is that of the chunks in its run, of 70 bytes each here, and what it leaves is stamped alike; timed out it sends none
pub tablet-counts : let w : Wake = waking send_wake id 1000 always 0 in
    (indices (wake_pieces w (some busy)) ≡ 2 ∷ 6 ∷ 8 ∷ 3 ∷ 4 ∷ 10 ∷ 11 ∷ 0 ∷ []) × (length (wake_run w (some busy)) ≡ 560)
    × (indices (only (λ c. eqb c.stamp 1000) (woken 1000 busy).cells) ≡ 0 ∷ 2 ∷ 3 ∷ 4 ∷ 6 ∷ 8 ∷ 10 ∷ 11 ∷ [])
    × (sent_pieces 1000 (timed_out busy) ≡ []) × (wake_pieces (waking deadline_wake id 1000 always 0) (some busy) ≡ [])
unfolding thirteen busy only insert by_stamp sent_pieces chunks_out wake_out woken wake_run wake_pieces hours always well_formed is_open every counted times be
    id address office topic entry chunk_packet header num part
tablet-counts = (refl, refl, refl, refl, refl)
