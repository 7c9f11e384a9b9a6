-- Worked runs by computation: an office of two cells hears frames, answers each by its kind's refusals, or makes its step.
--   mixed: another survey of 3 bytes starts under the id of the first, and a late piece of the older one arrives before the done. The done of the new
--   survey is refused (14: gap, then 16: sum) until the new piece has come.
--   lossy: a survey of 260 bytes in two pieces; packets are repeated and come out of order, one with a wrong offset. It becomes whole all the same.
--   late: after a piece that made the slots grow, the init comes again and changes nothing; the init of another survey starts afresh.
use Rattle.std.specs.Prelude.{ℕ, ◌≡◌, refl, true, List, [], ◌∷◌, ◌++◌, replicate}
use Rattle.octets.specs.Octets.{part, be, num, same}
use Rattle.octets.specs.CompareLaws.{same_refl}
use Rattle.blake3.specs.Words.{add, rotr}
use Rattle.blake3.specs.Rounds.{half, mix, step, round, rounds}
use Rattle.blake3.specs.Compression.{start, compress, chaining, root_block}
use Rattle.blake3.specs.Tree.{word_at, block_at, flags_at, before, last_node, chunk_node, parent_node, level, node}
use Rattle.blake3.specs.Tree.{bytes, output_blocks, output, sum_by, plain, blake3}
use Rattle.packet.specs.Frame.{kind_of}
use Rattle.packet.specs.Outgoing.{header, chunk_packet, done_packet}
use Rattle.machine.specs.Codes.{role_receive}
use Rattle.machine.specs.Values.{Cell, Rec, idle, same_key, equal_in_five}
use Rattle.machine.specs.Counting.{rise}
use Rattle.machine.specs.Sources.{cells_from}
use Rattle.machine.specs.Sound.{sizes}
use Rattle.machine.specs.Find.{find, swap, without}
use Rattle.machine.specs.Refusals.{refusal}
use Rattle.machine.specs.Pieces.{new_cell, put_piece, joined}
use Rattle.machine.specs.Receive.{found, init_at, chunk_at, done_at, done_step, drop_at, take_from, take_step}
use Rattle.machine.specs.Packet.{done_row, kind_row, recv_step, too_short}
use Rattle.machine.specs.Samples.{id, topic, init, another, chunk, address, Seen, hear, opened}

-- ---- a done, and stores

-- the done of some bytes, with their sum
unfoldable pub done : ℕ → List ℕ → List ℕ
done count bytes = done_packet id count (blake3 bytes)

-- the record of a survey of n bytes about a topic, with slots and pieces
unfoldable pub survey_of : List ℕ → ℕ → ℕ → List Cell → Rec
survey_of about n slots cells = record {
  place = 1;
  slots = slots;
  sending = idle;
  cells = cells;
  label = record { id = id; source = address; destination = address; reply = 1; total = n; topic = about };
}

-- .. without a topic
unfoldable pub survey : ℕ → ℕ → List Cell → Rec
survey n slots cells = survey_of [] n slots cells

-- it arrives, with some cells free
unfoldable pub arriving : List ℕ → Rec → List ℕ → Seen
arriving numbers r free = record {
  numbers = numbers;
  recv = record { setup = record { cells = 2; role = role_receive }; free = rise 2 7; held = r ∷ []; whole = []; free_cells = free };
}

-- it is whole, and nothing is held
unfoldable pub finished : List ℕ → Rec → List ℕ → Seen
finished numbers r free = record {
  numbers = numbers;
  recv = record { setup = record { cells = 2; role = role_receive }; free = rise 2 7; held = []; whole = r ∷ []; free_cells = free };
}

-- ---- mixed

unfoldable pub old : List ℕ
old = 7 ∷ 8 ∷ 9 ∷ []

unfoldable pub new : List ℕ
new = 1 ∷ 2 ∷ 3 ∷ []

-- the record with its one piece, about a topic
unfoldable pub one : List ℕ → List ℕ → Rec
one about bytes = survey_of about 3 1 (new_cell 1 0 bytes ∷ [])

-- the packets of the run, the first innermost
unfoldable pub mixed : Seen → Seen
mixed s =
    hear (done 1 new) (hear (done 1 new) (hear (chunk 0 0 new) (hear (done 1 new) (hear (chunk 0 0 old) (hear (done 1 new)
    (hear (another 3) (hear (chunk 0 0 old) (hear (init 3) s))))))))

-- after two packets, and so on
unfoldable pub m2 : Seen
m2 = arriving (0 ∷ 0 ∷ []) (one [] old) (2 ∷ [])

unfoldable pub m4 : Seen
m4 = arriving (14 ∷ 0 ∷ 0 ∷ 0 ∷ []) (survey_of topic 3 1 []) (1 ∷ 2 ∷ [])

unfoldable pub m6 : Seen
m6 = arriving (16 ∷ 0 ∷ 14 ∷ 0 ∷ 0 ∷ 0 ∷ []) (one topic old) (2 ∷ [])

unfoldable pub m8 : Seen
m8 = finished (0 ∷ 0 ∷ 16 ∷ 0 ∷ 14 ∷ 0 ∷ 0 ∷ 0 ∷ []) (one topic new) (2 ∷ [])

unfoldable pub m9 : Seen
m9 = finished (8 ∷ 0 ∷ 0 ∷ 16 ∷ 0 ∷ 14 ∷ 0 ∷ 0 ∷ 0 ∷ []) (one topic new) (2 ∷ [])

-- ---- lossy

unfoldable pub piece0 : List ℕ
piece0 = replicate 250 3

unfoldable pub piece1 : List ℕ
piece1 = replicate 10 4

unfoldable pub l2 : Seen
l2 = arriving (0 ∷ 0 ∷ []) (survey 260 1 []) (1 ∷ 2 ∷ [])

unfoldable pub l4 : Seen
l4 = arriving (0 ∷ 0 ∷ 0 ∷ 0 ∷ []) (survey 260 2 (new_cell 1 1 piece1 ∷ [])) (2 ∷ [])

unfoldable pub l6 : Seen
l6 = arriving (14 ∷ 13 ∷ 0 ∷ 0 ∷ 0 ∷ 0 ∷ []) (survey 260 2 (new_cell 1 1 piece1 ∷ [])) (2 ∷ [])

unfoldable pub l8 : Seen
l8 = arriving (0 ∷ 0 ∷ 14 ∷ 13 ∷ 0 ∷ 0 ∷ 0 ∷ 0 ∷ []) (survey 260 2 (new_cell 2 0 piece0 ∷ new_cell 1 1 piece1 ∷ [])) []

-- the init twice; piece 1 twice, with offset 0; a done with a count of 1 (13) and one of 2 (14: a gap); piece 0 twice
pub lossy-steps : (hear (init 260) (hear (init 260) opened) ≡ l2) × (hear (chunk 1 0 piece1) (hear (chunk 1 0 piece1) l2) ≡ l4)
    × (hear (done 2 (piece0 ++ piece1)) (hear (done 1 (piece0 ++ piece1)) l4) ≡ l6) × (hear (chunk 0 0 piece0) (hear (chunk 0 0 piece0) l6) ≡ l8)
unfolding piece0 piece1 l2 l4 l6 l8 id init chunk done address hear opened survey survey_of arriving finished part be num same add rotr half mix
    step round rounds start compress chaining root_block word_at block_at flags_at before last_node chunk_node parent_node level
    node bytes output_blocks output sum_by plain blake3 kind_of header chunk_packet done_packet same_key equal_in_five rise sizes find swap without refusal put_piece joined init_at chunk_at done_at
    drop_at kind_row recv_step too_short cells_from
lossy-steps = (refl, refl, refl, refl)

-- the done of both pieces is not refused, whatever their sum is
pub lossy-done : refusal (done_row 2 (blake3 (piece0 ++ piece1)) true (found id l8.recv.held)) ≡ 0
unfolding piece0 piece1 id l8 arriving survey survey_of same_key same find refusal sizes joined
lossy-done = rw (same_refl (blake3 (replicate 250 3 ++ replicate 10 4)))

-- the survey is whole, and take hands it out and frees its record and cells
pub lossy-whole : done_step id l8.recv ≡ (finished [] (survey 260 2 (new_cell 2 0 piece0 ∷ new_cell 1 1 piece1 ∷ [])) []).recv
unfolding piece0 piece1 id l8 arriving finished survey survey_of same_key same find without done_at
lossy-whole = refl

pub lossy-take : take_step (done_step id l8.recv) ≡ record {
  setup = record { cells = 2; role = role_receive };
  free = rise 1 8;
  held = [];
  whole = [];
  free_cells = 2 ∷ 1 ∷ [];
}
unfolding piece0 piece1 id l8 arriving survey survey_of same_key same find without done_at take_from rise
lossy-take = refl

-- ---- late

-- piece 1 has come and the slots grew to 2: its init again changes nothing, another's starts with no pieces
pub late-steps : (hear (init 260) l4 ≡ record { numbers = 0 ∷ l4.numbers; recv = l4.recv })
    × (hear (another 260) l4 ≡ arriving (0 ∷ l4.numbers) (survey_of topic 260 1 []) (1 ∷ 2 ∷ []))
unfolding piece1 l4 id topic init another address hear survey survey_of arriving part be num same kind_of header same_key equal_in_five rise sizes
    find swap without refusal init_at kind_row recv_step
late-steps = (refl, refl)
