-- The mixed run of WorkedLaws: its steps, and where it ends. The two theorems stand here and not in specs/, because one rests on
-- the other: a wrong definition is then refused for the first, and is not taken for a text that cannot be read. Assumes nothing.
use Rattle.std.specs.Prelude.{◌≡◌, refl}
use Rattle.octets.specs.Octets.{part, be, num, same}
use Rattle.blake3.specs.Words.{add, rotr}
use Rattle.blake3.specs.Rounds.{half, mix, step, round, rounds}
use Rattle.blake3.specs.Compression.{start, compress, chaining, root_block}
use Rattle.blake3.specs.Tree.{word_at, block_at, flags_at, before, last_node, chunk_node, parent_node, level, node}
use Rattle.blake3.specs.Tree.{bytes, output_blocks, output, sum_by, plain, blake3}
use Rattle.packet.specs.Frame.{kind_of}
use Rattle.packet.specs.Outgoing.{header, chunk_packet, done_packet}
use Rattle.machine.specs.Values.{same_key, equal_in_five}
use Rattle.machine.specs.Counting.{rise}
use Rattle.machine.specs.Sources.{cells_from}
use Rattle.machine.specs.Sound.{sizes}
use Rattle.machine.specs.Find.{find, swap, without}
use Rattle.machine.specs.Refusals.{refusal}
use Rattle.machine.specs.Pieces.{put_piece, joined}
use Rattle.machine.specs.Receive.{init_at, chunk_at, done_at, drop_at}
use Rattle.machine.specs.Packet.{kind_row, recv_step, too_short}
use Rattle.machine.specs.Samples.{id, topic, init, another, chunk, address, hear, opened}
use Rattle.machine.specs.WorkedLaws.{old, new, one, mixed, m2, m4, m6, m8, m9, done, survey_of, arriving, finished}

-- the older survey; the new one under the same id, whose done finds no piece (14); a late piece of the older, with which the done finds another
-- sum (16); the new piece and the done; the done repeated (8)
mixed-steps : (hear (chunk 0 0 old) (hear (init 3) opened) ≡ m2) × (hear (done 1 new) (hear (another 3) m2) ≡ m4)
    × (hear (done 1 new) (hear (chunk 0 0 old) m4) ≡ m6) × (hear (done 1 new) (hear (chunk 0 0 new) m6) ≡ m8) × (hear (done 1 new) m8 ≡ m9)
unfolding old new one m2 m4 m6 m8 m9 id topic init another chunk done address hear opened survey_of arriving finished part be num same add rotr half mix
    step round rounds start compress chaining root_block word_at block_at flags_at before last_node chunk_node parent_node level
    node bytes output_blocks output sum_by plain blake3 kind_of header chunk_packet done_packet same_key equal_in_five rise sizes find swap without
    refusal put_piece joined init_at chunk_at done_at drop_at
    kind_row recv_step too_short cells_from
mixed-steps = (refl, refl, refl, refl, refl)

-- the new survey is whole, as it was sent; nothing of the older is left
pub mixed-ends : mixed opened ≡ m9
unfolding mixed
mixed-ends = rw (mixed-steps.0, mixed-steps.1, mixed-steps.2, mixed-steps.3, mixed-steps.4)
