-- Every starred value is as it should be, by computation.
use Rattle.std.specs.Prelude.{◌≡◌, refl}
use Rattle.octets.specs.Octets.{part, be, num, same}
use Rattle.octets.specs.Lists.{All}
use Rattle.octets.specs.ListsLaws.{◌&◌}
use Rattle.packet.specs.Frame.{kind_of}
use Rattle.packet.specs.Outgoing.{header, chunk_packet, done_packet}
use Rattle.machine.specs.Values.{same_key, equal_in_five}
use Rattle.machine.specs.Counting.{rise}
use Rattle.machine.specs.Sources.{cells_from}
use Rattle.machine.specs.Sound.{sizes}
use Rattle.machine.specs.Find.{find, swap, without}
use Rattle.machine.specs.Refusals.{refusal}
use Rattle.machine.specs.Pieces.{put_piece}
use Rattle.machine.specs.Receive.{init_at, chunk_at}
use Rattle.machine.specs.Packet.{kind_row, recv_step, too_short}
use Rattle.machine.specs.Samples.{id, topic, init, another, chunk, address, hear, opened}
use Rattle.machine.specs.Starred.{Value, starred}

pub starred-hold : All (λ (v : Value). v.gives ≡ v.should) starred
unfolding starred id topic init another chunk address hear opened part be num same header chunk_packet done_packet kind_of same_key equal_in_five rise sizes find
    swap without refusal put_piece init_at chunk_at kind_row recv_step too_short cells_from
starred-hold =
    refl & refl & refl & refl & refl & refl & refl & refl & refl & refl & refl & refl & refl & refl & refl & refl
    & refl & refl & refl & refl & refl & refl & refl & refl & refl & refl & refl & refl & refl & refl & refl & refl
    & refl & refl & refl & refl & refl & refl & tt
