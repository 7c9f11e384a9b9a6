-- The packet call by its row: the front's tests, then its kind's. Assumes nothing.
use Rattle.std.specs.Prelude.{ℕ, ◌≡◌, refl, List, ◌++◌}
use Rattle.std.proofs.lemmas.Grind.{common_steps}
use Rattle.machine.specs.Layout.{decode}
use Rattle.machine.specs.Refusals.{refusal}
use Rattle.machine.specs.Packet.{kind, kind_row, packet_front, packet_row, packet_at, packet_of, arrival}

pub packet_is : (recv send frame from to rules : List ℕ) (known : ℕ) (out : List ℕ) → let p = arrival frame from to rules known in
    packet_of recv send frame from to rules known out
    ≡ packet_at (refusal (packet_front p recv send out ++ kind_row (kind p) p (decode recv) (decode send))) p recv send out
unfolding packet_of packet_row
packet_is recv send frame from to rules known out = refl

-- by what the ways out of the call are found
pub ruleset packets = (packet_is, common_steps)
