-- The init of a push, and its flag as the label and as the packet has it. Assumes nothing.
use Rattle.std.specs.Prelude.{ℕ, ◌+◌, ◌≡◌, refl, Bool, length, List, eqb}
use Rattle.std.proofs.Common.{arith}
use Rattle.octets.specs.Octets.{capacity}
use Rattle.octets.specs.Bools.{one}
use Rattle.octets.specs.BoolsLaws.{cases}
use Rattle.packet.specs.declared.label.Label as carried
use Rattle.packet.specs.Named.{Named}
use Rattle.packet.specs.Outgoing.{init_packet}
use Rattle.packet.specs.LengthsLaws.{length-entry, length-init}
use Rattle.machine.specs.Codes.{yes}
use Rattle.machine.specs.Layout.{number_limit}
use Rattle.machine.specs.Send.{init_out}
use Rattle.records.specs.Opening.{new_label}

pub flag_label : (x : Bool) → yes (one x) ≡ x
flag_label x = cases x (λ e. rw e) (λ e. rw e)

pub flag_packet : (x : Bool) → eqb (one x) 1 ≡ x
flag_packet x = cases x (λ e. rw e) (λ e. rw e)

pub init_long : (l : carried.Label) (topic : List ℕ) → Named l → length (init_out (new_label l topic)) ≡ 55 + length topic
init_long l topic n =
    let packet : List ℕ = init_packet l.id (eqb (one l.reply) 1) l.total topic in
    omega (arith, length-entry l.source l.destination packet n.source.0 n.destination.0, length-init l.id topic (eqb (one l.reply) 1) l.total n.id.0)

-- times below it fit
pub latest : number_limit ≡ 18446744073709551616
unfolding capacity
latest = refl

pub ruleset pushing = (flag_label, flag_packet, init_long, latest)
