-- What the interface can pass: bytes are below 256, numbers below 2^64, an id has 8 bytes, an address 16. The calls ask nothing of their
-- arguments; these facts hold of every argument that a byte slice or a number of the interface can carry.
use Rattle.std.specs.Prelude.{ℕ, ◌<◌, ◌≡◌, List, length}
use Rattle.octets.specs.Octets.{Bytes}
use Rattle.machine.specs.Layout.{id_width, address_width, number_limit}
use Rattle.machine.specs.Packet.{Packet}
use Rattle.machine.specs.Push.{Push}

-- exactly n bytes
abbrev pub Exactly : ℕ → List ℕ → Type 0
Exactly n l = (length l ≡ n) × Bytes l

-- of a packet
pub record TypedPacket (p : Packet) : Type 0 where
  pub frame : Bytes p.frame
  pub from : Exactly address_width p.from
  pub to : Exactly address_width p.to

-- of a push
pub record TypedPush (p : Push) : Type 0 where
  pub id : Exactly id_width p.id
  pub from : Exactly address_width p.from
  pub to : Exactly address_width p.to
  pub topic : Bytes p.topic
  pub bytes : Bytes p.bytes

-- of a wake's clock
abbrev pub TypedClock : ℕ → Type 0
TypedClock clock = clock < number_limit
