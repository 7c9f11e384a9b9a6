-- One tablet and one office, joined by the scripted link: packets are delivered until none waits. What a node does with a packet is the
-- library's packet call, and nothing else here knows the protocol.
use Rattle.std.specs.Prelude.{ℕ, zero, suc, ◌*◌, cond, List, [], ◌∷◌, length, take, replicate}
use Rattle.octets.specs.Octets.{same}
use Rattle.machine.specs.Outcomes.{PacketOutcome}
use Rattle.machine.specs.Packet.{packet_room, packet_of}
use Rattle.link.specs.Entries.{from_of, to_of, frame_of}
use Rattle.link.specs.Link.{Link, put_out}

-- a node's two stores
pub record Node : Type 0 where
  pub recv : List ℕ
  pub send : List ℕ

pub record Room : Type 0 where
  pub tablet : Node
  pub office : Node
  pub link : Link

-- their addresses
abbrev pub tablet_address : List ℕ
tablet_address = 4 ∷ 0 ∷ 0 ∷ 0 ∷ 0 ∷ 0 ∷ 0 ∷ 0 ∷ 0 ∷ 0 ∷ 0 ∷ 0 ∷ 0 ∷ 0 ∷ 0 ∷ 1 ∷ []

abbrev pub office_address : List ℕ
office_address = 4 ∷ 0 ∷ 0 ∷ 0 ∷ 0 ∷ 0 ∷ 0 ∷ 0 ∷ 0 ∷ 0 ∷ 0 ∷ 0 ∷ 0 ∷ 0 ∷ 0 ∷ 2 ∷ []

-- "topic .. open": a rule book that accepts every topic
abbrev pub open_rules : List ℕ
open_rules = 0 ∷ []

-- "source key known"
abbrev pub known_key : ℕ
known_key = 1

-- the packet of an entry comes to a node
unfoldable pub arrived : Node → List ℕ → PacketOutcome
arrived n e = packet_of n.recv n.send (frame_of e) (from_of e) (to_of e) open_rules known_key (replicate packet_room 0)

-- what the node is then, and the run that it puts out: a refused packet's is empty
abbrev pub node_after : PacketOutcome → Node
node_after o = record { recv = o.recv; send = o.send }

abbrev pub reply_of : PacketOutcome → List ℕ
reply_of o = take o.answer.run o.out

abbrev pub at_tablet : PacketOutcome → Link → Room → Room
at_tablet o l s = record { tablet = node_after o; office = s.office; link = put_out (reply_of o) l }

abbrev pub at_office : PacketOutcome → Link → Room → Room
at_office o l s = record { tablet = s.tablet; office = node_after o; link = put_out (reply_of o) l }

-- the link behind its first packet
abbrev pub waiting : List (List ℕ) → Room → Link
waiting q s = record { queue = q; letters = s.link.letters }

-- the first packet of the queue is delivered to whom it is addressed
unfoldable pub deliver_first : List (List ℕ) → Room → Room
deliver_first [] s = s
deliver_first (e ∷ q) s =
    cond (same (to_of e) office_address) (at_office (arrived s.office e) (waiting q s) s) (at_tablet (arrived s.tablet e) (waiting q s) s)

abbrev pub deliver : Room → Room
deliver s = deliver_first s.link.queue s

-- n deliveries; none where the queue is empty
unfoldable pub deliveries : ℕ → Room → Room
deliveries zero s = s
deliveries (suc n) s = deliveries n (deliver s)

-- "replies are delivered within the round": of each packet that waits there are three deliveries at most, its own and two of its reply, so that
-- none waits then (SettledLaws)
unfoldable pub settled : Room → Room
settled s = deliveries (3 * length s.link.queue) s
