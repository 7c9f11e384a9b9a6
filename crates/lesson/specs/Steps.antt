-- What the contracts of the steps speak of: the room that the code's stores, queue and letters make, and how much the queue can grow.
use Rattle.std.specs.Prelude.{ℕ, ◌+◌, ◌*◌, ◌/◌, ◌≤◌, ◌≡◌, cond, List, [], ◌∷◌, length, drop}
use Rattle.octets.specs.Octets.{put}
use Rattle.packet.specs.Frame.{has, ack_flag, flags_of}
use Rattle.machine.specs.Outcomes.{PacketOutcome}
use Rattle.machine.specs.Wake.{send_wake_room}
use Rattle.link.specs.Entries.{entries_of, frame_of}
use Rattle.link.specs.Link.{through}
use Rattle.link.specs.Stored.{stored, Waits}
use Rattle.lesson.specs.declared.room.Nodes.{Nodes}
use Rattle.lesson.specs.declared.room.Room.{Room as HeldRoom}
use Rattle.lesson.specs.Room.{Node, Room, reply_of}

abbrev pub node_of : List ℕ → List ℕ → Node
node_of recv send = record { recv = recv; send = send }

-- four stores, the queue and the letters to come
abbrev pub room_of : List ℕ → List ℕ → List ℕ → List ℕ → List (List ℕ) → List ℕ → Room
room_of tr ts or os queue letters =
    record {
      tablet = node_of tr ts;
      office = node_of or os;
      link = record { queue = queue; letters = letters };
    }

-- .. the same of the nodes' stores
abbrev pub room_with : Nodes → List (List ℕ) → List ℕ → Room
room_with n = room_of n.tablet.recv n.tablet.send n.office.recv n.office.send

-- .. and of the room while no packet waits
abbrev pub at_rest : HeldRoom → Room
at_rest r = room_with r.nodes [] r.letters.now

-- how many packets may get a reply: those that are no acknowledgement
abbrev pub asks : List ℕ → ℕ
asks e = cond (has (flags_of (frame_of e)) ack_flag) 0 1

unfoldable pub asking : List (List ℕ) → ℕ
asking [] = 0
asking (e ∷ q) = asks e + asking q

-- a reply takes 88 bytes of the buffer, and may be kept twice
abbrev pub replies_room : ℕ
replies_room = 176

-- the most packets of a run, each of 34 bytes at least; and the most bytes that the queue takes in a round: each packet of a run twice, behind
-- its size, and the replies to both
abbrev pub most_packets : ℕ
most_packets = send_wake_room / 34 + 1

abbrev pub queue_room : ℕ
queue_room = 2 * (send_wake_room + 2 * most_packets) + 2 * replies_room * most_packets

-- a packet has come to a node, with the outcome o: its stores are x and y, the reply stands behind the queue's tail, and the letters to come are
-- the rest of l
pub record Handed (o : PacketOutcome) (x y b c l : List ℕ) (tail end : ℕ) (rest : List ℕ) : Type 0 where
  pub recv : x ≡ o.recv
  pub send : y ≡ o.send
  pub queue : c ≡ put b tail (stored (through (entries_of (reply_of o)) l))
  pub ends : end ≡ tail + length (stored (through (entries_of (reply_of o)) l))
  pub letters : rest ≡ drop (length (entries_of (reply_of o))) l

-- a queue with a first packet stands in the buffer, with room for all replies
pub record Ready (b : List ℕ) (head tail : ℕ) (e : List ℕ) (q : List (List ℕ)) : Type 0 where
  pub waits : Waits b head tail (e ∷ q)
  pub room : tail + replies_room * asking (e ∷ q) ≤ length b

pub record SomeReady (b : List ℕ) (head tail : ℕ) : Type 0 where
  pub first : List ℕ
  pub rest : List (List ℕ)
  pub ready : Ready b head tail first rest

-- what a delivery leaves: the room after it, its queue in the buffer, and no less room for replies
pub record Delivered (after : Room) (stores : List (List ℕ) → List ℕ → Room) (b : List ℕ) (head tail : ℕ) (letters : List ℕ) : Type 0 where
  pub room : stores after.link.queue letters ≡ after
  pub waits : Waits b head tail after.link.queue
  pub fits : tail + replies_room * asking after.link.queue ≤ length b
