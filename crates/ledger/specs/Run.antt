-- Lists of calls on the two stores: what each call answers, and what it leaves for the next. `Call` has every call that takes a store, with its
-- arguments; the stores themselves are as the last call left them.
use Rattle.std.specs.Prelude.{ℕ, cond, List, [], ◌∷◌, eqb}
use Rattle.machine.specs.Codes.{role_receive, role_send}
use Rattle.machine.specs.Layout.{encode}
use Rattle.machine.specs.Sound.{fresh}
use Rattle.machine.specs.Typed.{TypedPacket, TypedPush, TypedClock}
use Rattle.machine.specs.Setup.{setup_of}
use Rattle.machine.specs.Packet.{Packet, packet_answer}
use Rattle.machine.specs.Push.{Push, push_answer}
use Rattle.machine.specs.Wake.{Wake, wake_answer}
use Rattle.machine.specs.Report.{report_of}
use Rattle.machine.specs.Take.{take_of}

-- the store to receive and the store to send
pub data Which : Type 0 where
  receive send : Which

pub record Stores : Type 0 where
  pub recv : List ℕ
  pub send : List ℕ

-- setup is lent a buffer: the store as it stands, or another that takes its place
pub data Call : Type 0 where
  setup : (which : Which) (store : List ℕ) (role : ℕ) → Call
  packet : (p : Packet) (out : List ℕ) → Call
  push : (p : Push) (out : List ℕ) → Call
  wake : (w : Wake) (out : List ℕ) → Call
  report : (id out : List ℕ) → Call
  take_whole : (taken out : List ℕ) → Call

-- the number that a call answers
unfoldable pub answer : Call → Stores → ℕ
answer (setup which store role) s = (setup_of store role).answer.number
answer (packet p out) s = (packet_answer p s.recv s.send out).answer.number
answer (push p out) s = (push_answer p s.send out).answer.number
answer (wake w out) s = (wake_answer w s.send out).answer.number
answer (report id out) s = (report_of s.send id out).answer.number
answer (take_whole taken out) s = (take_of s.recv taken out).answer.number

-- the stores that it leaves; a buffer that setup refuses takes no store's place
unfoldable pub after : Call → Stores → Stores
after (setup receive store role) s = record { recv = cond (eqb (setup_of store role).answer.number 0) (setup_of store role).store s.recv; send = s.send }
after (setup send store role) s = record { recv = s.recv; send = cond (eqb (setup_of store role).answer.number 0) (setup_of store role).store s.send }
after (packet p out) s = record { recv = (packet_answer p s.recv s.send out).recv; send = (packet_answer p s.recv s.send out).send }
after (push p out) s = record { recv = s.recv; send = (push_answer p s.send out).send }
after (wake w out) s = record { recv = s.recv; send = (wake_answer w s.send out).send }
after (report id out) s = s
after (take_whole taken out) s = record { recv = (take_of s.recv taken out).recv; send = s.send }

-- the stores that a list of calls leaves
unfoldable pub left : List Call → Stores → Stores
left [] s = s
left (c ∷ l) s = left l (after c s)

-- the calls with their answers: all that the ledger is fed
unfoldable pub answered : List Call → Stores → List (Call × ℕ)
answered [] s = []
answered (c ∷ l) s = (c, answer c s) ∷ answered l (after c s)

-- two fresh stores of c and d cells, each in its role
abbrev pub fresh_stores : ℕ → ℕ → Stores
fresh_stores c d = record { recv = encode (fresh role_receive c); send = encode (fresh role_send d) }

-- ---- what the interface can pass

abbrev pub Typed : Call → Type 0
Typed (setup which store role) = Unit {0}
Typed (packet p out) = TypedPacket p
Typed (push p out) = TypedPush p
Typed (wake w out) = TypedClock w.clock
Typed (report id out) = Unit {0}
Typed (take_whole taken out) = Unit {0}
