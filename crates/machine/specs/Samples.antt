-- Frames of the bytes that their packets need, with addresses of 16, and an office that hears them: what the starred values and the worked runs are
-- made of.
use Rattle.std.specs.Prelude.{ℕ, ◌+◌, cond, List, [], ◌∷◌, ◌++◌, length, replicate, eqb}
use Rattle.octets.specs.Octets.{be}
use Rattle.packet.specs.Frame.{init_flag, reply_flag}
use Rattle.packet.specs.Outgoing.{header, chunk_packet}
use Rattle.machine.specs.Codes.{role_receive, role_send}
use Rattle.machine.specs.Values.{Store}
use Rattle.machine.specs.Sound.{fresh}
use Rattle.machine.specs.Refusals.{refusal}
use Rattle.machine.specs.Packet.{Packet, kind, kind_row, recv_step}

-- ---- packets

unfoldable pub id : List ℕ
id = 1 ∷ 2 ∷ 3 ∷ 4 ∷ 5 ∷ 6 ∷ 7 ∷ 8 ∷ []

-- the init of a survey of n bytes without a topic, with the reply flag, so that no rule book is read
unfoldable pub init : ℕ → List ℕ
init n = header id (init_flag + reply_flag) ++ be 8 n ++ (0 ∷ [])

-- the init of another survey of n bytes under the same id, about a topic of one byte
unfoldable pub topic : List ℕ
topic = 5 ∷ []

unfoldable pub another : ℕ → List ℕ
another n = header id (init_flag + reply_flag) ++ be 8 n ++ (length topic ∷ topic)

-- a chunk
unfoldable pub chunk : ℕ → ℕ → List ℕ → List ℕ
chunk index offset bytes = chunk_packet id index offset bytes

-- ---- the office

unfoldable pub address : List ℕ
address = replicate 16 7

-- a frame as it comes in
abbrev pub from : List ℕ → Packet
from f = record { frame = f; from = address; to = address; rules = []; known = 1 }

-- the answers so far, the last first, and the receive store
pub record Seen : Type 0 where
  pub numbers : List ℕ
  pub recv : Store

-- it hears a frame: its kind's refusals decide, past those that are alike for all packets
unfoldable pub hear : List ℕ → Seen → Seen
hear f s =
    let p : Packet = from f in
    let n : ℕ = refusal (kind_row (kind p) p s.recv (fresh role_send 1)) in
    record { numbers = n ∷ s.numbers; recv = cond (eqb n 0) (recv_step (kind p) p s.recv) s.recv }

-- a fresh office
unfoldable pub opened : Seen
opened = record { numbers = []; recv = fresh role_receive 2 }
