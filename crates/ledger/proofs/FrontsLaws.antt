-- The front of each call's row of refusals: what an answer of 0 says of its tests, and what is answered where they hold. Assumes nothing.
use Rattle.std.specs.Prelude.{ℕ, ◌≡◌, true, List, [], ◌∷◌, ◌++◌}
use Rattle.std.proofs.Math.Path.{refl}
use Rattle.std.proofs.Common.{◌∙◌}
use Rattle.machine.specs.Codes.{role_receive, role_send}
use Rattle.machine.specs.Layout.{decode}
use Rattle.machine.specs.Sound.{sound}
use Rattle.machine.specs.Refusals.{Refusals, refusal}
use Rattle.machine.specs.Packet.{Packet, kind, kind_row, packet_front, packet_row, packet_answer}
use Rattle.machine.specs.Push.{Push, push_row}
use Rattle.machine.specs.Wake.{Wake, wake_row}
use Rattle.machine.specs.Take.{oldest_row, take_row, take_of}
use Rattle.machine_steps.proofs.Refusals.{Clear, refusal-front}
use Rattle.ledger.proofs.RefusedLaws.{packet-number, take-number}

-- where each test of its front holds, a row answers what stands behind the front answers
pub front-refusal : (front row : Refusals) → Clear front → refusal (front ++ row) ≡ refusal row
unfolding refusal
front-refusal [] row c = refl
front-refusal (t ∷ front) row c = rw c.0 (front-refusal front row c.1)

module _ (p : Packet) (recv send out : List ℕ) where
  -- what stands behind it
  abbrev behind : Refusals
  behind = kind_row (kind p) p (decode recv) (decode send)

  pub packet-clear : refusal (packet_row p recv send out) ≡ 0 → Clear (packet_front p recv send out) × (refusal behind ≡ 0)
  unfolding packet_row
  packet-clear e = refusal-front (packet_front p recv send out) behind refl e

  pub packet-answer : Clear (packet_front p recv send out) → (packet_answer p recv send out).answer.number ≡ refusal behind
  unfolding packet_row
  packet-answer c = packet-number p recv send out ∙ front-refusal (packet_front p recv send out) behind c

-- push and wakes: 25 first
pub push-sound : (p : Push) (send out : List ℕ) → refusal (push_row p send out) ≡ 0 → sound role_send send ≡ true
unfolding push_row
push-sound p send out e = (refusal-front ((sound role_send send, 25) ∷ []) _ refl e).0.0

pub wake-sound : (w : Wake) (send out : List ℕ) → refusal (wake_row w send out) ≡ 0 → sound role_send send ≡ true
unfolding wake_row
wake-sound w send out e = (refusal-front ((sound role_send send, 25) ∷ []) _ refl e).0.0

-- take 25, then 23, 2
module _ (recv taken out : List ℕ) where
  -- what stands behind 25
  abbrev oldest : Refusals
  oldest = oldest_row (decode recv).whole taken out

  pub take-clear : refusal (take_row recv taken out) ≡ 0 → (sound role_receive recv ≡ true) × (refusal oldest ≡ 0)
  unfolding take_row
  take-clear e = let f = refusal-front ((sound role_receive recv, 25) ∷ []) oldest refl e in (f.0.0, f.1)

  pub take-answer : sound role_receive recv ≡ true → (take_of recv taken out).answer.number ≡ refusal oldest
  unfolding take_row
  take-answer t = take-number recv taken out ∙ front-refusal ((sound role_receive recv, 25) ∷ []) oldest (t, tt)
