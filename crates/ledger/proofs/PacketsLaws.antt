-- Packets that came whole, on two valid stores and with room for their replies: the calls answer what the kinds' rows of refusals do, one after the
-- other. So a run of packets can be worked on stores instead of bytes. Assumes nothing.
use Rattle.std.specs.Prelude.{ℕ, ◌≤◌, ◌≡◌, true, cond, length, eqb}
use Rattle.std.proofs.Math.Path.{refl, sym}
use Rattle.std.proofs.Common.{ap, ◌∙◌}
use mathlib.Core.List.{List, [], ◌∷◌, map}
use borrow.Author.Tests.{eqb-true, eqb-false, leb-true, le-leb}
use Rattle.octets.specs.BoolsLaws.{cases}
use Rattle.octets.specs.Lists.{All}
use Rattle.packet.specs.Frame.{is_frame, needed, is_enough}
use Rattle.machine.specs.Codes.{role_receive, role_send}
use Rattle.machine.specs.Values.{Store}
use Rattle.machine.specs.Layout.{encode}
use Rattle.machine.specs.Valid.{Valid}
use Rattle.machine.specs.Refusals.{refusal}
use Rattle.machine.specs.Typed.{TypedPacket}
use Rattle.machine.specs.Packet.{Packet, kind, is_kind, packet_room, kind_row, recv_step, send_step, packet_row}
use Rattle.octets.specs.ListsLaws.{◌&◌}
use Rattle.machine_laws.specs.ValidSound.{valid-sound}
use Rattle.machine_steps.proofs.Valid.{recv-valid}
use Rattle.machine_steps.proofs.SendValid.{send-valid}
use Rattle.ledger.specs.Run.{Stores, Call, packet, answer, after, answered}
use Rattle.ledger.proofs.RefusedLaws.{packet-number, refused-stays}
use Rattle.ledger.proofs.FrontsLaws.{packet-answer}

-- the number that two stores answer to a packet, and to packets one after the other
abbrev pub number : Packet → Store → Store → ℕ
number p recv send = refusal (kind_row (kind p) p recv send)

unfoldable pub numbers : List Packet → Store → Store → List ℕ
numbers [] recv send = []
numbers (p ∷ l) recv send =
    number p recv send
    ∷ numbers l (cond (eqb (number p recv send) 0) (recv_step (kind p) p recv) recv) (cond (eqb (number p recv send) 0) (send_step (kind p) p send) send)

-- a packet that a frame can carry, of some kind, with all that this needs
pub record Full (p : Packet) : Type 0 where
  pub typed : TypedPacket p
  pub long : is_frame p.frame ≡ true
  pub enough : is_enough (kind p) p.frame ≡ true
  pub kinded : is_kind (kind p) ≡ true

-- the bytes of two stores
abbrev pub stores : Store → Store → Stores
stores recv send = record { recv = encode recv; send = encode send }

module _ (out : List ℕ) (room : packet_room ≤ length out) where
  module _ (p : Packet) (f : Full p) (recv send : Store) (v : Valid role_receive recv) (w : Valid role_send send) where
    pub one_answer : answer (packet p out) (stores recv send) ≡ number p recv send
    unfolding answer
    one_answer =
        packet-answer p (encode recv) (encode send) out
        ((valid-sound role_receive recv v).0 & (valid-sound role_send send w).0 & f.long & f.enough & f.kinded
        & le-leb packet_room (length out) room & tt)
        ∙ (λ i. refusal (kind_row (kind p) p ((valid-sound role_receive recv v).1 i) ((valid-sound role_send send w).1 i)))

    pub one-after : number p recv send ≡ 0 → after (packet p out) (stores recv send) ≡ stores (recv_step (kind p) p recv) (send_step (kind p) p send)
    unfolding after answer
    one-after e =
        let n : refusal (packet_row p (encode recv) (encode send) out) ≡ 0 = sym (packet-number p (encode recv) (encode send) out) ∙ one_answer ∙ e in
        rw (n, (valid-sound role_receive recv v).1, (valid-sound role_send send w).1)

  pub packets-answer : (l : List Packet) → All Full l → (recv send : Store) → Valid role_receive recv → Valid role_send send
      → map (λ (c : Call × ℕ). c.1) (answered (map (λ (p : Packet). packet p out) l) (stores recv send)) ≡ numbers l recv send
  unfolding answered numbers
  packets-answer [] f recv send v w = refl
  packets-answer (p ∷ l) f recv send v w =
      let a = one_answer p f.0 recv send v w in
      cases (eqb (number p recv send) 0)
      (λ e. let n : number p recv send ≡ 0 = eqb-true (number p recv send) 0 e in
      rw (a, one-after p f.0 recv send v w n, e)
      (ap (λ (x : List ℕ). number p recv send ∷ x)
      (packets-answer l f.1 (recv_step (kind p) p recv) (send_step (kind p) p send)
      (recv-valid p recv send f.0.typed (leb-true (needed (kind p) p.frame) (length p.frame) f.0.enough) v n) (send-valid p recv send f.0.typed w n))))
      (λ e. rw (a, refused-stays (packet p out) (stores recv send) (λ z. eqb-false (number p recv send) 0 e (sym a ∙ z)), e)
      (ap (λ (x : List ℕ). number p recv send ∷ x) (packets-answer l f.1 recv send v w)))
