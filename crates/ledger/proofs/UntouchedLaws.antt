-- A packet leaves the store that it does not concern byte for byte as it was. Assumes nothing.
use Rattle.std.specs.Prelude.{◌≡◌, refl, true, false, List, eqb, ℕ}
use Rattle.std.proofs.Common.{ap, ◌∙◌, eqb-true}
use Rattle.octets.specs.Octets.{Bytes}
use Rattle.octets.specs.BoolsLaws.{cases, clash}
use Rattle.packet.specs.declared.header.Kind.{Kind}
use Rattle.packet.specs.declared.header.Kind.TheVariants.{Init, Chunk, Done, Read, Aborted, AckInit, AckChunk, AckDone, Nothing}
use Rattle.machine.specs.Codes.{role_receive, role_send}
use Rattle.machine.specs.Values.{Store}
use Rattle.machine.specs.Layout.{encode, decode}
use Rattle.machine.specs.Refusals.{refusal}
use Rattle.machine.specs.Packet.{Packet, kind, recv_step, send_step, packet_row, packet_answer}
use Rattle.machine_laws.specs.SoundValid.{sound-valid}
use Rattle.ledger.specs.Only.{to_office}
use Rattle.ledger.proofs.FrontsLaws.{packet-clear}

send-stays : (k : Kind) (p : Packet) (s : Store) → to_office k ≡ true → send_step k p s ≡ s
unfolding send_step
send-stays Init p s e = refl
send-stays Chunk p s e = refl
send-stays Done p s e = refl
send-stays Read p s e = clash e refl
send-stays Aborted p s e = refl
send-stays AckInit p s e = clash e refl
send-stays AckChunk p s e = clash e refl
send-stays AckDone p s e = clash e refl
send-stays Nothing p s e = refl

recv-stays : (k : Kind) (p : Packet) (s : Store) → to_office k ≡ false → recv_step k p s ≡ s
unfolding recv_step
recv-stays Init p s e = clash refl e
recv-stays Chunk p s e = clash refl e
recv-stays Done p s e = clash refl e
recv-stays Read p s e = refl
recv-stays Aborted p s e = clash refl e
recv-stays AckInit p s e = refl
recv-stays AckChunk p s e = refl
recv-stays AckDone p s e = refl
recv-stays Nothing p s e = refl

module _ (p : Packet) (recv send out : List ℕ) where
  abbrev number : ℕ
  number = refusal (packet_row p recv send out)

  -- an init, a chunk, a done or an aborted leaves the send store
  pub send-untouched : Bytes send → to_office (kind p) ≡ true → (packet_answer p recv send out).send ≡ send
  send-untouched y k =
      cases (eqb number 0)
      (λ e. let f = packet-clear p recv send out (eqb-true number 0 e) in
      rw e (ap encode (send-stays (kind p) p (decode send) k) ∙ (sound-valid role_send send y f.0.1.0).1))
      (λ e. rw e)

  -- an acknowledgement or a read leaves the receive store
  pub recv-untouched : Bytes recv → to_office (kind p) ≡ false → (packet_answer p recv send out).recv ≡ recv
  recv-untouched y k =
      cases (eqb number 0)
      (λ e. let f = packet-clear p recv send out (eqb-true number 0 e) in
      rw e (ap encode (recv-stays (kind p) p (decode recv) k) ∙ (sound-valid role_receive recv y f.0.0).1))
      (λ e. rw e)
