-- What a kind's step leaves of both stores, and its reply. Assumes nothing.
use Prim.Native.Nat.{ℕ, ◌+◌, ◌≤◌}
use native.Mathlib.Omega.{arith}
use mathlib.Core.Path.{◌≡◌, refl, sym, ap, ◌∙◌}
use mathlib.Core.Bool.{cond}
use mathlib.Core.List.{List}
use lib.ListN.{length}
use lib.Dec.{eqb}
use borrow.Author.Tests.{eq-eqb, ne_eqb}
use Rattle.octets.specs.Octets.{put, Bytes}
use Rattle.octets.specs.PartsLaws.{put-nil}
use Rattle.octets.specs.BoolsLaws.{cases}
use Rattle.packet.specs.declared.header.Kind.{Kind}
use Rattle.packet.specs.declared.header.Kind.TheVariants.{Init, Chunk, Done, Read, Aborted, AckInit, AckChunk, AckDone, Nothing}
use Rattle.packet.specs.Outgoing.{entry, reply_packet}
use Rattle.packet.specs.LengthsLaws.{length-entry, length-reply}
use Rattle.machine.specs.Codes.{role_receive, role_send}
use Rattle.machine.specs.Layout.{encode, decode}
use Rattle.machine.specs.Refusals.{refusal}
use Rattle.machine.specs.Packet.{Packet, kind_row, recv_step, send_step, reply_bytes}
use Rattle.machine_laws.specs.SoundValid.{sound-valid}
use Rattle.records.specs.HeldAt.{Receives, Sends}
use Rattle.records.specs.Step.{stepped}
use Rattle.message.specs.Both.{both_of, reply_out}

-- both stores, as a packet finds them
pub record Stores (b c : List ℕ) : Type 0 where
  pub recv-bytes : Bytes b
  pub send-bytes : Bytes c
  pub recv : Receives b
  pub send : Sends c

-- a store that stays is what it encodes
same : (n : ℕ) (s c : List ℕ) → s ≡ c → c ≡ cond (eqb n 0) s c
same n s c e = cases (eqb n 0) (λ q. rw q (sym e)) (λ q. rw q)

abbrev number : Kind → Packet → List ℕ → List ℕ → ℕ
number k p b c = refusal (kind_row k p (decode b) (decode c))

-- a step of the receive store leaves the send store, and the other way round; the kind was told
module _ (p : Packet) {b c : List ℕ} (h : Stores b c) (k : Kind) {kind : Kind} (told : kind ≡ k) {n : ℕ} {l : List ℕ} where
  pub receives : send_step k p (decode c) ≡ decode c → record { number = n; store = l } ≡ stepped (number k p b c) (recv_step k p (decode b)) b
      → record { number = n; recv = l; send = c } ≡ both_of kind p b c
  receives e w =
      let kept : encode (send_step k p (decode c)) ≡ c = ap encode e ∙ (sound-valid role_send c h.send-bytes h.send).1 in
      (λ i. record { number = (w i).number; recv = (w i).store; send = same (number k p b c) (encode (send_step k p (decode c))) c kept i })
      ∙ ap (λ (j : Kind). both_of j p b c) (sym told)

  pub sends : recv_step k p (decode b) ≡ decode b → record { number = n; store = l } ≡ stepped (number k p b c) (send_step k p (decode c)) c
      → record { number = n; recv = b; send = l } ≡ both_of kind p b c
  sends e w =
      let kept : encode (recv_step k p (decode b)) ≡ b = ap encode e ∙ (sound-valid role_receive b h.recv-bytes h.recv).1 in
      (λ i. record { number = (w i).number; recv = same (number k p b c) (encode (recv_step k p (decode b))) b kept i; send = (w i).store })
      ∙ ap (λ (j : Kind). both_of j p b c) (sym told)

-- ---- the reply

-- it keeps the header's flags, and fits the buffer
reply-least : (k : Kind) → (reply_bytes k ≡ 0 → ⊥) → 9 ≤ reply_bytes k
reply-least Init e = omega arith
reply-least Chunk e = omega arith
reply-least Done e = omega arith
reply-least Read e = absurd (e refl)
reply-least Aborted e = absurd (e refl)
reply-least AckInit e = absurd (e refl)
reply-least AckChunk e = absurd (e refl)
reply-least AckDone e = absurd (e refl)
reply-least Nothing e = absurd (e refl)

reply-most : (k : Kind) → reply_bytes k ≤ 52
reply-most Init = omega arith
reply-most Chunk = omega arith
reply-most Done = omega arith
reply-most Read = omega arith
reply-most Aborted = omega arith
reply-most AckInit = omega arith
reply-most AckChunk = omega arith
reply-most AckDone = omega arith
reply-most Nothing = omega arith

module _ {n : ℕ} (k : (k : Kind) × (n ≡ reply_bytes k)) where
  pub silent : (frame from to run : List ℕ) → n ≡ 0 → (0 ≡ length (reply_out n frame from to)) × (run ≡ put run 0 (reply_out n frame from to))
  silent frame from to run z = rw (eq-eqb n 0 z) (refl, sym (put-nil run 0))

  module _ (some : n ≡ 0 → ⊥) where
    pub least : 9 ≤ n
    least = omega (arith, k.1, reply-least k.0 (λ q. some (k.1 ∙ q)))

    pub most : n ≤ 52
    most = omega (arith, k.1, reply-most k.0)

    pub replies : (frame from to run : List ℕ) → n ≤ length frame → length from ≡ 16 → length to ≡ 16 → (l : List ℕ)
        → l ≡ put run 0 (entry to from (reply_packet n frame)) → (34 + n ≡ length (reply_out n frame from to)) × (l ≡ put run 0 (reply_out n frame from to))
    replies frame from to run h f t l w =
        let size = length-reply frame n least h in
        rw (ne_eqb n 0 some) (sym (length-entry to from (reply_packet n frame) t f ∙ ap (λ (m : ℕ). 34 + m) size), w)
