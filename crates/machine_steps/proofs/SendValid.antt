-- Every packet leaves the send store valid: acknowledgements and read change marks only, so no test of their rows is needed. Assumes nothing.
use Rattle.std.specs.Prelude.{ℕ, ◌≤◌, ◌≡◌, refl}
use Rattle.std.proofs.Common.{arith}
use Rattle.packet.specs.declared.header.Kind.{Kind}
use Rattle.packet.specs.declared.header.Kind.TheVariants.{Init, Chunk, Done, Read, Aborted, AckInit, AckChunk, AckDone, Nothing}
use Rattle.packet.specs.Frame.{chunk_index}
use Rattle.machine.specs.Codes.{role_send, state_in_progress, state_received, state_read, state_aborted}
use Rattle.machine.specs.Values.{Store, Key}
use Rattle.machine.specs.Valid.{Valid}
use Rattle.machine.specs.Refusals.{refusal}
use Rattle.machine.specs.Receive.{found}
use Rattle.machine.specs.Send.{with_state, ack_cell, ack_piece, change}
use Rattle.machine.specs.Packet.{Packet, kind, asked, kind_row, send_step}
use Rattle.machine.specs.Typed.{TypedPacket}
use Rattle.machine_steps.proofs.Marks.{marks-ack}
use Rattle.machine_steps.proofs.RemarkedValid.{held_small, change-at}
use Rattle.machine_steps.proofs.RemarkedValid.{remarked-valid, restated-valid}

pub state-valid : (state : ℕ) (k : Key) (s : Store) → state ≤ state_aborted → Valid role_send s → Valid role_send (change (with_state state) k s)
state-valid state k s h v =
    change-at (with_state state) k (found k s.held) s refl
    (λ r e. restated-valid k r s e v state r.sending.timed_out h (held_small k r s e v).1) v

pub ack-valid : (index : ℕ) (k : Key) (s : Store) → Valid role_send s → Valid role_send (change (ack_piece index) k s)
ack-valid index k s v =
    change-at (ack_piece index) k (found k s.held) s refl
    (λ r e. let h = held_small k r s e v in
    remarked-valid k r s e v r.sending.state r.sending.timed_out (ack_cell index) h.0 h.1 (marks-ack index)) v

-- the same for each kind
send-kind : (k : Kind) (p : Packet) (s : Store) → Valid role_send s → Valid role_send (send_step k p s)
unfolding send_step
send-kind Init p s v = v
send-kind Chunk p s v = v
send-kind Done p s v = v
send-kind Read p s v = state-valid state_read (asked p) s (omega arith) v
send-kind Aborted p s v = v
send-kind AckInit p s v = state-valid state_in_progress (asked p) s (omega arith) v
send-kind AckChunk p s v = ack-valid (chunk_index p.frame) (asked p) s v
send-kind AckDone p s v = state-valid state_received (asked p) s (omega arith) v
send-kind Nothing p s v = v

pub send-valid : (p : Packet) (recv send : Store) → TypedPacket p → Valid role_send send → refusal (kind_row (kind p) p recv send) ≡ 0
    → Valid role_send (send_step (kind p) p send)
send-valid p recv send t v z = send-kind (kind p) p send v
