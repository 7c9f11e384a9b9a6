-- Every packet that is not refused leaves the receive store valid. Assumes nothing.
use Rattle.std.specs.Prelude.{ℕ, ◌≤◌, ◌≡◌, refl, Bool, List, length, eqb}
use Rattle.std.proofs.Math.Option.{Option, none, some}
use Rattle.std.proofs.Common.{leb-true}
use Rattle.std.proofs.lemmas.Bool.{not-true}
use Rattle.octets.specs.BoolsLaws.{one-le, both}
use Rattle.packet.specs.declared.header.Kind.{Kind}
use Rattle.packet.specs.declared.header.Kind.TheVariants.{Init, Chunk, Done, Read, Aborted, AckInit, AckChunk, AckDone, Nothing}
use Rattle.packet.specs.Frame.{needed, init_length, chunk_index, chunk_offset, chunk_size, piece, done_count, done_sum, largest_piece}
use Rattle.machine.specs.Limits.{longest, top_of}
use Rattle.machine.specs.Codes.{role_receive, yes}
use Rattle.machine.specs.Values.{Rec, Store, Key}
use Rattle.machine.specs.Sound.{sizes}
use Rattle.machine.specs.Valid.{AtMost, Valid}
use Rattle.machine.specs.Find.{is_some}
use Rattle.machine.specs.Refusals.{refusal}
use Rattle.machine.specs.Receive.{found, init_step, chunk_at, done_at}
use Rattle.machine.specs.Packet.{Packet, kind, asked, is_reply, init_label, init_row, cells_needed, chunk_row, done_row, kind_row, recv_step}
use Rattle.machine.specs.Typed.{TypedPacket}
use Rattle.machine_steps.proofs.Refusals.{refusal-clear}
use Rattle.machine_steps.proofs.Find.{is_none}
use Rattle.machine_steps.proofs.Init.{init-valid}
use Rattle.machine_steps.proofs.ChunkValid.{chunk-valid}
use Rattle.machine_steps.proofs.Done.{done-valid}
use Rattle.machine_steps.proofs.Drop.{drop-valid}
use Rattle.machine_steps.proofs.Frames.{head-sized, piece-most}

init-row : (p : Packet) (s : Store) → TypedPacket p → needed Init p.frame ≤ length p.frame → Valid role_receive s → refusal (init_row p s) ≡ 0
    → Valid role_receive (init_step (init_label p) s)
init-row p s t h v z =
    let c = refusal-clear (init_row p s) refl z in
    init-valid (init_label p) s
    (is_none (found (asked p) s.whole) (not-true (is_some (found (asked p) s.whole)) c.1.1.0))
    c.1.1.1.1.0
    (record { sized = head-sized p t h; reply = one-le (is_reply p); total = leb-true (init_length p.frame) longest c.1.1.1.0 })
    v

chunk_row_lem : (k : Key) (o : Option Rec) (index offset size : ℕ) (bytes : List ℕ) (s : Store) → found k s.held ≡ o → AtMost largest_piece bytes
    → Valid role_receive s → refusal (chunk_row index offset size s o) ≡ 0 → Valid role_receive (chunk_at o index bytes s)
unfolding chunk_at
chunk_row_lem k none index offset size bytes s e b v z = v
chunk_row_lem k (some r) index offset size bytes s e b v z =
    let c = refusal-clear (chunk_row index offset size s (some r)) refl z in
    chunk-valid k index bytes r s e (leb-true index (top_of r.label.total) c.1.0) c.1.1.1.0
    (leb-true (cells_needed index r) (length s.free_cells) c.1.1.1.1.0) b v

done-row : (k : Key) (o : Option Rec) (count : ℕ) (sum : List ℕ) (known : Bool) (s : Store) → found k s.held ≡ o → Valid role_receive s
    → refusal (done_row count sum known o) ≡ 0 → Valid role_receive (done_at o s)
unfolding done_at
done-row k none count sum known s e v z = v
done-row k (some r) count sum known s e v z =
    let c = refusal-clear (done_row count sum known (some r)) refl z in
    done-valid k r s e (both (eqb (length r.cells) r.slots) (eqb (sizes r.cells) r.label.total) c.1.0 c.1.1.0) v

-- the same for each kind
recv-kind : (k : Kind) (p : Packet) (recv send : Store) → TypedPacket p → needed k p.frame ≤ length p.frame → Valid role_receive recv
    → refusal (kind_row k p recv send) ≡ 0 → Valid role_receive (recv_step k p recv)
unfolding kind_row recv_step
recv-kind Init p recv send t h v z = init-row p recv t h v z
recv-kind Chunk p recv send t h v z =
    chunk_row_lem (asked p) (found (asked p) recv.held) (chunk_index p.frame) (chunk_offset p.frame) (chunk_size p.frame) (piece p.frame) recv refl
    (piece-most p.frame t.frame) v z
recv-kind Done p recv send t h v z =
    done-row (asked p) (found (asked p) recv.held) (done_count p.frame) (done_sum p.frame) (yes p.known) recv refl v z
recv-kind Read p recv send t h v z = v
recv-kind Aborted p recv send t h v z = drop-valid role_receive (asked p) recv v
recv-kind AckInit p recv send t h v z = v
recv-kind AckChunk p recv send t h v z = v
recv-kind AckDone p recv send t h v z = v
recv-kind Nothing p recv send t h v z = v

pub recv-valid : (p : Packet) (recv send : Store) → TypedPacket p → needed (kind p) p.frame ≤ length p.frame → Valid role_receive recv
    → refusal (kind_row (kind p) p recv send) ≡ 0 → Valid role_receive (recv_step (kind p) p recv)
recv-valid p recv send t h v z = recv-kind (kind p) p recv send t h v z
