-- "A damaged size field picks up bytes left in the frame from earlier traffic": none does. On any store, of any frame: what an accepted chunk leaves at
-- its index is what came from byte 36 on, as many bytes as the size field says. Assumes nothing.
use Prim.Native.Nat.{ℕ, ◌≤◌}
use Rattle.std.proofs.Common.{arith, ◌∙◌}
use Rattle.std.specs.Prelude.{◌≡◌, leb}
use Rattle.std.proofs.Math.Path.{refl, sym, ap}
use mathlib.Core.List.{List}
use Rattle.std.proofs.Math.Option.{Option, none, some}
use Rattle.std.proofs.Math.ListN.{length}
use borrow.Author.Tests.{leb-true}
use Rattle.octets.specs.BoolsLaws.{split}
use Rattle.octets.specs.Octets.{part, Bytes}
use Rattle.octets.specs.PartsLaws.{length_part}
use Rattle.packet.specs.declared.header.Kind.{Kind}
use Rattle.packet.specs.declared.header.Kind.TheVariants.{Chunk}
use Rattle.packet.specs.Frame.{chunk_piece_at, chunk_index, chunk_offset, chunk_size_field, chunk_size, piece, largest_frame, needed}
use Rattle.machine.specs.Codes.{role_receive}
use Rattle.machine.specs.Values.{Rec, Store, Key, same_key}
use Rattle.machine.specs.Chains.{first}
use Rattle.machine.specs.Layout.{encode, decode}
use Rattle.machine.specs.Pieces.{piece_bytes}
use Rattle.machine.specs.Receive.{found, rec_key, with_piece, chunk_at}
use Rattle.machine.specs.Refusals.{refusal}
use Rattle.machine.specs.Packet.{Packet, kind, asked, chunk_row, kind_row, recv_step, packet_row, packet_answer}
use Rattle.machine.specs.Typed.{TypedPacket}
use Rattle.machine_laws.specs.Keys.{key-eq, key-refl}
use Rattle.machine_laws.specs.SoundValid.{sound-valid}
use Rattle.machine_laws.specs.ValidSound.{valid-sound}
use Rattle.machine_steps.proofs.Find.{find-key, find-swap-same}
use Rattle.machine_steps.proofs.Pieces.{bytes-put-same}
use Rattle.machine_steps.proofs.Valid.{recv-valid}
use Rattle.ledger.proofs.RefusedLaws.{packet-number}
use Rattle.ledger.proofs.FrontsLaws.{packet-clear}
use Rattle.ledger.specs.Came.{data_of, Kept}

-- the cap does not act where all came
uncapped : (f : List ℕ) → needed Chunk f ≤ length f → length f ≤ largest_frame → chunk_size f ≡ chunk_size_field f
uncapped f h m = omega arith

-- the survey that a chunk's step leaves, with the piece at its index
module _ (k : Key) (index offset size : ℕ) (bytes : List ℕ) (s : Store) where
  abbrev In : Store → Type 0
  In t = (r : Rec) × (found k t.held ≡ some r) × (piece_bytes index r.cells ≡ some bytes)

  put_in : (o : Option Rec) → found k s.held ≡ o → refusal (chunk_row index offset size s o) ≡ 0 → In (chunk_at o index bytes s)
  unfolding chunk_at refusal
  put_in none e z = absurd (omega (arith, z))
  put_in (some r) e z =
      let d : k ≡ rec_key r = find-key same_key rec_key key-eq key-refl k r s.held e in
      let q : Rec = with_piece (first s.free_cells) index bytes r in
      (q, rw d (find-swap-same same_key rec_key key-eq key-refl q r s.held (rw d at e)), bytes-put-same (first s.free_cells) index bytes r.cells)

module _ (p : Packet) (recv send out : List ℕ) (y : Bytes recv) (t : TypedPacket p) (chunk : kind p ≡ Chunk) where
  pub kept : (packet_answer p recv send out).answer.number ≡ 0 → Kept p (packet_answer p recv send out).recv
  unfolding kind_row recv_step
  kept a =
      let e : refusal (packet_row p recv send out) ≡ 0 = sym (packet-number p recv send out) ∙ a in
      let c = packet-clear p recv send out e in
      let f : List ℕ = p.frame in
      let R : Store = decode recv in
      let S : Store = decode send in
      let all : needed (kind p) f ≤ length f = leb-true (needed (kind p) f) (length f) c.0.1.1.1.0 in
      let most : length f ≤ largest_frame = leb-true (length f) largest_frame (split (leb 1 (length f)) (leb (length f) largest_frame) c.0.1.1.0).1 in
      let came : needed Chunk f ≤ length f = rw chunk at all in
      let row : refusal (chunk_row (chunk_index f) (chunk_offset f) (chunk_size f) R (found (asked p) R.held)) ≡ 0 = rw chunk at c.1 in
      let i : In (asked p) (chunk_index f) (chunk_offset f) (chunk_size f) (piece f) R (recv_step Chunk p R) =
      put_in (asked p) (chunk_index f) (chunk_offset f) (chunk_size f) (piece f) R (found (asked p) R.held) refl row in
      let v = recv-valid p R S t all (sound-valid role_receive recv y c.0.0).0 c.1 in
      let left : decode (encode (recv_step (kind p) p R)) ≡ recv_step Chunk p R =
      (valid-sound role_receive (recv_step (kind p) p R) v).1 ∙ ap (λ (x : Kind). recv_step x p R) chunk in
      let whole : piece f ≡ data_of p = ap (part f chunk_piece_at) (uncapped f came most) in
      rw e (record {
        survey = i.0;
        held = rw left i.1;
        bytes = i.2 ∙ ap some whole;
        size = length_part f chunk_piece_at (chunk_size_field f) came;
      })
