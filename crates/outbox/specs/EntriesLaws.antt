-- Laws of the entries that are made under a label: their lengths, and what they are of the record whose label it carries. Assumes nothing.
use Rattle.std.specs.Prelude.{ℕ, ◌+◌, ◌*◌, ◌≡◌, length}
use Rattle.std.proofs.Common.{arith}
use mathlib.Core.List.{List}
use Rattle.packet.specs.declared.label.Label as carried
use Rattle.packet.specs.Named.{Named}
use Rattle.packet.specs.Outgoing.{entry, chunk_packet}
use Rattle.packet.specs.LengthsLaws.{length-entry, length-chunk}
use Rattle.machine.specs.Limits.{cut_by}
use Rattle.machine.specs.Values.{Label, Cell}
use Rattle.machine.specs.Layout.{id_width, read_rec}
use Rattle.machine.specs.Send.{sent_by, chunk_out}
use Rattle.outbox.specs.Sending.{chunk_of}
use Rattle.outbox.specs.Left.{Carries}

-- ---- lengths

module _ (l : carried.Label) (n : Named l) where
  pub length-of : (packet : List ℕ) → length (entry l.source l.destination packet) ≡ 34 + length packet
  length-of packet = length-entry l.source l.destination packet n.source.0 n.destination.0

  pub length-id : length l.id ≡ id_width
  length-id = n.id.0

  pub chunk-length : (c : Cell) → length (chunk_of l c) ≡ 70 + length c.bytes
  chunk-length c =
      let packet = chunk_packet l.id c.index (cut_by * c.index) c.bytes in
      omega (arith, length-of packet, length-chunk l.id c.bytes c.index (cut_by * c.index) length-id)

-- ---- the record

module _ {l : carried.Label} {h : Label} (k : Carries l h) where
  pub id-is : l.id ≡ h.id
  id-is = k.id

  pub entry-is : (packet : List ℕ) → entry l.source l.destination packet ≡ sent_by h packet
  entry-is packet = λ i. entry (k.source i) (k.destination i) packet

  pub chunk-is : (c : Cell) → chunk_of l c ≡ chunk_out h c
  chunk-is c = λ i. entry (k.source i) (k.destination i) (chunk_packet (k.id i) c.index (cut_by * c.index) c.bytes)

-- .. of a label that was read
pub piece_is : (b : List ℕ) (p : ℕ) {l : carried.Label} → Carries l (read_rec b p).label → (c : Cell) → chunk_of l c ≡ chunk_out (read_rec b p).label c
piece_is b p k c = chunk-is k c
