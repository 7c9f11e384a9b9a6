-- What a frame's fields hold by their width: an init's head and a chunk's piece fit a store's fields; and the bytes that a reply keeps came.
-- Assumes nothing.
use Rattle.std.specs.Prelude.{ℕ, ◌≤◌, List, length}
use Rattle.std.proofs.Common.{arith}
use Rattle.octets.specs.Octets.{part, Bytes}
use Rattle.octets.specs.PartsLaws.{length_part, length-part-le, bytes-part}
use Rattle.packet.specs.declared.header.Kind.{Kind}
use Rattle.packet.specs.declared.header.Kind.TheVariants.{Init, Chunk, Done, Read, Aborted, AckInit, AckChunk, AckDone, Nothing}
use Rattle.packet.specs.Frame.{needed, piece, largest_piece}
use Rattle.packet.specs.FieldsLaws.{number_lt, byte-lt}
use Rattle.machine.specs.Limits.{largest_topic}
use Rattle.machine.specs.Valid.{AtMost, LabelSized}
use Rattle.machine.specs.Packet.{Packet, init_label, reply_bytes}
use Rattle.machine.specs.Typed.{TypedPacket}

-- a part of a frame is bytes, at most as many as it asks for
part-most : (f : List ℕ) (o n most : ℕ) → Bytes f → n ≤ most → AtMost most (part f o n)
part-most f o n most b h = (omega (arith, length-part-le f o n), bytes-part f o n b)

pub head-sized : (p : Packet) → TypedPacket p → needed Init p.frame ≤ length p.frame → LabelSized (init_label p)
head-sized p t h = record {
  id = (length_part p.frame _ _ (omega arith), bytes-part p.frame _ _ t.frame);
  source = t.from;
  destination = t.to;
  total = number_lt p.frame _ 8 (omega arith) t.frame;
  topic = part-most p.frame _ _ largest_topic t.frame (omega (arith, byte-lt p.frame 20 (omega arith) t.frame));
}

pub piece-most : (f : List ℕ) → Bytes f → AtMost largest_piece (piece f)
piece-most f b = part-most f _ _ largest_piece b (omega arith)

-- "21, 36 and 52 bytes": the reply's are among those that its packet needs
pub reply-came : (k : Kind) (f : List ℕ) → reply_bytes k ≤ needed k f
reply-came Init f = omega arith
reply-came Chunk f = omega arith
reply-came Done f = omega arith
reply-came Read f = omega arith
reply-came Aborted f = omega arith
reply-came AckInit f = omega arith
reply-came AckChunk f = omega arith
reply-came AckDone f = omega arith
reply-came Nothing f = omega arith
