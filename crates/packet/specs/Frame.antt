-- A frame's fields, the kind that its flag byte decides, and how many bytes a kind needs: PROTOCOL, "Packets". A field is said of the bytes that came:
-- where some of its bytes did not, nothing stands in for them, and the contracts of the reader promise nothing.
use Rattle.std.specs.Prelude.{ℕ, ◌+◌, min, Bool, not, cond, ◌&&◌, List, length, eqb, leb}
use Rattle.std.specs.Int.Bits.{bit_and}
use Rattle.octets.specs.Octets.{part, num}
use Rattle.packet.specs.declared.header.Kind.{Kind}
use Rattle.packet.specs.declared.header.Kind.TheVariants.{Init, Chunk, Done, Read, Aborted, AckInit, AckChunk, AckDone, Nothing}

-- "Flags": the mask of each
abbrev pub init_flag : ℕ
init_flag = 0x80

abbrev pub done_flag : ℕ
done_flag = 0x40

abbrev pub aborted_flag : ℕ
aborted_flag = 0x20

abbrev pub chunk_flag : ℕ
chunk_flag = 0x10

abbrev pub read_flag : ℕ
read_flag = 0x08

abbrev pub reply_flag : ℕ
reply_flag = 0x04

abbrev pub ack_flag : ℕ
ack_flag = 0x01

-- the flag byte f has the flag of mask m
abbrev pub has : ℕ → ℕ → Bool
has f m = not (eqb (bit_and f m) 0)

-- "First fitting flag decides: init, chunk, done, read, aborted"
abbrev pub sent_kind : ℕ → Kind
sent_kind f =
    cond (has f init_flag) Init
    (cond (has f chunk_flag) Chunk (cond (has f done_flag) Done (cond (has f read_flag) Read (cond (has f aborted_flag) Aborted Nothing))))

-- "with ack only the first three"
abbrev pub ack_kind : ℕ → Kind
ack_kind f = cond (has f init_flag) AckInit (cond (has f chunk_flag) AckChunk (cond (has f done_flag) AckDone Nothing))

unfoldable pub kind_of : ℕ → Kind
kind_of f = cond (has f ack_flag) (ack_kind f) (sent_kind f)

-- the bytes of an id and of an address
abbrev pub id_size : ℕ
id_size = 8

abbrev pub address_size : ℕ
address_size = 16

-- "Bytes 0–7 id, 8 flags": where each part starts; "Body from byte 12"
abbrev pub flags_at : ℕ
flags_at = 8

abbrev pub after_flags_at : ℕ
after_flags_at = 9

abbrev pub body_at : ℕ
body_at = 12

-- the number in bytes that came, the highest first
abbrev pub number : List ℕ → ℕ
number l = num (length l) l

abbrev pub id_of : List ℕ → List ℕ
id_of f = part f 0 id_size

abbrev pub flags_of : List ℕ → ℕ
flags_of f = number (part f flags_at 1)

-- "init is length (8), topic length (1), topic"
abbrev pub init_topic_size_at : ℕ
init_topic_size_at = 20

abbrev pub init_topic_at : ℕ
init_topic_at = 21

abbrev pub init_length : List ℕ → ℕ
init_length f = number (part f body_at 8)

abbrev pub init_topic_size : List ℕ → ℕ
init_topic_size f = number (part f init_topic_size_at 1)

abbrev pub init_topic : List ℕ → List ℕ
init_topic f = part f init_topic_at (init_topic_size f)

-- "chunk is index (8), offset (8), size (8), data"
abbrev pub chunk_offset_at : ℕ
chunk_offset_at = 20

abbrev pub chunk_size_at : ℕ
chunk_size_at = 28

abbrev pub chunk_piece_at : ℕ
chunk_piece_at = 36

abbrev pub chunk_index : List ℕ → ℕ
chunk_index f = number (part f body_at 8)

abbrev pub chunk_offset : List ℕ → ℕ
chunk_offset f = number (part f chunk_offset_at 8)

abbrev pub chunk_size_field : List ℕ → ℕ
chunk_size_field f = number (part f chunk_size_at 8)

-- "Piece size is the smaller of the field and 1,364"
abbrev pub largest_piece : ℕ
largest_piece = 1364

abbrev pub chunk_size : List ℕ → ℕ
chunk_size f = min (chunk_size_field f) largest_piece

abbrev pub piece : List ℕ → List ℕ
piece f = part f chunk_piece_at (chunk_size f)

-- "done is count (8), sum (32)"
abbrev pub done_sum_at : ℕ
done_sum_at = 20

abbrev pub sum_size : ℕ
sum_size = 32

abbrev pub done_end : ℕ
done_end = 52

abbrev pub done_count : List ℕ → ℕ
done_count f = number (part f body_at 8)

abbrev pub done_sum : List ℕ → List ℕ
done_sum f = part f done_sum_at sum_size

-- "a frame of 1 to 1,400"
abbrev pub largest_frame : ℕ
largest_frame = 1400

abbrev pub is_frame : List ℕ → Bool
is_frame f = leb 1 (length f) && leb (length f) largest_frame

-- "Needed are 12 bytes, for init 21 plus topic, for chunk 36 plus the size field uncapped, for done 52; an acknowledgement needs 12, of a chunk 36"
abbrev pub needed : Kind → List ℕ → ℕ
needed Init f = init_topic_at + init_topic_size f
needed Chunk f = chunk_piece_at + chunk_size_field f
needed Done f = done_end
needed Read f = body_at
needed Aborted f = body_at
needed AckInit f = body_at
needed AckChunk f = chunk_piece_at
needed AckDone f = body_at
needed Nothing f = body_at

-- .. and so many came
abbrev pub is_enough : Kind → List ℕ → Bool
is_enough k f = leb (needed k f) (length f)
