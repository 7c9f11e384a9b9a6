-- Packets that are put out, and the run that carries them: PROTOCOL, "Calls and answers", "Packets", and the replies of "The office".
use Rattle.std.specs.Prelude.{ℕ, ◌+◌, ◌-◌, Bool, cond, List, [], ◌∷◌, ◌++◌, length}
use Rattle.std.specs.Int.Bits.{bit_or}
use Rattle.octets.specs.Octets.{part, be}
use Rattle.packet.specs.Frame.{init_flag, chunk_flag, done_flag, aborted_flag, read_flag, reply_flag, ack_flag}
use Rattle.packet.specs.Frame.{id_of, flags_of, after_flags_at, init_topic_at, chunk_piece_at, done_end}

-- "A run is outgoing packets, each after its byte count (2 bytes), from address (16) and to address (16)"
unfoldable pub entry : List ℕ → List ℕ → List ℕ → List ℕ
entry from to packet = be 2 (length packet) ++ from ++ to ++ packet

-- "Bytes 0–7 id, 8 flags, 9–11 sent as zero"
unfoldable pub header : List ℕ → ℕ → List ℕ
header id flags = id ++ (flags ∷ 0 ∷ 0 ∷ 0 ∷ [])

-- "init sent with topic; reply flag if a reply"
unfoldable pub init_packet : List ℕ → Bool → ℕ → List ℕ → List ℕ
init_packet id reply size topic = header id (cond reply (init_flag + reply_flag) init_flag) ++ be 8 size ++ (length topic ∷ []) ++ topic

-- a chunk: index, offset, size, data; no reply flag
unfoldable pub chunk_packet : List ℕ → ℕ → ℕ → List ℕ → List ℕ
chunk_packet id index offset bytes = header id chunk_flag ++ be 8 index ++ be 8 offset ++ be 8 (length bytes) ++ bytes

-- a done: count, sum; no reply flag
unfoldable pub done_packet : List ℕ → ℕ → List ℕ → List ℕ
done_packet id count sum = header id done_flag ++ be 8 count ++ sum

-- aborted and read are a header alone
abbrev pub aborted_packet : List ℕ → List ℕ
aborted_packet id = header id aborted_flag

abbrev pub read_packet : List ℕ → List ℕ
read_packet id = header id read_flag

-- "Replies set ack, keep other bytes": of the frame's first n bytes
unfoldable pub reply_packet : ℕ → List ℕ → List ℕ
reply_packet n f = id_of f ++ (bit_or (flags_of f) ack_flag ∷ []) ++ part f after_flags_at (n - after_flags_at)

-- how many bytes of the frame each reply keeps
abbrev pub init_reply : ℕ
init_reply = init_topic_at

abbrev pub chunk_reply : ℕ
chunk_reply = chunk_piece_at

abbrev pub done_reply : ℕ
done_reply = done_end
