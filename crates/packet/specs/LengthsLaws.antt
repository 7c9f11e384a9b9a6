-- How long the outgoing packets are. Assumes nothing.
use Rattle.std.specs.Prelude.{ℕ, ◌+◌, ◌-◌, ◌≤◌, ◌≡◌, Bool, List, length}
use Rattle.std.proofs.Common.{arith, length-append}
use Rattle.octets.specs.Octets.{part}
use Rattle.octets.specs.PartsLaws.{length_part}
use Rattle.octets.specs.NumbersLaws.{length-be}
use Rattle.packet.specs.Outgoing.{entry, header, init_packet, chunk_packet, done_packet, reply_packet}

pub length-entry : (from to packet : List ℕ) → length from ≡ 16 → length to ≡ 16 → length (entry from to packet) ≡ 34 + length packet
unfolding entry
length-entry from to packet f t = simp (length-append, length-be) (omega arith)

pub length-header : (id : List ℕ) (flags : ℕ) → length id ≡ 8 → length (header id flags) ≡ 12
unfolding header
length-header id flags e = simp length-append (omega arith)

pub length-init : (id topic : List ℕ) (reply : Bool) (size : ℕ) → length id ≡ 8 → length (init_packet id reply size topic) ≡ 21 + length topic
unfolding init_packet header
length-init id topic reply size e = simp (length-append, length-be) (omega arith)

pub length-chunk : (id bytes : List ℕ) (index offset : ℕ) → length id ≡ 8 → length (chunk_packet id index offset bytes) ≡ 36 + length bytes
unfolding chunk_packet header
length-chunk id bytes index offset e = simp (length-append, length-be) (omega arith)

pub length-done : (id sum : List ℕ) (count : ℕ) → length id ≡ 8 → length sum ≡ 32 → length (done_packet id count sum) ≡ 52
unfolding done_packet header
length-done id sum count e s = simp (length-append, length-be) (omega arith)

pub length-reply : (f : List ℕ) (n : ℕ) → 9 ≤ n → n ≤ length f → length (reply_packet n f) ≡ n
unfolding reply_packet
length-reply f n h k =
    let a : length (part f 0 8) ≡ 8 = length_part f 0 8 (omega arith) in
    let b : length (part f 9 (n - 9)) ≡ n - 9 = length_part f 9 (n - 9) (omega arith) in
    simp length-append (omega arith)
