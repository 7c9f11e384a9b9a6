-- What a packet is answered with: an acknowledgement with nothing, any other with one acknowledgement at most. Assumes nothing.
use Prim.Native.Nat.{ℕ, ◌+◌, ◌-◌, ◌*◌, ◌%◌, ◌≤◌}
use native.Mathlib.Omega.{arith}
use Rattle.std.specs.Prelude.{◌≡◌, refl, Bool, true, not, get_or, take, replicate, eqb}
use Rattle.std.proofs.Math.Path.{ap}
use Rattle.std.proofs.Common.{◌∙◌, take_at, ne_eqb, eqb-true, leb-true}
use Rattle.std.proofs.Math.Bool.{cond}
use mathlib.Core.List.{List, [], ◌∷◌, ◌++◌}
use Rattle.std.proofs.Math.ListN.{length, drop, length-append, get_or-append}
use Rattle.std.proofs.lemmas.List.{length-replicate}
use Rattle.std.proofs.Math.Seq.{drop_at, get_or_at}
use Rattle.std.specs.Int.Bits.{bit_and, bit_or, or_step}
use Rattle.std.proofs.lemmas.Nat.{and_mask}
use Rattle.octets.specs.BoolsLaws.{cases}
use Rattle.octets.specs.Lists.{All}
use Rattle.octets.specs.Octets.{part, put, be, num, capacity}
use Rattle.octets.specs.NumbersLaws.{length-be, num-append, num-be}
use Rattle.octets.specs.PartsLaws.{length_part, length-part-le, length-put}
use Rattle.packet.specs.declared.header.Kind.{Kind}
use Rattle.packet.specs.declared.header.Kind.TheVariants.{Init, Chunk, Done, Read, Aborted, AckInit, AckChunk, AckDone, Nothing}
use Rattle.packet.specs.Frame.{has, ack_flag, init_flag, chunk_flag, done_flag, ack_kind, kind_of, flags_of, id_of, needed}
use Rattle.packet.specs.FieldsLaws.{byte-is}
use Rattle.packet.specs.Outgoing.{entry, reply_packet}
use Rattle.machine.specs.Layout.{decode}
use Rattle.machine.specs.Refusals.{refusal}
use Rattle.machine.specs.Packet.{Packet, kind, reply_bytes, replied, kind_out, kind_row, arrival, packet_front, packet_row, packet_at, packet_of, packet_room}
use Rattle.machine_steps.proofs.Refusals.{refusal-front}
use Rattle.machine_steps.proofs.Frames.{reply-came}
use Rattle.link.specs.Entries.{filled, entry_end, entries_of, from_of, to_of, frame_of}
use Rattle.link.specs.EntriesLaws.{entries-one, entries_none}
use Rattle.link.specs.Stored.{stored}
use Rattle.link.specs.StoredLaws.{stored-length}
use Rattle.lesson.specs.Room.{Node, open_rules, known_key, arrived, reply_of}
use Rattle.lesson.specs.Steps.{asks}

-- a run of k packets at most, all acknowledgements, of 88 bytes in the buffer at most
pub record Answered (k : ℕ) (run : List ℕ) : Type 0 where
  pub count : length (entries_of run) ≤ k
  pub acks : All (λ e. asks e ≡ 0) (entries_of run)
  pub bytes : length (stored (entries_of run)) ≤ 88 * k

of-entries : (k : ℕ) (run : List ℕ) (es : List (List ℕ)) → entries_of run ≡ es → length es ≤ k → All (λ e. asks e ≡ 0) es → length (stored es) ≤ 88 * k
    → Answered k run
of-entries k run es e h a b = record { count = rw e h; acks = rw e a; bytes = rw e b }

none : (k : ℕ) → Answered k []
unfolding stored
none k = of-entries k [] [] (entries_none [] refl) (omega arith) tt (omega arith)

-- ---- one reply

length-filled : (n : ℕ) (l : List ℕ) → length l ≤ n → length (filled n l) ≡ n
length-filled n l h = length-put (replicate n 0) 0 l (omega (arith, length-replicate {A = ℕ} n 0)) ∙ length-replicate n 0

-- a flag byte with the acknowledgement's bit
ack-set : (f : ℕ) → has (bit_or f ack_flag) ack_flag ≡ true
ack-set f =
    ap not (ne_eqb (bit_and (bit_or f 1) 1) 0 (λ z. omega (arith, z, and_mask (bit_or f 1) 1, odd f)))
  where
    odd : (f : ℕ) → bit_or f 1 % 2 ≡ 1
    odd f = let b = or_step f 1 in omega arith

module _ (to from f : List ℕ) (n : ℕ) (ht : length to ≡ 16) (hf : length from ≡ 16) (hn : n ≤ length f) (low : 9 ≤ n) (high : n ≤ 52) where
  length-reply : length (reply_packet n f) ≡ n
  unfolding reply_packet
  length-reply =
      omega (
        arith,
        length-append (id_of f ++ (bit_or (flags_of f) ack_flag ∷ [])) (part f 9 (n - 9)),
        length-append (id_of f) (bit_or (flags_of f) ack_flag ∷ []),
        length_part f 0 8 (omega (arith, hn)),
        length_part f 9 (n - 9) (omega (arith, hn)),
      )

  reply-flags : get_or (reply_packet n f) 8 0 ≡ bit_or (flags_of f) ack_flag
  unfolding reply_packet
  reply-flags =
      get_or-append (id_of f ++ (bit_or (flags_of f) ack_flag ∷ [])) (part f 9 (n - 9)) 0 8
      (omega (arith, length-append (id_of f) (bit_or (flags_of f) ack_flag ∷ []), length_part f 0 8 (omega (arith, hn))))
      ∙ get_or_at (id_of f) (bit_or (flags_of f) ack_flag) [] 0 8 (length_part f 0 8 (omega (arith, hn)))

  length-head : length (be 2 (length (reply_packet n f)) ++ to ++ from) ≡ 34
  length-head =
      omega (
        arith,
        length-append (be 2 (length (reply_packet n f)) ++ to) from,
        length-append (be 2 (length (reply_packet n f))) to,
        length-be 2 (length (reply_packet n f)),
      )

  length-entry : length (entry to from (reply_packet n f)) ≡ 34 + n
  unfolding entry
  length-entry = omega (arith, length-append (be 2 (length (reply_packet n f)) ++ to ++ from) (reply_packet n f), length-head, length-reply)

  entry-ends : entry_end (entry to from (reply_packet n f)) ≡ length (entry to from (reply_packet n f))
  unfolding entry_end entry capacity
  entry-ends =
      let size : List ℕ = be 2 (length (reply_packet n f)) in
      let read : num 2 (size ++ to ++ from ++ reply_packet n f) ≡ length (reply_packet n f) = num-append 2 (size ++ to ++ from) (reply_packet n f)
      (omega (arith, length-head))
      ∙ num-append 2 (size ++ to) from (omega (arith, length-append size to, length-be 2 (length (reply_packet n f))))
      ∙ num-append 2 size to (omega (arith, length-be 2 (length (reply_packet n f))))
      ∙ num-be 2 (length (reply_packet n f)) (omega (arith, length-reply)) in
      omega (arith, read, length-append (size ++ to ++ from) (reply_packet n f), length-head)

  reply-asks : asks (entry to from (reply_packet n f)) ≡ 0
  unfolding entry
  reply-asks =
      let p : List ℕ = reply_packet n f in
      let here : drop 34 (be 2 (length p) ++ to ++ from ++ p) ≡ p = drop_at (be 2 (length p) ++ to ++ from) p 34 length-head in
      let flags : flags_of p ≡ bit_or (flags_of f) ack_flag = byte-is p 8 (omega (arith, length-reply)) ∙ reply-flags in
      ap (λ (b : Bool). cond b 0 1) (ap (λ (l : List ℕ). has (flags_of l) ack_flag) here ∙ ap (λ (x : ℕ). has x ack_flag) flags ∙ ack-set (flags_of f))

  one : Answered 1 (entry to from (reply_packet n f))
  unfolding stored
  one =
      let e : List ℕ = entry to from (reply_packet n f) in
      of-entries 1 e (e ∷ []) (entries-one e (omega (arith, length-entry)) entry-ends) (omega arith) (reply-asks, tt)
      (omega (arith, stored-length e [], length-entry))

-- ---- a packet's run

-- addresses are whole, and the bytes that its reply keeps came
pub record Whole (k : Kind) (p : Packet) : Type 0 where
  pub to : length p.to ≡ 16
  pub from : length p.from ≡ 16
  pub frame : reply_bytes k ≤ length p.frame

by_kind : (k : Kind) (p : Packet) → Whole k p → Answered 1 (kind_out k p)
by_kind Init p w = one p.to p.from p.frame 21 w.to w.from w.frame (omega arith) (omega arith)
by_kind Chunk p w = one p.to p.from p.frame 36 w.to w.from w.frame (omega arith) (omega arith)
by_kind Done p w = one p.to p.from p.frame 52 w.to w.from w.frame (omega arith) (omega arith)
by_kind Read p w = none 1
by_kind Aborted p w = none 1
by_kind AckInit p w = none 1
by_kind AckChunk p w = none 1
by_kind AckDone p w = none 1
by_kind Nothing p w = none 1

-- an acknowledgement has no reply
ack-silent : (f : ℕ) → reply_bytes (ack_kind f) ≡ 0
ack-silent f =
    cases (has f init_flag) (λ a. rw a refl)
    (λ a. rw a (cases (has f chunk_flag) (λ b. rw b refl) (λ b. rw b (cases (has f done_flag) (λ c. rw c refl) (λ c. rw c refl)))))

by_flags : (p : Packet) → Whole (kind p) p → Answered (cond (has (flags_of p.frame) ack_flag) 0 1) (kind_out (kind p) p)
unfolding kind_of
by_flags p w =
    cases (has (flags_of p.frame) ack_flag)
    (λ a.
    rw a
    (let silent : kind_out (ack_kind (flags_of p.frame)) p ≡ [] = ap (λ (n : ℕ). cond (eqb n 0) [] (replied n p)) (ack-silent (flags_of p.frame))
    in rw silent (none 0)))
    (λ a. let h = by_kind (kind p) p w in rw a (rw a at h))

at-start : (b v : List ℕ) → take (length v) (put b 0 v) ≡ v
unfolding put
at-start b v = take_at v (drop (0 + length v) b) (length v) refl

by_number : (m k : ℕ) (p : Packet) (recv send out : List ℕ) → (m ≡ 0 → Answered k (kind_out (kind p) p))
    → Answered k (reply_of (packet_at m p recv send out))
by_number m k p recv send out h = cases (eqb m 0) (λ e. rw (e, at-start out (kind_out (kind p) p)) (h (eqb-true m 0 e))) (λ e. rw e (none k))

-- a packet that is not refused has all that its kind needs, so the bytes of its reply
kept-came : (p : Packet) (recv send out : List ℕ) → refusal (packet_row p recv send out) ≡ 0 → reply_bytes (kind p) ≤ length p.frame
unfolding packet_row
kept-came p recv send out e =
    let f = p.frame in
    let clear = (refusal-front (packet_front p recv send out) (kind_row (kind p) p (decode recv) (decode send)) refl e).0 in
    omega (arith, reply-came (kind p) f, leb-true (needed (kind p) f) (length f) clear.1.1.1.0)

pub answered : (n : Node) (e : List ℕ) → Answered (asks e) (reply_of (arrived n e))
unfolding arrived packet_of
answered n e =
    let p : Packet = arrival (frame_of e) (from_of e) (to_of e) open_rules known_key in
    let out : List ℕ = replicate packet_room 0 in
    by_number (refusal (packet_row p n.recv n.send out)) (asks e) p n.recv n.send out
    (λ z. by_flags p
    (record {
      to = length-filled 16 (part e 18 16) (length-part-le e 18 16);
      from = length-filled 16 (part e 2 16) (length-part-le e 2 16);
      frame = kept-came p n.recv n.send out z;
    }))
