-- The writers' calls, one behind the other, make the packet. In each law run is the buffer at entry and r1, r2, .. what it is after each call.
-- Assumes nothing.
use Rattle.std.specs.Prelude.{ℕ, ◌+◌, ◌-◌, ◌<◌, ◌≤◌, ◌≡◌, refl, Bool, cond, List, [], ◌∷◌, ◌++◌, length, take, drop, get_or, bit_or}
use Rattle.std.proofs.Common.{arith, sym, ap, ◌∙◌, add-one, append_assoc, length-append}
use Rattle.std.proofs.Math.ListN.{set}
use Rattle.std.proofs.lemmas.Grind.{common_steps}
use Rattle.std.proofs.lemmas.List.{set-append_left, set-append_right, set_split, length-take-le, length-set, length-take, get_or-take, take-take, drop-take}
use Rattle.octets.specs.Octets.{part, put, be}
use Rattle.octets.specs.NumbersLaws.{length-be}
use Rattle.octets.specs.WrittenLaws.{wrote, then}
use Rattle.packet.specs.Frame.{init_flag, reply_flag, chunk_flag, done_flag, ack_flag}
use Rattle.packet.specs.Outgoing.{entry, header, init_packet, chunk_packet, done_packet, reply_packet}
use Rattle.packet.specs.Room.{Room}
use Rattle.packet.specs.FieldsLaws.{byte-is}
use Rattle.packet.specs.LengthsLaws.{length-header, length-init, length-chunk, length-done, length-reply}

module _ (run : List ℕ) (a : ℕ) where
  pub header_is : (r1 l id : List ℕ) (flags : ℕ) → length id ≡ 8 → a + 12 ≤ length run
      → r1 ≡ put run a id → l ≡ put r1 (a + 8) (flags ∷ 0 ∷ 0 ∷ 0 ∷ []) → l ≡ put run a (header id flags)
  unfolding header
  header_is r1 l id flags n h e f = (then (flags ∷ 0 ∷ 0 ∷ 0 ∷ []) 4 (wrote e n (omega arith)) f refl (omega arith)).is

  pub init_is : (r1 r2 r3 l id topic : List ℕ) (reply : Bool) (flags size : ℕ) → length id ≡ 8 → a + 21 + length topic ≤ length run
      → flags ≡ cond reply (init_flag + reply_flag) init_flag
      → r1 ≡ put run a (header id flags) → r2 ≡ put r1 (a + 12) (be 8 size) → r3 ≡ put r2 (a + 20) (length topic ∷ []) → l ≡ put r3 (a + 21) topic
      → l ≡ put run a (init_packet id reply size topic)
  unfolding init_packet
  init_is r1 r2 r3 l id topic reply flags size n h g e1 e2 e3 e4 =
      (then topic (length topic)
      (then (length topic ∷ []) 1
      (then (be 8 size) 8 (wrote (e1 ∙ ap (λ (f : ℕ). put run a (header id f)) g) (length-header id _ n) (omega arith))
      e2 (length-be 8 size) (omega arith))
      e3 refl (omega arith))
      e4 refl (omega arith)).is

  pub chunk_is : (r1 r2 r3 r4 l id bytes : List ℕ) (index offset : ℕ) → length id ≡ 8 → a + 36 + length bytes ≤ length run
      → r1 ≡ put run a (header id chunk_flag) → r2 ≡ put r1 (a + 12) (be 8 index) → r3 ≡ put r2 (a + 20) (be 8 offset)
      → r4 ≡ put r3 (a + 28) (be 8 (length bytes)) → l ≡ put r4 (a + 36) bytes → l ≡ put run a (chunk_packet id index offset bytes)
  unfolding chunk_packet
  chunk_is r1 r2 r3 r4 l id bytes index offset n h e1 e2 e3 e4 e5 =
      (then bytes (length bytes)
      (then (be 8 (length bytes)) 8
      (then (be 8 offset) 8
      (then (be 8 index) 8 (wrote e1 (length-header id chunk_flag n) (omega arith))
      e2 (length-be 8 index) (omega arith))
      e3 (length-be 8 offset) (omega arith))
      e4 (length-be 8 (length bytes)) (omega arith))
      e5 refl (omega arith)).is

  pub done_is : (r1 r2 l id sum : List ℕ) (count : ℕ) → length id ≡ 8 → length sum ≡ 32 → a + 52 ≤ length run
      → r1 ≡ put run a (header id done_flag) → r2 ≡ put r1 (a + 12) (be 8 count) → l ≡ put r2 (a + 20) sum → l ≡ put run a (done_packet id count sum)
  unfolding done_packet
  done_is r1 r2 l id sum count n s h e1 e2 e3 =
      (then sum 32
      (then (be 8 count) 8 (wrote e1 (length-header id done_flag n) (omega arith)) e2 (length-be 8 count) (omega arith))
      e3 s (omega arith)).is

  pub front_is : (r1 r2 l from to : List ℕ) (n : ℕ) → Room run a from to n
      → r1 ≡ put run a (be 2 n) → r2 ≡ put r1 (a + 2) from → l ≡ put r2 (a + 18) to → l ≡ put run a (be 2 n ++ from ++ to)
  front_is r1 r2 l from to n r e1 e2 e3 =
      (then to 16 (then from 16 (wrote e1 (length-be 2 n) (omega arith)) e2 r.source (omega arith)) e3 r.target (omega arith)).is

  -- the front for n bytes, and a packet of n bytes behind it
  pub entry_is : (m l from to packet : List ℕ) (n : ℕ) → Room run a from to n → length packet ≡ n
      → m ≡ put run a (be 2 n ++ from ++ to) → l ≡ put m (a + 34) packet → l ≡ put run a (entry from to packet)
  unfolding entry
  entry_is m l from to packet n r s e1 e2 =
      (then packet n
      (wrote {n = 34} (e1 ∙ ap (λ (k : ℕ). put run a (be 2 k ++ from ++ to)) (sym s)) (simp (length-append, length-be) (omega arith)) (omega arith))
      e2 s (omega arith)).is

-- a byte of what was written, set afterwards: as if it had been written so
module _ (b : List ℕ) (o : ℕ) (v : List ℕ) (h : o ≤ length b) (j : ℕ) (k : j < length v) where
  set_put : (x : ℕ) → set (put b o v) (o + j) x ≡ put b o (set v j x)
  unfolding put
  set_put x =
      let n : length (take o b) ≡ o = length-take-le o b h in
      let d : o + j - o ≡ j = omega arith in
      set-append_left (take o b ++ v) (drop (o + length v) b) (o + j) x (simp length-append (omega arith))
      ∙ rw (set-append_right (take o b) v o (o + j) x n (omega arith), d, length-set) refl

  get_or-put : get_or (put b o v) (o + j) 0 ≡ get_or v j 0
  unfolding put
  get_or-put = grind (arith, common_steps)

-- the first n bytes with the one at j set
set-part : (f : List ℕ) (n j x : ℕ) → j < n → n ≤ length f → set (take n f) j x ≡ part f 0 j ++ (x ∷ []) ++ part f (j + 1) (n - (j + 1))
unfolding part
set-part f n j x h k =
    let q : n ≡ j + 1 + (n - (j + 1)) = omega arith in
    let d : drop (j + 1) (take n f) ≡ take (n - (j + 1)) (drop (j + 1) f) = ap (λ (i : ℕ). drop (j + 1) (take i f)) q ∙ drop-take (j + 1) (n - (j + 1)) f in
    set_split (take n f) j x (simp length-take (omega arith)) ∙ rw (take-take j n f (omega arith), ← add-one, d) (sym (append_assoc (take j f) (x ∷ []) _))

-- the frame's first n bytes, and then the ack flag is set
pub reply_is : (m l f : List ℕ) (a n : ℕ) → 9 ≤ n → n ≤ length f → a ≤ length m → l ≡ put m a (take n f)
    → set l (a + 8) (bit_or (get_or l (a + 8) 0) ack_flag) ≡ put m a (reply_packet n f)
unfolding reply_packet
reply_is m l f a n h k q e =
    let s : 8 < length (take n f) = simp length-take (omega arith) in
    let byte = get_or-take n f 8 0 (omega arith) in
    rw (e, set_put m a (take n f) q 8 s, get_or-put m a (take n f) q 8 s, byte, byte-is f 8 (omega arith), set-part f n 8 _ h k) refl

-- what a run is written by
pub ruleset entries = (front_is, entry_is, reply_is, length-header, length-init, length-chunk, length-done, length-reply)
