-- Bytes behind those that a packet needs are not read: with them or without, the call answers the same and leaves the same. So nothing is lost where the
-- original is handed a frame filled up with zeros. Assumes nothing.
use Prim.Native.Nat.{ℕ, ◌+◌, ◌-◌, ◌≤◌, min}
use Rattle.std.proofs.Common.{arith, ◌∙◌}
use Rattle.std.specs.Prelude.{◌≡◌, Bool, true, cond, drop, replicate, eqb, leb}
use Rattle.std.proofs.Math.Path.{refl, sym, ap}
use mathlib.Core.List.{List, [], ◌∷◌, ◌++◌}
use Rattle.std.proofs.Math.ListN.{length, length-append, length-drop}
use Rattle.std.proofs.lemmas.List.{length-replicate, take-append-le, drop-append-le}
use Rattle.std.specs.Int.Bits.{bit_or}
use borrow.Author.Tests.{leb-true, le-leb}
use Rattle.octets.specs.Bools.{one}
use Rattle.octets.specs.BoolsLaws.{both, split}
use Rattle.octets.specs.Octets.{part, put}
use Rattle.answer.specs.Answers.{bare, accepted}
use Rattle.packet.specs.declared.header.Kind.{Kind}
use Rattle.packet.specs.declared.header.Kind.TheVariants.{Init, Chunk, Done, Read, Aborted, AckInit, AckChunk, AckDone, Nothing}
use Rattle.packet.specs.Frame.{has, reply_flag, ack_flag, kind_of, id_of, flags_of, number, init_topic_size, init_topic, chunk_size, piece, largest_piece}
use Rattle.packet.specs.Frame.{largest_frame, is_frame, needed, is_enough}
use Rattle.packet.specs.FieldsLaws.{header-needed}
use Rattle.packet.specs.Outgoing.{entry, reply_packet}
use Rattle.machine.specs.Codes.{role_receive, role_send, state_init, state_in_progress, state_received, state_read, bad_frame, short_frame, no_work}
use Rattle.machine.specs.Codes.{short_output}
use Rattle.machine.specs.Codes.{unsound_store, yes}
use Rattle.machine.specs.Values.{Store}
use Rattle.machine.specs.Layout.{encode, decode}
use Rattle.machine.specs.Sound.{sound}
use Rattle.machine.specs.Refusals.{Refusals, refusal, held_row}
use Rattle.machine.specs.Outcomes.{PacketOutcome}
use Rattle.machine.specs.Receive.{found, init_step, chunk_step, done_step, drop_step}
use Rattle.machine.specs.Send.{change, with_state, ack_piece}
use Rattle.machine.specs.Packet.{Packet, kind, is_kind, rules_row, place_row, chunk_row, done_row, state_row, ack_chunk_row, kind_row, recv_step, send_step}
use Rattle.machine.specs.Packet.{kind_out, kind_wake, packet_room, packet_row, packet_answer}

-- the packet with more bytes behind its frame
abbrev pub longer : Packet → List ℕ → Packet
longer p g = record { frame = p.frame ++ g; from = p.from; to = p.to; rules = p.rules; known = p.known }

-- ---- fields

module _ (f g : List ℕ) where
  part-longer : (o n : ℕ) → o + n ≤ length f → part (f ++ g) o n ≡ part f o n
  unfolding part
  part-longer o n h = rw (drop-append-le o f g (omega arith)) (take-append-le n (drop o f) g (omega (arith, length-drop o f)))

  number-longer : (o n : ℕ) → o + n ≤ length f → number (part (f ++ g) o n) ≡ number (part f o n)
  number-longer o n h = ap number (part-longer o n h)

  module _ (header : 12 ≤ length f) where
    id-longer : id_of (f ++ g) ≡ id_of f
    id-longer = part-longer 0 8 (omega arith)

    flags-longer : flags_of (f ++ g) ≡ flags_of f
    flags-longer = number-longer 8 1 (omega arith)

  needed-longer : (k : Kind) → needed k f ≤ length f → needed k (f ++ g) ≡ needed k f
  needed-longer Init h = ap (λ (n : ℕ). 21 + n) (number-longer 20 1 (omega arith))
  needed-longer Chunk h = ap (λ (n : ℕ). 36 + n) (number-longer 28 8 (omega arith))
  needed-longer Done h = refl
  needed-longer Read h = refl
  needed-longer Aborted h = refl
  needed-longer AckInit h = refl
  needed-longer AckChunk h = refl
  needed-longer AckDone h = refl
  needed-longer Nothing h = refl

  topic-longer : needed Init f ≤ length f → init_topic (f ++ g) ≡ init_topic f
  topic-longer h = ap (part (f ++ g) 21) (number-longer 20 1 (omega arith)) ∙ part-longer 21 (init_topic_size f) h

  size-longer : 36 ≤ length f → chunk_size (f ++ g) ≡ chunk_size f
  size-longer h = ap (λ (n : ℕ). min n largest_piece) (number-longer 28 8 (omega arith))

  piece-longer : needed Chunk f ≤ length f → piece (f ++ g) ≡ piece f
  piece-longer h = ap (part (f ++ g) 36) (size-longer (omega arith)) ∙ part-longer 36 (chunk_size f) (omega arith)

  reply-longer : (n : ℕ) → 12 ≤ length f → 9 ≤ n → n ≤ length f → reply_packet n (f ++ g) ≡ reply_packet n f
  unfolding reply_packet
  reply-longer n header low high i =
      id-longer header i ++ (bit_or (flags-longer header i) ack_flag ∷ []) ++ part-longer 9 (n - 9) (omega arith) i

-- ---- what a kind makes of it

module _ (p : Packet) (g : List ℕ) where
  abbrev f : List ℕ
  f = p.frame

  abbrev q : Packet
  q = longer p g

  module _ (header : 12 ≤ length f) where
    abbrev id : id_of (f ++ g) ≡ id_of f
    id = id-longer f g header

    abbrev flags : flags_of (f ++ g) ≡ flags_of f
    flags = flags-longer f g header

    row-longer : (k : Kind) (recv send : Store) → needed k f ≤ length f → kind_row k q recv send ≡ kind_row k p recv send
    unfolding kind_row
    row-longer Init recv send h =
        λ i. rules_row (has (flags i) reply_flag) p.from (topic-longer f g h i) p.rules
        ++ place_row (id i) (number-longer f g 12 8 (omega arith) i) recv (found (id i) recv.held)
    row-longer Chunk recv send h =
        λ i. chunk_row (number-longer f g 12 8 (omega arith) i) (number-longer f g 20 8 (omega arith) i) (size-longer f g (omega arith) i) recv
        (found (id i) recv.held)
    row-longer Done recv send h = λ i. done_row (number-longer f g 12 8 (omega arith) i) (part-longer f g 20 32 (omega arith) i) (yes p.known)
        (found (id i) recv.held)
    row-longer Read recv send h = λ i. state_row state_received (found (id i) send.held)
    row-longer Aborted recv send h = λ i. held_row (found (id i) recv.held)
    row-longer AckInit recv send h = λ i. state_row state_init (found (id i) send.held)
    row-longer AckChunk recv send h = λ i. ack_chunk_row (number-longer f g 12 8 (omega arith) i) (found (id i) send.held)
    row-longer AckDone recv send h = λ i. state_row state_in_progress (found (id i) send.held)
    row-longer Nothing recv send h = refl

    recv-longer : (k : Kind) (s : Store) → needed k f ≤ length f → recv_step k q s ≡ recv_step k p s
    unfolding recv_step
    recv-longer Init s h =
        λ i. init_step
        (record {
          id = id i;
          source = p.from;
          destination = p.to;
          reply = one (has (flags i) reply_flag);
          total = number-longer f g 12 8 (omega arith) i;
          topic = topic-longer f g h i;
        })
        s
    recv-longer Chunk s h = λ i. chunk_step (id i) (number-longer f g 12 8 (omega arith) i) (piece-longer f g h i) s
    recv-longer Done s h = λ i. done_step (id i) s
    recv-longer Read s h = refl
    recv-longer Aborted s h = λ i. drop_step (id i) s
    recv-longer AckInit s h = refl
    recv-longer AckChunk s h = refl
    recv-longer AckDone s h = refl
    recv-longer Nothing s h = refl

    send-longer : (k : Kind) (s : Store) → needed k f ≤ length f → send_step k q s ≡ send_step k p s
    unfolding send_step
    send-longer Init s h = refl
    send-longer Chunk s h = refl
    send-longer Done s h = refl
    send-longer Read s h = λ i. change (with_state state_read) (id i) s
    send-longer Aborted s h = refl
    send-longer AckInit s h = λ i. change (with_state state_in_progress) (id i) s
    send-longer AckChunk s h = λ i. change (ack_piece (number-longer f g 12 8 (omega arith) i)) (id i) s
    send-longer AckDone s h = λ i. change (with_state state_received) (id i) s
    send-longer Nothing s h = refl

    out-longer : (k : Kind) → needed k f ≤ length f → kind_out k q ≡ kind_out k p
    out-longer Init h = λ i. entry p.to p.from (reply-longer f g 21 header (omega arith) (omega arith) i)
    out-longer Chunk h = λ i. entry p.to p.from (reply-longer f g 36 header (omega arith) (omega arith) i)
    out-longer Done h = λ i. entry p.to p.from (reply-longer f g 52 header (omega arith) (omega arith) i)
    out-longer Read h = refl
    out-longer Aborted h = refl
    out-longer AckInit h = refl
    out-longer AckChunk h = refl
    out-longer AckDone h = refl
    out-longer Nothing h = refl

-- ---- the call

module _ (p : Packet) (g recv send out : List ℕ) where
  -- what a call leaves, by what its packet gives: the tests of its frame, its kind, the kind's row and steps, and its reply
  abbrev leaves : Bool → Bool → Kind → Refusals → Store → Store → List ℕ → PacketOutcome
  leaves framed enough k row r s run =
      let front : Refusals =
      (sound role_receive recv, unsound_store) ∷ (sound role_send send, unsound_store) ∷ (framed, bad_frame) ∷ (enough, short_frame) ∷ (is_kind k, no_work)
      ∷ (leb packet_room (length out), short_output) ∷ [] in
      let n : ℕ = refusal (front ++ row) in
      cond (eqb n 0)
      (record { answer = accepted (length run) (kind_wake k); recv = encode r; send = encode s; out = put out 0 run })
      (record { answer = bare n; recv = recv; send = send; out = out })

  pub behind-unread : is_enough (kind p) p.frame ≡ true → is_frame (p.frame ++ g) ≡ true
      → packet_answer (longer p g) recv send out ≡ packet_answer p recv send out
  unfolding packet_row
  behind-unread e w =
      let f : List ℕ = p.frame in
      let k : Kind = kind p in
      let R : Store = decode recv in
      let S : Store = decode send in
      let h : needed k f ≤ length f = leb-true (needed k f) (length f) e in
      let least : 12 ≤ length f = omega (arith, h, header-needed k f) in
      let most = leb-true (length (f ++ g)) largest_frame (split (leb 1 (length (f ++ g))) (leb (length (f ++ g)) largest_frame) w).1 in
      let more = length-append f g in
      let kinds : kind (longer p g) ≡ k = ap kind_of (flags-longer f g least) in
      let framed : is_frame (f ++ g) ≡ is_frame f =
      w ∙ sym (both (leb 1 (length f)) (leb (length f) largest_frame) (le-leb 1 (length f) (omega (arith, least)))
      (le-leb (length f) largest_frame (omega (arith, most, more)))) in
      let enough : is_enough k (f ++ g) ≡ is_enough k f =
      le-leb (needed k (f ++ g)) (length (f ++ g)) (omega (arith, needed-longer f g k h, h, more)) ∙ sym e in
      (λ i. let j = kinds i in
      leaves (is_frame (f ++ g)) (is_enough j (f ++ g)) j (kind_row j (longer p g) R S) (recv_step j (longer p g) R) (send_step j (longer p g) S)
      (kind_out j (longer p g)))
      ∙ (λ i. leaves (framed i) (enough i) k (row-longer p g least k R S h i) (recv-longer p g least k R h i) (send-longer p g least k S h i)
      (out-longer p g least k h i))

  -- filled up with zeros
  pub filled-same : is_frame p.frame ≡ true → is_enough (kind p) p.frame ≡ true → g ≡ replicate (largest_frame - length p.frame) 0
      → packet_answer (longer p g) recv send out ≡ packet_answer p recv send out
  filled-same w e z =
      let f : List ℕ = p.frame in
      let s = split (leb 1 (length f)) (leb (length f) largest_frame) w in
      let least = leb-true 1 (length f) s.0 in
      let most = leb-true (length f) largest_frame s.1 in
      let n = length-append f g in
      let m : length g ≡ largest_frame - length f = ap length z ∙ length-replicate (largest_frame - length f) 0 in
      behind-unread e
      (both (leb 1 (length (f ++ g))) (leb (length (f ++ g)) largest_frame) (le-leb 1 (length (f ++ g)) (omega (arith, least, n)))
      (le-leb (length (f ++ g)) largest_frame (omega (arith, least, most, n, m))))
