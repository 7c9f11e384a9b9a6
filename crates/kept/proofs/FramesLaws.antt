-- The packets of a survey, as an office reads them: what was written is read back, so that each is refused and taken as its fields say.
-- Assumes nothing.
use Rattle.std.specs.Prelude.{ℕ, ◌+◌, ◌≤◌, ◌<◌, ◌≡◌, Bool, cond, List, [], ◌∷◌, ◌++◌, get_or, replicate, leb}
use Rattle.std.proofs.Common.{arith, ◌∙◌, append_assoc, append-nil, le-leb}
use Rattle.std.proofs.Math.Path.{refl, ap}
use Rattle.std.proofs.Math.Bool.{true, false}
use Rattle.std.proofs.Math.ListN.{length}
use Rattle.octets.specs.Octets.{part, be, num, capacity, Bytes}
use Rattle.octets.specs.Bools.{one}
use Rattle.octets.specs.Lists.{All}
use Rattle.octets.specs.ListsLaws.{◌&◌}
use Rattle.octets.specs.BoolsLaws.{both}
use Rattle.octets.specs.NumbersLaws.{length-be, bytes-be, num-be}
use Rattle.packet.specs.declared.header.Kind.{Kind}
use Rattle.packet.specs.declared.header.Kind.TheVariants.{Init, Chunk, Done}
use Rattle.packet.specs.Frame.{init_flag, chunk_flag, done_flag, reply_flag, has, kind_of, number, flags_of, init_topic_size, init_topic, chunk_size_field}
use Rattle.packet.specs.Frame.{largest_piece, chunk_size, piece, sum_size, largest_frame, needed}
use Rattle.packet.specs.Outgoing.{header, init_packet, chunk_packet, done_packet}
use Rattle.packet.specs.LengthsLaws.{length-init, length-chunk, length-done}
use Rattle.machine.specs.Values.{Store}
use Rattle.machine.specs.Layout.{number_limit}
use Rattle.machine.specs.Rows.{join}
use Rattle.machine.specs.Refusals.{Refusals}
use Rattle.machine.specs.Receive.{found, init_step, chunk_step, done_step}
use Rattle.machine.specs.Packet.{Packet, kind, is_reply, is_kind, rules_row, place_row, chunk_row, done_row, kind_row, recv_step, send_step}
use Rattle.machine.specs.Typed.{Exactly}
use Rattle.machine_laws.specs.Fields.{Fit, start, field_at, bytes-nil, bytes-cons, bytes-zeros, bytes-append, bytes-join}
use Rattle.ledger.proofs.PacketsLaws.{Full}
use Rattle.kept.specs.Survey.{Sender, Open, heard, label_of}

-- what a packet is to a receive store: its row of refusals and its step; and it leaves the send store as it is
pub record Acts (p : Packet) (row : Store → Refusals) (step : Store → Store) : Type 0 where
  pub full : Full p
  pub asks : (recv send : Store) → kind_row (kind p) p recv send ≡ row recv
  pub makes : (recv : Store) → recv_step (kind p) p recv ≡ step recv
  pub leaves : (send : Store) → send_step (kind p) p send ≡ send

-- ---- numbers and bytes

-- a number that was written is read
number-be : (l : List ℕ) (n : ℕ) → n < number_limit → l ≡ be 8 n → number l ≡ n
number-be l n h e = ap number e ∙ ap (λ (k : ℕ). num k (be 8 n)) (length-be 8 n) ∙ num-be 8 n h

number-byte : (l : List ℕ) (n : ℕ) → l ≡ n ∷ [] → number l ≡ n
unfolding num
number-byte l n e = ap number e ∙ omega arith

bytes_one : (n : ℕ) → n < 256 → Bytes (n ∷ [])
bytes_one n h = bytes-cons n [] h bytes-nil

-- ---- a frame: a header, then the fields of its kind

module _ (t : Sender) (o : Open t) where
  abbrev fields : ℕ → List (List ℕ) → List (List ℕ)
  fields flags body = t.id ∷ (flags ∷ []) ∷ replicate 3 0 ∷ body

  abbrev widths : List ℕ → List ℕ
  widths ws = 8 ∷ 1 ∷ 3 ∷ ws

  record Framed (flags : ℕ) (body : List (List ℕ)) (ws frame : List ℕ) : Type 0 where
    joins : frame ≡ join (fields flags body) ++ []
    fit : Fit body ws

  module _ {flags : ℕ} {body : List (List ℕ)} {ws frame : List ℕ} (f : Framed flags body ws frame) where
    -- each field is read where it starts
    at : (i : ℕ) → part frame (start (widths ws) i) (get_or (widths ws) i 0) ≡ get_or (fields flags body) i []
    at i = rw f.joins (field_at (fields flags body) (widths ws) [] i (o.id.0 & refl & refl & f.fit))

    flags-at : flags_of frame ≡ flags
    flags-at = number-byte (part frame 8 1) flags (at 1)

    kind_at : (k : Kind) → kind_of flags ≡ k → kind (heard t frame) ≡ k
    kind_at k q = ap kind_of flags-at ∙ q

    -- it came whole
    whole-frame : (k : Kind) → kind_of flags ≡ k → is_kind k ≡ true → flags < 256 → All Bytes body → 1 ≤ length frame → length frame ≤ largest_frame
        → needed k frame ≤ length frame → Full (heard t frame)
    whole-frame k q some small y low high n = record {
      typed = record {
        frame = rw f.joins
            (bytes-append (join (fields flags body)) [] (bytes-join (fields flags body) (o.id.1 & bytes_one flags small & bytes-zeros 3 & y)) bytes-nil);
        from = o.from;
        to = o.to;
      };
      long = both (leb 1 (length frame)) (leb (length frame) largest_frame) (le-leb 1 (length frame) low) (le-leb (length frame) largest_frame high);
      enough = rw (kind_at k q) (le-leb (needed k frame) (length frame) n);
      kinded = rw (kind_at k q) some;
    }

  -- ---- an init

  module _ (total : ℕ) (h : total < number_limit) where
    abbrev init_frame : List ℕ
    init_frame = init_packet t.id t.reply total t.topic

    abbrev init_flags : Bool → ℕ
    init_flags reply = cond reply (init_flag + reply_flag) init_flag

    init-framed : Framed (init_flags t.reply) (be 8 total ∷ (length t.topic ∷ []) ∷ t.topic ∷ []) (8 ∷ 1 ∷ length t.topic ∷ []) init_frame
    unfolding init_packet header
    init-framed = record { joins = simp (append_assoc, append-nil); fit = length-be 8 total & refl & refl & tt }

    -- with or without the reply flag it is an init
    flags-init : (reply : Bool) → (kind_of (init_flags reply) ≡ Init) × (has (init_flags reply) reply_flag ≡ reply) × (init_flags reply < 256)
    unfolding kind_of
    flags-init true = (refl, refl, omega arith)
    flags-init false = (refl, refl, omega arith)

    init-kind : kind (heard t init_frame) ≡ Init
    init-kind = kind_at init-framed Init (flags-init t.reply).0

    topic-size : init_topic_size init_frame ≡ length t.topic
    topic-size = number-byte (part init_frame 20 1) (length t.topic) (at init-framed 4)

    init-full : Full (heard t init_frame)
    init-full =
        let l : length init_frame ≡ 21 + length t.topic = length-init t.id t.topic t.reply total o.id.0 in
        let m = o.topic.0 in
        whole-frame init-framed Init (flags-init t.reply).0 refl (flags-init t.reply).2
        (bytes-be 8 total & bytes_one (length t.topic) (omega arith) & o.topic.1 & tt) (omega arith) (omega arith) (omega (arith, topic-size))

    pub init-acts : Acts (heard t init_frame)
        (λ s. rules_row t.reply t.from t.topic t.rules ++ place_row t.id total s (found t.id s.held)) (init_step (label_of t total))
    unfolding kind_row recv_step send_step
    init-acts =
        let id-at = at init-framed 0 in
        let reply-at : is_reply (heard t init_frame) ≡ t.reply = ap (λ (f : ℕ). has f reply_flag) (flags-at init-framed) ∙ (flags-init t.reply).1 in
        let total-at = number-be (part init_frame 12 8) total h (at init-framed 3) in
        let topic-at : init_topic init_frame ≡ t.topic = ap (part init_frame 21) topic-size ∙ at init-framed 5 in
        record {
          full = init-full;
          asks = λ recv send.
              ap (λ (k : Kind). kind_row k (heard t init_frame) recv send) init-kind
              ∙ (λ j. rules_row (reply-at j) t.from (topic-at j) t.rules ++ place_row (id-at j) (total-at j) recv (found (id-at j) recv.held));
          makes = λ recv.
              ap (λ (k : Kind). recv_step k (heard t init_frame) recv) init-kind
              ∙ (λ j. init_step
              (record {
                id = id-at j;
                source = t.from;
                destination = t.to;
                reply = one (reply-at j);
                total = total-at j;
                topic = topic-at j;
              }) recv);
          leaves = λ send. ap (λ (k : Kind). send_step k (heard t init_frame) send) init-kind;
        }

  -- ---- a chunk

  module _ (index offset : ℕ) (b : List ℕ) (h : index < number_limit) (g : offset < number_limit) (y : Bytes b) (n : length b ≤ largest_piece) where
    abbrev chunk_frame : List ℕ
    chunk_frame = chunk_packet t.id index offset b

    chunk-framed : Framed chunk_flag (be 8 index ∷ be 8 offset ∷ be 8 (length b) ∷ b ∷ []) (8 ∷ 8 ∷ 8 ∷ length b ∷ []) chunk_frame
    unfolding chunk_packet header
    chunk-framed = record {
      joins = simp (append_assoc, append-nil);
      fit = length-be 8 index & length-be 8 offset & length-be 8 (length b) & refl & tt;
    }

    chunk-kind : kind (heard t chunk_frame) ≡ Chunk
    unfolding kind_of
    chunk-kind = kind_at chunk-framed Chunk refl

    size-at : chunk_size_field chunk_frame ≡ length b
    unfolding capacity
    size-at = number-be (part chunk_frame 28 8) (length b) (omega arith) (at chunk-framed 5)

    chunk-full : Full (heard t chunk_frame)
    unfolding kind_of
    chunk-full =
        let l : length chunk_frame ≡ 36 + length b = length-chunk t.id b index offset o.id.0 in
        whole-frame chunk-framed Chunk refl refl (omega arith) (bytes-be 8 index & bytes-be 8 offset & bytes-be 8 (length b) & y & tt) (omega arith)
        (omega arith) (omega (arith, size-at))

    pub chunk-acts : Acts (heard t chunk_frame) (λ s. chunk_row index offset (length b) s (found t.id s.held)) (chunk_step t.id index b)
    unfolding kind_row recv_step send_step
    chunk-acts =
        let id-at = at chunk-framed 0 in
        let index_at = number-be (part chunk_frame 12 8) index h (at chunk-framed 3) in
        let offset_at = number-be (part chunk_frame 20 8) offset g (at chunk-framed 4) in
        let piece-size : chunk_size chunk_frame ≡ length b = omega (arith, size-at) in
        let piece-at : piece chunk_frame ≡ b = ap (part chunk_frame 36) piece-size ∙ at chunk-framed 6 in
        record {
          full = chunk-full;
          asks = λ recv send.
              ap (λ (k : Kind). kind_row k (heard t chunk_frame) recv send) chunk-kind
              ∙ (λ j. chunk_row (index_at j) (offset_at j) (piece-size j) recv (found (id-at j) recv.held));
          makes = λ recv.
              ap (λ (k : Kind). recv_step k (heard t chunk_frame) recv) chunk-kind ∙ (λ j. chunk_step (id-at j) (index_at j) (piece-at j) recv);
          leaves = λ send. ap (λ (k : Kind). send_step k (heard t chunk_frame) send) chunk-kind;
        }

  -- ---- a done

  module _ (count : ℕ) (sum : List ℕ) (h : count < number_limit) (z : Exactly sum_size sum) where
    abbrev done_frame : List ℕ
    done_frame = done_packet t.id count sum

    done-framed : Framed done_flag (be 8 count ∷ sum ∷ []) (8 ∷ sum_size ∷ []) done_frame
    unfolding done_packet header
    done-framed = record { joins = simp (append_assoc, append-nil); fit = length-be 8 count & z.0 & tt }

    done-kind : kind (heard t done_frame) ≡ Done
    unfolding kind_of
    done-kind = kind_at done-framed Done refl

    done_full : Full (heard t done_frame)
    unfolding kind_of
    done_full =
        let l : length done_frame ≡ 52 = length-done t.id sum count o.id.0 z.0 in
        whole-frame done-framed Done refl refl (omega arith) (bytes-be 8 count & z.1 & tt) (omega arith) (omega arith) (omega arith)

    pub done-acts : Acts (heard t done_frame) (λ s. done_row count sum true (found t.id s.held)) (done_step t.id)
    unfolding kind_row recv_step send_step
    done-acts =
        let id-at = at done-framed 0 in
        let count_at = number-be (part done_frame 12 8) count h (at done-framed 3) in
        let sum-at = at done-framed 4 in
        record {
          full = done_full;
          asks = λ recv send.
              ap (λ (k : Kind). kind_row k (heard t done_frame) recv send) done-kind
              ∙ (λ j. done_row (count_at j) (sum-at j) (o.known j) (found (id-at j) recv.held));
          makes = λ recv. ap (λ (k : Kind). recv_step k (heard t done_frame) recv) done-kind ∙ (λ j. done_step (id-at j) recv);
          leaves = λ send. ap (λ (k : Kind). send_step k (heard t done_frame) send) done-kind;
        }
