-- The calls of a survey on two fresh stores are all answered 0 exactly where the test `keeps` holds of its length, its sizes and the number of cells;
-- and then the survey is whole, as it was sent. A piece may have any size and there may be any number: what no frame can carry is refused.
-- Assumes nothing.
use Rattle.std.specs.Prelude.{ℕ, suc, ◌+◌, ◌-◌, ◌≤◌, ◌<◌, max, ◌≡◌, Bool, ◌&&◌}
use native.Mathlib.Omega.{arith}
use Rattle.std.proofs.Math.Path.{refl, sym, ap}
use Rattle.std.proofs.Common.{◌∙◌}
use Rattle.std.proofs.Math.Bool.{true, false, and-true, and-false}
use mathlib.Core.List.{List, [], ◌∷◌, ◌++◌, map, append_assoc, append-nil}
use Rattle.std.proofs.Math.ListN.{length}
use Rattle.std.proofs.lemmas.List.{length-map}
use Rattle.std.proofs.Math.Dec.{eqb, leb}
use borrow.Author.Tests.{eqb-true, ne_eqb, leb-true, leb-false, lt-leb}
use Rattle.octets.specs.Octets.{capacity, Bytes}
use Rattle.octets.specs.BoolsLaws.{cases, clash, split}
use Rattle.octets.specs.Lists.{All}
use Rattle.blake3.specs.Tree.{blake3}
use Rattle.blake3.specs.Laws.{length-blake3, blake3-below}
use Rattle.packet.specs.Frame.{largest_piece, largest_frame, needed, is_frame}
use Rattle.packet.specs.Outgoing.{init_packet, chunk_packet, done_packet}
use Rattle.packet.specs.LengthsLaws.{length-chunk}
use Rattle.machine.specs.Limits.{longest, most_cells, slots_of}
use Rattle.machine.specs.Codes.{role_receive, role_send}
use Rattle.machine.specs.Values.{Label, Cell, Store}
use Rattle.machine.specs.Layout.{number_limit, encode}
use Rattle.machine.specs.Rows.{join}
use Rattle.machine.specs.Sound.{fresh}
use Rattle.machine.specs.Valid.{Valid}
use Rattle.machine.specs.Refusals.{Refusals, refusal}
use Rattle.machine.specs.Pieces.{new_cell, joined}
use Rattle.machine.specs.Packet.{Packet, kind, recv_step, rules_row, packet_room}
use Rattle.machine_laws.specs.Fresh.{fresh-valid}
use Rattle.machine_steps.proofs.Refusals.{refusal-clear}
use Rattle.machine_steps.proofs.Valid.{recv-valid}
use Rattle.ledger.specs.Run.{Stores, Call, packet, answer, after, left, answered, fresh_stores}
use Rattle.ledger.proofs.RefusedLaws.{packet-number}
use Rattle.ledger.proofs.FrontsLaws.{packet-clear}
use Rattle.ledger.proofs.PacketsLaws.{number, stores, one_answer, one-after}
use Rattle.kept.specs.Survey.{Sender, Open, frames_from, frames_of, heard, calls_of, accepted, label_of, cells_of, whole_store, MadeWhole}
use Rattle.kept.specs.Kept.{piece_fits, fits, keeps}
use Rattle.kept.proofs.KeepsLaws.{piece-facts, keeps-facts}
use Rattle.kept.proofs.FramesLaws.{Acts, init-acts, chunk-acts, done-acts}
use Rattle.kept.proofs.RecordLaws.{Placed, none-placed, next-placed, joined-last, holding, finished, init-row, init-here, piece-row, chunk-here}
use Rattle.kept.proofs.RecordLaws.{done-row, done-here}

-- ---- calls one after the other

-- calls that are all answered 0 exactly where a test holds, and that then leave these stores
record Ends (l : List Call) (s : Stores) (test : Bool) (e : Stores) : Type 0 where
  accept : accepted l s ≡ test
  leaves : test ≡ true → left l s ≡ e

no_more : (s : Stores) → Ends [] s true s
unfolding answered left
no_more s = record { accept = refl; leaves = λ t. refl }

-- a call before them: nothing behind a refusal matters
one_more : (c : Call) (l : List Call) (s n e : Stores) (p q : Bool) → eqb (answer c s) 0 ≡ p → (p ≡ true → after c s ≡ n) → (p ≡ true → Ends l n q e)
    → Ends (c ∷ l) s (p && q) e
unfolding answered left
one_more c l s n e p q a b r = record {
  accept = cases p (λ t. rw (a, t, b t) (r t).accept) (λ t. rw (a, t));
  leaves = λ t. let u = split p q t in rw (b u.0) ((r u.0).leaves u.1);
}

-- ---- packets one after the other

-- what is no frame is refused
frame_refused : (p : Packet) (out : List ℕ) (s : Stores) → is_frame p.frame ≡ false → eqb (answer (packet p out) s) 0 ≡ false
unfolding answer
frame_refused p out s f =
    ne_eqb (answer (packet p out) s) 0
    (λ e. clash (packet-clear p s.recv s.send out (sym (packet-number p s.recv s.send out) ∙ e)).0.1.1.0 f)

-- .. as a piece that is too large makes none
chunk-large : (id b : List ℕ) (index offset : ℕ) → length id ≡ 8 → leb (length b) largest_piece ≡ false → is_frame (chunk_packet id index offset b) ≡ false
chunk-large id b index offset e h =
    let n = length (chunk_packet id index offset b) in
    let over : largest_frame < n = omega (arith, length-chunk id b index offset e, leb-false (length b) largest_piece h) in
    rw (lt-leb n largest_frame over) (and-false (leb 1 n))

module _ (out : List ℕ) (room : packet_room ≤ length out) where
  -- a whole packet is answered as its row says, and leaves what its step makes: a valid store again
  module _ (p : Packet) (row : Store → Refusals) (step : Store → Store) (a : Acts p row step) (recv send : Store) (v : Valid role_receive recv)
      (w : Valid role_send send) where
    row-answer : number p recv send ≡ refusal (row recv)
    row-answer = ap refusal (a.asks recv send)

    packet-more : (l : List Call) (next : Store) (e : Stores) (test q : Bool) → eqb (refusal (row recv)) 0 ≡ test → (test ≡ true → step recv ≡ next)
        → (test ≡ true → Valid role_receive next → Ends l (stores next send) q e) → Ends (packet p out ∷ l) (stores recv send) (test && q) e
    packet-more l next e test q f g r =
        let zero : test ≡ true → number p recv send ≡ 0 = λ t. row-answer ∙ eqb-true (refusal (row recv)) 0 (f ∙ t) in
        let made : test ≡ true → recv_step (kind p) p recv ≡ next = λ t. a.makes recv ∙ g t in
        one_more (packet p out) l (stores recv send) (stores next send) e test q
        (rw (one_answer out room p a.full recv send v w, row-answer) f)
        (λ t. one-after out room p a.full recv send v w (zero t) ∙ (λ j. stores (made t j) (a.leaves send j)))
        (λ t. r t
        (rw (← made t)
        (recv-valid p recv send a.full.typed (leb-true (needed (kind p) p.frame) (length p.frame) a.full.enough) v (zero t))))

-- ---- a survey

module _ (t : Sender) (k : Open t) (cells d : ℕ) (a : 1 ≤ cells) (b : cells ≤ most_cells) (e : 1 ≤ d) (f : d ≤ most_cells) (out : List ℕ)
    (room : packet_room ≤ length out) where
  -- the send store, which stays as it is
  abbrev sender : Store
  sender = fresh role_send d

  sender-valid : Valid role_send sender
  sender-valid = fresh-valid role_send d refl e f

  -- a number of pieces that were kept can be written
  few : (i : ℕ) → i ≤ cells → i < number_limit
  unfolding capacity
  few i g = omega arith

  -- frames as calls
  abbrev calls : List (List ℕ) → List Call
  calls l = map (λ (x : List ℕ). packet (heard t x) out) l

  module _ (total : ℕ) (h : total < number_limit) (pieces : List (List ℕ)) where
    abbrev label : Label
    label = label_of t total

    -- the stores in which the survey is whole
    abbrev end : Stores
    end = stores (finished cells label (length pieces) (cells_of 0 pieces) (cells - length pieces)) sender

    -- amid the survey: i pieces of o bytes are held in cells l, n cells are free, and pieces r are to come
    record Amid (i o n : ℕ) (l : List Cell) (r : List (List ℕ)) : Type 0 where
      placed : Placed i o l
      inside : o ≤ total
      free : cells ≡ i + n
      number : length pieces ≡ i + length r
      bytes : join pieces ≡ joined l ++ join r
      chain : cells_of 0 pieces ≡ l ++ cells_of i r
      typed : All Bytes r
      valid : Valid role_receive (holding cells label i l n)

    -- a piece that fits is held, and there is one less to come
    next-amid : (i o n : ℕ) (l : List Cell) (x : List ℕ) (r : List (List ℕ)) → Amid i o n l (x ∷ r) → piece_fits total cells i o (length x) ≡ true
        → Valid role_receive (holding cells label (suc i) (l ++ (new_cell (suc i) i x ∷ [])) (n - 1))
        → Amid (suc i) (o + length x) (n - 1) (l ++ (new_cell (suc i) i x ∷ [])) r
    unfolding cells_of
    next-amid i o n l x r g u v =
        let c : Cell = new_cell (suc i) i x in
        let p = piece-facts total cells i o (length x) u in
        record {
          placed = next-placed (suc i) i o x l g.placed;
          inside = p.inside;
          free = omega (arith, g.free, p.room);
          number = omega (arith, g.number);
          bytes = g.bytes ∙ sym (append_assoc (joined l) x (join r)) ∙ ap (λ (y : List ℕ). y ++ join r) (sym (joined-last c l));
          chain = g.chain ∙ sym (append_assoc l (c ∷ []) (cells_of (suc i) r));
          typed = g.typed.1;
          valid = v;
        }

    -- the done is taken exactly where no slot and no byte is missing
    done-ends : (i o n : ℕ) (l : List Cell) → Amid i o n l []
        → Ends (packet (heard t (done_packet t.id (length pieces) (blake3 (join pieces)))) out ∷ []) (stores (holding cells label i l n) sender)
        (leb (slots_of total) i && eqb o total) end
    unfolding cells_of
    done-ends i o n l g =
        let count : length pieces ≡ i = omega (arith, g.number) in
        let bytes : join pieces ≡ joined l = g.bytes ∙ append-nil (joined l) in
        let chain : cells_of 0 pieces ≡ l = g.chain ∙ append-nil l in
        let free : cells - i ≡ n = omega (arith, g.free) in
        let test = leb (slots_of total) i && eqb o total in
        let last : Stores = stores (finished cells label i l n) sender in
        let r = packet-more out room (heard t (done_packet t.id i (blake3 (joined l)))) _ _
        (done-acts t k i (blake3 (joined l)) (few i (omega (arith, g.free))) (length-blake3 (joined l), blake3-below (joined l)))
        (holding cells label i l n) sender g.valid sender-valid [] (finished cells label i l n) last test true
        (done-row cells label i o n l g.placed) (λ u. done-here cells label i o n l g.placed) (λ u w. no_more last) in
        rw (count, bytes, chain, free) (record { accept = r.accept ∙ and-true test; leaves = λ u. r.leaves (and-true test ∙ u) })

    -- the pieces to come and the done
    from-here : (i o n : ℕ) (l : List Cell) (r : List (List ℕ)) → Amid i o n l r
        → Ends (calls (frames_from t.id (length pieces) (blake3 (join pieces)) i o r)) (stores (holding cells label i l n) sender)
        (fits total cells i o (map length r)) end
    unfolding frames_from fits
    from-here i o n l [] g = done-ends i o n l g
    from-here i o n l (x ∷ r) g =
        let frame = chunk_packet t.id i o x in
        let behind = calls (frames_from t.id (length pieces) (blake3 (join pieces)) (suc i) (o + length x) r) in
        let fit = piece_fits total cells i o (length x) in
        let later = fits total cells (suc i) (o + length x) (map length r) in
        let next : Store = holding cells label (suc i) (l ++ (new_cell (suc i) i x ∷ [])) (n - 1) in
        cases (leb (length x) largest_piece)
        (λ s. let small : length x ≤ largest_piece = leb-true (length x) largest_piece s in
        packet-more out room (heard t frame) _ _ (chunk-acts t k i o x (few i (omega (arith, g.free))) (omega (arith, g.inside)) g.typed.0 small)
        (holding cells label i l n) sender g.valid sender-valid behind next end fit later (piece-row cells label i o n l g.placed x small g.free)
        (λ u. chunk-here cells label i o n l g.placed x (omega (arith, g.free, (piece-facts total cells i o (length x) u).room)))
        (λ u v. from-here (suc i) (o + length x) (n - 1) (l ++ (new_cell (suc i) i x ∷ [])) r (next-amid i o n l x r g u v)))
        (λ s. rw s
        (one_more (packet (heard t frame) out) behind (stores (holding cells label i l n) sender) (stores next sender) end false later
        (frame_refused (heard t frame) out (stores (holding cells label i l n) sender) (chunk-large t.id x i o k.id.0 s)) (λ u. clash u refl)
        (λ u. clash u refl)))

    -- the init, and all behind it
    survey-ends : All Bytes pieces → Ends (calls_of t total pieces out) (fresh_stores cells d) (keeps total cells (map length pieces)) end
    unfolding frames_of joined
    survey-ends y =
        let rules = rules_row t.reply t.from t.topic t.rules in
        packet-more out room (heard t (init_packet t.id t.reply total t.topic)) _ _ (init-acts t k total h) (fresh role_receive cells) sender
        (fresh-valid role_receive cells refl a b) sender-valid (calls (frames_from t.id (length pieces) (blake3 (join pieces)) 0 0 pieces))
        (holding cells label 0 [] cells) end (leb total longest) (fits total cells 0 0 (map length pieces))
        (init-row cells label rules (refusal-clear rules refl k.rules)) (λ u. init-here cells label)
        (λ u v. from-here 0 0 cells [] pieces
        (record {
          placed = none-placed;
          inside = omega arith;
          free = omega arith;
          number = omega arith;
          bytes = refl;
          chain = refl;
          typed = y;
          valid = v;
        }))

  -- "kept and finished": every call is answered 0 exactly where the test holds
  pub kept-exactly : (total : ℕ) → total < number_limit → (pieces : List (List ℕ)) → All Bytes pieces
      → accepted (calls_of t total pieces out) (fresh_stores cells d) ≡ keeps total cells (map length pieces)
  kept-exactly total h pieces y = (survey-ends total h pieces y).accept

  -- .. and then the survey is whole, in cells that hold what was sent (`joined-cells`), and the send store is as it was
  pub made-whole : (total : ℕ) → total < number_limit → (pieces : List (List ℕ)) → All Bytes pieces → keeps total cells (map length pieces) ≡ true
      → left (calls_of t total pieces out) (fresh_stores cells d)
      ≡ record { recv = encode (whole_store cells t total pieces); send = encode (fresh role_send d) }
  made-whole total h pieces y u =
      let f = keeps-facts total cells (map length pieces) u in
      let slots : max (slots_of total) (length pieces) ≡ length pieces = omega (arith, f.slots, length-map pieces length) in
      (survey-ends total h pieces y).leaves u ∙ rw slots

  pub kept_whole : (total : ℕ) → total < number_limit → (pieces : List (List ℕ)) → All Bytes pieces → keeps total cells (map length pieces) ≡ true
      → MadeWhole t cells d total pieces out
  kept_whole total h pieces y u = record { answers = kept-exactly total h pieces y ∙ u; stores = made-whole total h pieces y u }

-- cells hold what was sent, in order
pub joined-cells : (i : ℕ) (pieces : List (List ℕ)) → joined (cells_of i pieces) ≡ join pieces
unfolding joined cells_of
joined-cells i [] = refl
joined-cells i (b ∷ l) = ap (λ (x : List ℕ). b ++ x) (joined-cells (suc i) l)
