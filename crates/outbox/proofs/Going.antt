-- A send wake, as its loop takes it: some of the chosen pieces were sent, and the others are left. Assumes nothing.
use Prim.Native.Nat.{ℕ, zero, suc, ◌+◌, ◌-◌, ◌*◌, ◌≤◌, ◌<◌}
use native.Mathlib.Omega.{arith}
use mathlib.Core.Path.{◌≡◌, refl, sym, ap, ◌∙◌, subst}
use mathlib.Core.List.{List, [], ◌∷◌, ◌++◌, map, append-nil, append_assoc}
use mathlib.Core.Option.{some}
use Rattle.std.proofs.Common.{zero-add}
use Rattle.std.proofs.lemmas.List.{drop-drop}
use Rattle.std.proofs.lemmas.Option.{none-some, same_Some}
use Rattle.std.specs.Prelude.{Option, Some, None}
use lib.ListN.{length, get_or, take, drop, replicate, length-append, length-take, length-drop}
use lib.Seq.{get_or-take, drop-length, take_all}
use Rattle.octets.specs.Octets.{put}
use Rattle.octets.specs.Lists.{All}
use Rattle.octets.specs.ListsLaws.{all_left, all_right}
use Rattle.octets.specs.PartsLaws.{length-put, put-nil, more}
use Rattle.packet.specs.declared.label.Label as carried
use Rattle.packet.specs.Outgoing.{entry, chunk_packet}
use Rattle.machine.specs.Values.{Label, Cell, Rec}
use Rattle.machine.specs.Limits.{cut_by}
use Rattle.machine.specs.Layout.{read_cell, encode, decode}
use Rattle.machine.specs.Choice.{waiting, most_sent, chosen}
use Rattle.machine.specs.Send.{with_cells, change_at, change, chunk_out, chunks_out, with_stamps}
use Rattle.machine.specs.Typed.{TypedClock}
use Rattle.machine.specs.Wake.{send_wake_room}
use Rattle.machine_steps.proofs.Waiting.{chosen-most}
use Rattle.machine_steps.proofs.Stamps.{stamped-none}
use Rattle.records.specs.HeldAt.{rec_in, key_in}
use Rattle.outbox.specs.Leaves.{Here}
use Rattle.outbox.specs.declared.choice.Turn.{Turn}
use Rattle.outbox.specs.Line.{turn_of, line_of}
use Rattle.outbox.specs.Sending.{chunk_of, Ready, Sends, Wakes}
use Rattle.outbox.specs.Left.{Carries}
use Rattle.outbox.specs.EntriesLaws.{chunk-is}
use Rattle.outbox.specs.RoomLaws.{Cut, chosen-cut, chunks-more, first-room, more_room}
use Rattle.outbox.specs.PartlyLaws.{cells_then, Partly, change-is, unchanged, partly-links, partly-long, partly-all, next-in, next-read, next-stamped}

-- ---- the turns of the pieces to be sent

get_or-none : (m n : ℕ) → ◌≡◌ {A = Option Turn} (get_or (replicate m None) n None) None
get_or-none zero n = refl
get_or-none (suc m) zero = refl
get_or-none (suc m) (suc n) = get_or-none m n

padded : (l : List (Option Turn)) (m n : ℕ) → get_or (l ++ replicate m None) n None ≡ get_or l n None
padded [] m n = get_or-none m n
padded (x ∷ l) m zero = refl
padded (x ∷ l) m (suc n) = padded l m n

abbrev waits : Cell → Option Turn
waits c = Some (turn_of c)

map-take : (n : ℕ) (l : List Cell) → take n (map waits l) ≡ map waits (take n l)
map-take zero l = refl
map-take (suc n) [] = refl
map-take (suc n) (c ∷ l) = ap (λ (x : List (Option Turn)). waits c ∷ x) (map-take n l)

-- the turn of the next one that is left
abbrev pub next_of : List Cell → Option Turn
next_of [] = None
next_of (c ∷ left) = Some (turn_of c)

seam : (sent left : List Cell) → get_or (map waits (sent ++ left)) (length sent) None ≡ next_of left
seam [] [] = refl
seam [] (c ∷ left) = refl
seam (c ∷ sent) left = seam sent left

-- behind those that were sent stands the next one, or none
next_turn : (l sent left : List Cell) → take most_sent l ≡ sent ++ left → length sent < most_sent → get_or (line_of l) (length sent) None ≡ next_of left
next_turn l sent left e h =
    let n = length sent in
    let line : List (Option Turn) = map waits l in
    get_or-take most_sent (line ++ replicate most_sent None) n None h ∙ padded line most_sent n ∙ sym (get_or-take most_sent line n None h)
    ∙ ap (λ (x : List (Option Turn)). get_or x n None) (map-take most_sent l ∙ ap (map waits) e) ∙ seam sent left

-- ---- what is written

-- behind a place
put-tail : (run : List ℕ) (at : ℕ) (tail x : List ℕ) → at ≤ length run → tail ≡ put (take (length run - at) (drop at run)) 0 x
    → take at run ++ (tail ++ drop (length run - at) (drop at run)) ≡ put run at x
unfolding put
put-tail run at tail x h e =
    let left : List ℕ = drop at run in
    let long : length left ≡ length run - at = length-drop at run in
    let all : take (length run - at) left ≡ left = take_all (length run - at) left (omega (arith, long)) in
    let none : drop (length run - at) left ≡ [] = ap (λ (n : ℕ). drop n left) (sym long) ∙ drop-length left in
    (λ i. take at run ++ (e i ++ none i)) ∙ (λ i. take at run ++ (put (all i) 0 x ++ []))
    ∙ ap (λ (l : List ℕ). take at run ++ l) (append-nil _)
    ∙ ap (λ (n : ℕ). take at run ++ (x ++ drop n left)) (zero-add (length x)) ∙ ap (λ (l : List ℕ). take at run ++ (x ++ l)) (drop-drop (length x) at run)
    ∙ sym (append_assoc (take at run) x (drop (at + length x) run))

-- ---- the loop

-- n pieces were sent: they stand in the run up to `at` and are stamped
pub record Part (b : List ℕ) (link : ℕ) (label : carried.Label) (clock : ℕ) (line : List (Option Turn)) (out d run : List ℕ) (at pieces n : ℕ) : Type 0 where
  pub here : Here b link
  pub of : Carries label (rec_in b link).label
  pub typed : TypedClock clock
  pub lined : line ≡ line_of (waiting clock (rec_in b link).cells)
  pub room : send_wake_room ≤ length out
  pub sent : List Cell
  pub left : List Cell
  pub turns : n ≡ length sent
  pub counts : pieces ≡ length sent
  pub store : Partly clock b link sent left d
  pub ends : at ≡ length (chunks_out (rec_in b link).label sent)
  pub written : run ≡ put out 0 (chunks_out (rec_in b link).label sent)

module _ {b : List ℕ} {link : ℕ} {label : carried.Label} {clock : ℕ} {line : List (Option Turn)} {out d run : List ℕ} {at pieces n : ℕ}
    (g : Part b link label clock line out d run at pieces n) where
  abbrev r : Rec
  r = rec_in b link

  abbrev h : Here b link
  h = g.here

  -- what was sent
  abbrev v : List ℕ
  v = chunks_out r.label g.sent

  cut : All Cut (g.sent ++ g.left)
  cut = subst (All Cut) g.store.parts (chosen-cut h clock)

  count : length g.sent + length g.left ≤ most_sent
  count = omega (arith, ap length g.store.parts ∙ length-append g.sent g.left, chosen-most clock r.cells)

  fits : length v ≤ send_wake_room
  fits = first-room r.label h.sized g.sent (all_left Cut g.sent g.left cut) (omega (arith, count))

  going_long : (length d ≡ length b) × (length run ≡ length out)
  going_long = (partly-long h g.typed g.store, ap length g.written ∙ length-put out 0 v (omega (arith, fits, g.room)))

  inside : at ≤ length run
  inside = omega (arith, g.ends, fits, g.room, going_long.1)

  -- ---- the next piece

  abbrev those : List Cell
  those = chosen clock r.cells

  abbrev Done : Type 0
  Done = Wakes (change (with_stamps clock those) (key_in b link) (decode b)) (chunks_out r.label those) those out at pieces d run

  done : {left : List Cell} → Partly clock b link g.sent left d → left ≡ [] → Done
  done p none =
      let all = partly-all h g.typed p none in
      record {
        starts = record { ends = rw all.0 at g.ends; out = rw all.0 at g.written };
        counts = rw all.0 at g.counts;
        store = all.1;
      }

  -- none is left
  none_left : most_sent ≤ n → Done
  none_left z = done g.store (empty g.left (omega (arith, count, g.turns)))
    where
      empty : (l : List Cell) → length l ≡ 0 → l ≡ []
      empty [] e = refl
      empty (c ∷ l) e = absurd (omega arith)

  -- by the turn that is read
  module _ (few : n < most_sent) where
    reads : get_or line n None ≡ next_of g.left
    reads = (λ i. get_or (g.lined i) (g.turns i) None) ∙ next_turn (waiting clock r.cells) g.sent g.left g.store.parts (omega (arith, g.turns))

    -- none is left, or c is next
    by_left : {P : Type 0} {turn : Option Turn} → get_or line n None ≡ turn → (Partly clock b link g.sent [] d → turn ≡ None → P)
        → ((c : Cell) (left : List Cell) → Partly clock b link g.sent (c ∷ left) d → Cut c → turn ≡ Some (turn_of c) → P) → P
    by_left {P} {turn} is none next = go g.left g.store (all_right Cut g.sent g.left cut) (sym is ∙ reads)
      where
        go : (left : List Cell) → Partly clock b link g.sent left d → All Cut left → turn ≡ next_of left → P
        go [] p k e = none p e
        go (c ∷ left) p k e = next c left p k.0 e

    none_next : get_or line n None ≡ None → Done
    none_next is = by_left is (λ p e. done p refl) (λ c left p k e. absurd (none-some (turn_of c) e))

    module _ (turn : Turn) (is : get_or line n None ≡ Some turn) where
      -- the next piece is c, at the place of the turn
      by_next : {P : Type 0} → ((c : Cell) (left : List Cell) → Partly clock b link g.sent (c ∷ left) d → Cut c → turn.place ≡ c.place → P)
          → P
      by_next next =
          by_left is (λ p e. absurd (none-some turn (sym e)))
          (λ c left p k e. next c left p k (ap (λ (t : Turn). t.place) (same_Some turn (turn_of c) e)))

      turns_next : Ready d label turn.place (length (take (length run - at) (drop at run)))
      turns_next = by_next (λ c left p k e.
          let i = next-in h g.typed p in
          let read = ap (read_cell d) e ∙ next-read h g.typed p in
          let room = more_room r.label h.sized g.sent c (all_left Cut g.sent g.left cut) k (omega (arith, g.turns)) in
          record {
            links = partly-links h g.typed p;
            some = omega (arith, i.0);
            most = omega (arith, i.1);
            named = g.of.named;
            fits = omega (
              arith,
              g.room,
              ap (λ (a : Cell). length a.bytes) read,
              room,
              g.ends,
              going_long.1,
              length-take (length run - at) (drop at run),
              length-drop at run,
            );
          })

      sent_next : {k : ℕ} {d' tail : List ℕ} → Sends clock label turn.place d (take (length run - at) (drop at run)) k d' tail
          → Part b link label clock line out d' (take at run ++ (tail ++ drop (length run - at) (drop at run))) (at + k) (pieces + 1) (n + 1)
      sent_next s = by_next (λ c left p k e.
          let one = chunk_out r.label c in
          let w : chunk_of label (read_cell d turn.place) ≡ one =
          chunk-is g.of (read_cell d turn.place) ∙ ap (chunk_out r.label) (ap (read_cell d) e ∙ next-read h g.typed p) in
          let f : v ++ one ≡ chunks_out r.label (g.sent ++ (c ∷ [])) = sym (chunks-more r.label g.sent c) in
          record {
            here = h;
            of = g.of;
            typed = g.typed;
            lined = g.lined;
            room = g.room;
            sent = g.sent ++ (c ∷ []);
            left = left;
            turns = omega (arith, g.turns, length-append g.sent (c ∷ []));
            counts = omega (arith, g.counts, length-append g.sent (c ∷ []));
            store = record { parts = p.parts ∙ sym (append_assoc g.sent (c ∷ []) left); is = s.store ∙ rw e (next-stamped h g.typed p) };
            ends = omega (arith, s.ends, ap length w, g.ends, length-append v one, ap length f);
            written = rw (← f)
                (more out run _ 0 at v one g.written (put-tail run at _ one inside (rw w at s.out)) (omega (arith, g.ends))
                (omega (arith, fits, g.room)));
          })

-- ---- what the loop asks

pub record Going (b : List ℕ) (link : ℕ) (label : carried.Label) (clock : ℕ) (line : List (Option Turn)) (out d run : List ℕ) (at pieces n : ℕ) : Type 0 where
  pub part : Part b link label clock line out d run at pieces n
  pub few : pieces ≤ most_sent
  pub inside : at ≤ length run
  pub next : n < most_sent → (turn : Turn) → get_or line n None ≡ Some turn → Ready d label turn.place (length (take (length run - at) (drop at run)))
  pub ended : n < most_sent → get_or line n None ≡ None
      → Wakes (change (with_stamps clock (chosen clock (rec_in b link).cells)) (key_in b link) (decode b))
      (chunks_out (rec_in b link).label (chosen clock (rec_in b link).cells)) (chosen clock (rec_in b link).cells) out at pieces d run
  pub over : most_sent ≤ n
      → Wakes (change (with_stamps clock (chosen clock (rec_in b link).cells)) (key_in b link) (decode b))
      (chunks_out (rec_in b link).label (chosen clock (rec_in b link).cells)) (chosen clock (rec_in b link).cells) out at pieces d run

whole : {b : List ℕ} {link : ℕ} {label : carried.Label} {clock : ℕ} {line : List (Option Turn)} {out d run : List ℕ} {at pieces n : ℕ}
    → Part b link label clock line out d run at pieces n → Going b link label clock line out d run at pieces n
whole g = record { part = g; few = omega (arith, g.counts, count g); inside = inside g; next = turns_next g; ended = none_next g; over = none_left g }

pub going_start : {b : List ℕ} {link : ℕ} {label : carried.Label} {clock : ℕ} {line : List (Option Turn)} {out : List ℕ} → Here b link
    → Carries label (rec_in b link).label → TypedClock clock → line ≡ line_of (waiting clock (rec_in b link).cells) → send_wake_room ≤ length out
    → Going b link label clock line out b out 0 0 0
unfolding chunks_out change_at
going_start {b} {link} {clock = clock} {out = out} h of typed lined room =
    let r = rec_in b link in
    whole (record {
      here = h;
      of = of;
      typed = typed;
      lined = lined;
      room = room;
      sent = [];
      left = chosen clock r.cells;
      turns = refl;
      counts = refl;
      store = record {
        parts = refl;
        is = sym (ap encode (change-is h (with_cells (cells_then clock b link [])))
            ∙ ap (λ (l : List Cell). encode (change_at (with_cells l) (some r) (decode b))) (stamped-none clock r.cells) ∙ unchanged h);
      };
      ends = refl;
      written = sym (put-nil out 0);
    })

pub going_more : {b : List ℕ} {link : ℕ} {label : carried.Label} {clock : ℕ} {line : List (Option Turn)} {out d run : List ℕ} {at pieces n : ℕ}
    → Going b link label clock line out d run at pieces n → n < most_sent → {turn : Turn} → get_or line n None ≡ Some turn
    → {k : ℕ} {d' tail : List ℕ} → Sends clock label turn.place d (take (length run - at) (drop at run)) k d' tail
    → Going b link label clock line out d' (take at run ++ (tail ++ drop (length run - at) (drop at run))) (at + k) (pieces + 1) (n + 1)
going_more g few {turn} is s = whole (sent_next g.part few turn is s)
