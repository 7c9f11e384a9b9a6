-- Laws of the line: a piece that comes to the pieces passed so far takes its place among those that want sending. Assumes nothing.
use Rattle.std.specs.Prelude.{ℕ, zero, suc, ◌+◌, ◌≤◌, ◌<◌, min, ◌≡◌, refl, Bool, true, false, cond, List, [], ◌∷◌, ◌++◌, map, length, take, replicate, eqb, leb, ltb}
use Rattle.std.specs.Prelude.{Option, Some, None}
use Rattle.std.specs.List.{insert}
use Rattle.std.proofs.Math.Nat.{min-zero, suc-min-suc}
use Rattle.std.proofs.Common.{arith, sym, ap, ◌∙◌, append-nil, append_assoc, length-append, length-take, take-take, eqb-true, ne_eqb, leb-true, leb-false}
use Rattle.std.proofs.Common.{ltb-true, ltb-false, lt-ltb, le-ltb}
use Rattle.std.proofs.lemmas.Bool.{lt-leb}
use Rattle.std.proofs.lemmas.List.{length-replicate}
use Rattle.octets.specs.BoolsLaws.{cases, clash, split}
use Rattle.octets.specs.Lists.{All}
use Rattle.octets.specs.ListsLaws.{all_of}
use Rattle.machine.specs.Limits.{resend_after}
use Rattle.machine.specs.Codes.{piece_started, piece_sent}
use Rattle.machine.specs.Values.{Cell}
use Rattle.machine.specs.Choice.{is_started, is_due, only, insert as insert_piece, by_stamp, waiting, most_sent}
use Rattle.machine_steps.proofs.Waiting.{wants, only-all, sorted_all}
use Rattle.outbox.specs.declared.choice.Turn.{Turn}
use Rattle.outbox.specs.Line.{rank, turn, put_in, turn_of, line_of}

-- ---- a turn comes in

-- the places behind the last piece are behind its turn too
turn-append : (r n : ℕ) (l : List (Option Turn)) → turn r (l ++ replicate (suc n) None) ≡ turn r l
turn-append r n [] = refl
turn-append r n (None ∷ l) = refl
turn-append r n (Some t ∷ l) = rw (turn-append r n l)

turn-take : (r n : ℕ) (l : List (Option Turn)) → turn r (take n l) ≡ min n (turn r l)
turn-take r zero l = omega arith
turn-take r (suc n) [] = omega arith
turn-take r (suc n) (None ∷ l) = omega arith
turn-take r (suc n) (Some t ∷ l) = cases (ltb r t.rank) (λ e. rw e (omega arith)) (λ e. rw e (omega (arith, turn-take r n l)))

-- the first n of a list into which x came: what stands behind them does not matter
in-first : {A : Type 0} (n i : ℕ) (x : A) (l : List A) → take n (insert (take n l) (min n i) x) ≡ take n (insert l i x)
in-first zero i x l = refl
in-first (suc n) zero x l = rw (min-zero (suc n)) (ap (λ m. x ∷ m) (take-take n (suc n) l (omega arith)))
in-first (suc n) (suc i) x [] = rw (suc-min-suc n i) refl
in-first (suc n) (suc i) x (y ∷ l) = rw (suc-min-suc n i) (ap (λ m. y ∷ m) (in-first n i x l))

-- ---- a piece comes in

abbrev waits : Cell → Option Turn
waits c = Some (turn_of c)

map-insert : (i : ℕ) (c : Cell) (l : List Cell) (m : List (Option Turn)) → i ≤ length l
    → insert (map waits l ++ m) i (waits c) ≡ map waits (insert l i c) ++ m
map-insert zero c l m h = refl
map-insert (suc i) c [] m h = absurd (omega arith)
map-insert (suc i) c (d ∷ l) m h = ap (λ (x : List (Option Turn)). waits d ∷ x) (map-insert i c l m (omega arith))

-- the line goes by pieces
put-line : (i : ℕ) (c : Cell) (l : List Cell) → i ≤ length l → take most_sent (insert (line_of l) (min most_sent i) (waits c)) ≡ line_of (insert l i c)
put-line i c l h =
    in-first most_sent i (waits c) (map waits l ++ replicate most_sent None) ∙ ap (take most_sent) (map-insert i c l (replicate most_sent None) h)

-- behind those of its rank or a lower one
abbrev pub behind : Cell → List Cell → List Cell
behind c l = insert l (turn (rank c) (map waits l)) c

turn-few : (r : ℕ) (l : List Cell) → turn r (map waits l) ≤ length l
turn-few r [] = omega arith
turn-few r (c ∷ l) = cases (ltb r (rank c)) (λ e. rw e (omega arith)) (λ e. rw e (omega (arith, turn-few r l)))

behind-none : (c : Cell) → behind c [] ≡ c ∷ []
behind-none c = refl

-- before the first of a higher rank
behind-first : (c d : Cell) (l : List Cell) → rank c < rank d → behind c (d ∷ l) ≡ c ∷ d ∷ l
behind-first c d l h = rw (lt-ltb (rank c) (rank d) h)

behind-past : (c d : Cell) (l : List Cell) → rank d ≤ rank c → behind c (d ∷ l) ≡ d ∷ behind c l
behind-past c d l h =
    let before : ℕ = turn (rank c) (map waits l) in
    let e : 1 + before ≡ suc before = omega arith in
    rw (le-ltb (rank c) (rank d) h, e)

-- ---- where it comes in

abbrev Fresh : Cell → Type 0
Fresh c = is_started c ≡ true

abbrev Again : Cell → Type 0
Again c = is_started c ≡ false

rank-fresh : (c : Cell) → Fresh c → rank c ≡ 0
rank-fresh c e = rw e

rank-again : (c : Cell) → Again c → rank c ≡ suc c.stamp
rank-again c e = rw e

-- a Started piece goes behind those that are Started, and before all others
behind-started : (c : Cell) (l m : List Cell) → Fresh c → All Fresh l → All Again m → behind c (l ++ m) ≡ l ++ (c ∷ m)
behind-started c [] [] e h k = behind-none c
behind-started c [] (d ∷ m) e h k = behind-first c d m (omega (arith, rank-fresh c e, rank-again d k.0))
behind-started c (d ∷ l) m e h k =
    behind-past c d (l ++ m) (omega (arith, rank-fresh d h.0)) ∙ ap (λ (x : List Cell). d ∷ x) (behind-started c l m e h.1 k)

-- another one goes behind them
behind-again : (c : Cell) (l m : List Cell) → All Fresh l → behind c (l ++ m) ≡ l ++ behind c m
behind-again c [] m h = refl
behind-again c (d ∷ l) m h =
    behind-past c d (l ++ m) (omega (arith, rank-fresh d h.0)) ∙ ap (λ (x : List Cell). d ∷ x) (behind-again c l m h.1)

-- .. and among the others by its stamp, behind equal ones
unfoldable later : Cell → List Cell → List Cell
later c [] = c ∷ []
later c (d ∷ l) = cond (ltb c.stamp d.stamp) (c ∷ d ∷ l) (d ∷ later c l)

behind-later : (c : Cell) (l : List Cell) → Again c → All Again l → behind c l ≡ later c l
unfolding later
behind-later c [] e h = behind-none c
behind-later c (d ∷ l) e h =
    let rc = rank-again c e in
    let rd = rank-again d h.0 in
    cases (ltb c.stamp d.stamp)
    (λ q. behind-first c d l (omega (arith, ltb-true c.stamp d.stamp q)) ∙ rw q)
    (λ q. behind-past c d l (omega (arith, ltb-false c.stamp d.stamp q)) ∙ ap (λ (x : List Cell). d ∷ x) (behind-later c l e h.1) ∙ rw q)

-- a goes before equal stamps and c behind them, so it is all one which comes in first
insert-later : (a c : Cell) (l : List Cell) → insert_piece a (later c l) ≡ later c (insert_piece a l)
unfolding insert_piece later
insert-later a c [] =
    cases (leb a.stamp c.stamp)
    (λ p. rw (p, le-ltb c.stamp a.stamp (leb-true a.stamp c.stamp p)))
    (λ p. rw (p, lt-ltb c.stamp a.stamp (leb-false a.stamp c.stamp p)))
insert-later a c (d ∷ l) =
    cases (leb a.stamp d.stamp)
    (λ p. let ad = leb-true a.stamp d.stamp p in
    cases (ltb c.stamp d.stamp)
    (λ q. cases (leb a.stamp c.stamp)
    (λ s. rw (p, q, s, le-ltb c.stamp a.stamp (leb-true a.stamp c.stamp s)) refl)
    (λ s. rw (q, s, p, lt-ltb c.stamp a.stamp (leb-false a.stamp c.stamp s)) refl))
    (λ q. rw (q, p, le-ltb c.stamp a.stamp (omega (arith, ltb-false c.stamp d.stamp q)), q) refl))
    (λ p. let da = leb-false a.stamp d.stamp p in
    cases (ltb c.stamp d.stamp)
    (λ q. rw (q, lt-leb a.stamp c.stamp (omega (arith, ltb-true c.stamp d.stamp q)), p, q) refl)
    (λ q. rw (q, p, q) (ap (λ (x : List Cell). d ∷ x) (insert-later a c l))))

sorted_more : (l : List Cell) (c : Cell) → by_stamp (l ++ (c ∷ [])) ≡ later c (by_stamp l)
unfolding by_stamp insert_piece later
sorted_more [] c = refl
sorted_more (a ∷ l) c = ap (insert_piece a) (sorted_more l c) ∙ insert-later a c (by_stamp l)

-- ---- one more piece

only-more : (f : Cell → Bool) (l : List Cell) (c : Cell) → only f (l ++ (c ∷ [])) ≡ only f l ++ cond (f c) (c ∷ []) []
unfolding only
only-more f [] c = refl
only-more f (a ∷ l) c = cases (f a) (λ e. rw e (ap (λ (x : List Cell). a ∷ x) (only-more f l c))) (λ e. rw e (only-more f l c))

module _ (clock : ℕ) (l : List Cell) (c : Cell) where
  abbrev before : List Cell
  before = only is_started l

  abbrev others : List Cell
  others = only (is_due clock) l

  fresh : All Fresh before
  fresh = only-all Fresh is_started l (all_of (λ (d : Cell). is_started d ≡ true → Fresh d) l (λ d e. e))

  due-again : (d : Cell) → is_due clock d ≡ true → Again d
  due-again d e =
      let z = eqb-true d.state piece_sent (split (eqb d.state piece_sent) (leb (d.stamp + resend_after) clock) e).0 in
      ne_eqb d.state piece_started (λ q. omega arith)

  again : All Again (by_stamp others)
  again = sorted_all Again others (only-all Again (is_due clock) l (all_of (λ (d : Cell). is_due clock d ≡ true → Again d) l due-again))

  -- it does not want sending
  waiting-same : wants clock c ≡ false → waiting clock (l ++ (c ∷ [])) ≡ waiting clock l
  waiting-same e =
      let s : is_started c ≡ false = cases (is_started c) (λ q. clash {b = wants clock c} (rw q) e) (λ q. q) in
      let d : is_due clock c ≡ false = cases (is_due clock c) (λ q. clash {b = wants clock c} (rw (s, q)) e) (λ q. q) in
      let started : only is_started (l ++ (c ∷ [])) ≡ before = only-more is_started l c ∙ rw s (append-nil before) in
      let due : only (is_due clock) (l ++ (c ∷ [])) ≡ others = only-more (is_due clock) l c ∙ rw d (append-nil others) in
      λ i. started i ++ by_stamp (due i)

  -- it does: it comes in behind those of its rank
  waiting-more : wants clock c ≡ true → waiting clock (l ++ (c ∷ [])) ≡ behind c (waiting clock l)
  waiting-more e =
      cases (is_started c)
      (λ s. let z = eqb-true c.state piece_started s in
      let d : is_due clock c ≡ false = rw (ne_eqb c.state piece_sent (λ q. omega arith)) in
      let started : only is_started (l ++ (c ∷ [])) ≡ before ++ (c ∷ []) = only-more is_started l c ∙ rw s in
      let due : only (is_due clock) (l ++ (c ∷ [])) ≡ others = only-more (is_due clock) l c ∙ rw d (append-nil others) in
      (λ i. started i ++ by_stamp (due i)) ∙ append_assoc before (c ∷ []) (by_stamp others)
      ∙ sym (behind-started c before (by_stamp others) s fresh again))
      (λ s. let d : is_due clock c ≡ true = cases (is_due clock c) (λ q. q) (λ q. clash e (rw (s, q))) in
      let started : only is_started (l ++ (c ∷ [])) ≡ before = only-more is_started l c ∙ rw s (append-nil before) in
      let due : only (is_due clock) (l ++ (c ∷ [])) ≡ others ++ (c ∷ []) = only-more (is_due clock) l c ∙ rw d in
      (λ i. started i ++ by_stamp (due i)) ∙ ap (λ (x : List Cell). before ++ x) (sorted_more others c ∙ sym (behind-later c (by_stamp others) s again))
      ∙ sym (behind-again c before (by_stamp others) fresh))

-- ---- the line of one more piece

module _ (clock : ℕ) (l : List Cell) (c : Cell) where
  -- one that wants sending comes in at its turn
  pub line-more : wants clock c ≡ true → put_in (turn_of c) (line_of (waiting clock l)) ≡ line_of (waiting clock (l ++ (c ∷ [])))
  line-more e =
      let now : List Cell = waiting clock l in
      let at : turn (rank c) (line_of now) ≡ min most_sent (turn (rank c) (map waits now)) =
      turn-take (rank c) most_sent (map waits now ++ replicate most_sent None) ∙ ap (min most_sent) (turn-append (rank c) 7 (map waits now)) in
      ap (λ (n : ℕ). take most_sent (insert (line_of now) n (waits c))) at
      ∙ put-line (turn (rank c) (map waits now)) c now (turn-few (rank c) now) ∙ ap line_of (sym (waiting-more clock l c e))

  -- another one does not
  pub line-same : wants clock c ≡ false → line_of (waiting clock l) ≡ line_of (waiting clock (l ++ (c ∷ [])))
  line-same e = ap line_of (sym (waiting-same clock l c e))

-- a line has eight places
pub line-long : (l : List Cell) → length (line_of l) ≡ most_sent
line-long l =
    let none : Option Turn = None in
    let some : List (Option Turn) = map (λ c. Some (turn_of c)) l in
    omega (
      arith,
      length-take most_sent (some ++ replicate most_sent none),
      length-append some (replicate most_sent none),
      length-replicate most_sent none,
    )
