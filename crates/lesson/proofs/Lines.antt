-- Laws of the text: an item, a line, and the rounds' lines one behind the other. Assumes nothing.
use Prim.Native.Nat.{ℕ, suc, ◌+◌, ◌-◌, ◌*◌, ◌/◌, ◌%◌, ◌≤◌, ◌<◌}
use native.Mathlib.Omega.{arith}
use native.Mathlib.Numerals.{add-one}
use mathlib.Core.Path.{◌≡◌, sym, ap, ◌∙◌}
use mathlib.Core.List.{List, [], ◌∷◌, ◌++◌, append_assoc, append-nil}
use lib.ListN.{length, take, drop, replicate, length-append}
use lib.Seq.{take_at, length-take-le}
use lib.Dec.{ltb}
use borrow.Author.Tests.{lt-ltb, le-ltb, ltb-true, ltb-false}
use Rattle.octets.specs.Octets.{put}
use Rattle.octets.specs.PartsLaws.{more}
use Rattle.machine.specs.Outcomes.{ReportOutcome}
use Rattle.machine.specs.Report.{report_of, report_room}
use Rattle.lesson.specs.Room.{Room}
use Rattle.lesson.specs.Lesson.{survey_id, round}
use Rattle.lesson.specs.Text.{decimal_of, item, line_from, line_of, lines_from, rounds}
use Rattle.script.specs.Input.{digit_zero}
use Rattle.script.specs.Decimal.{digits_of}
use Rattle.script.specs.Decimal as script
use Rattle.octets.specs.BoolsLaws.{cases}

-- ---- an item

-- text c is b with v at `at`, and ends at r
abbrev pub Wrote : List ℕ → List ℕ → ℕ → ℕ → List ℕ → ℕ → Type 0
Wrote b c at r v most = (c ≡ put b at v) × (r ≡ at + length v) × (r ≤ at + most)

-- the numbers that are printed, in decimal as they are written
decimal-is : (n : ℕ) → n < 1000 → script.decimal_of n ≡ decimal_of n
unfolding digits_of decimal_of
decimal-is n h =
    cases (ltb n 10)
    (λ e. let small = ltb-true n 10 e in rw e (ap (λ (d : ℕ). (digit_zero + d) ∷ []) (omega arith)))
    (λ e.
    cases (ltb (n / 10) 10)
    (λ f.
    let more = ltb-false n 10 e in
    let few = ltb-true (n / 10) 10 f in
    rw (e, f, lt-ltb n 100 (omega arith)) (ap (λ (d : ℕ). (digit_zero + d) ∷ (digit_zero + n % 10) ∷ []) (omega arith)))
    (λ f.
    let more = ltb-false (n / 10) 10 f in
    rw (e, f, le-ltb n 100 (omega arith), lt-ltb (n / 10 / 10) 10 (omega arith))
    (ap (λ (d : ℕ). (digit_zero + d) ∷ (digit_zero + n / 10 % 10) ∷ (digit_zero + n % 10) ∷ []) (omega arith))))

short : (n : ℕ) → length (decimal_of n) ≤ 3
unfolding decimal_of
short n = cases (ltb n 10) (λ e. rw e (omega arith)) (λ e. cases (ltb n 100) (λ f. rw (e, f) (omega arith)) (λ f. rw (e, f) (omega arith)))

module _ (n end : ℕ) where
  pub item-short : length (item n end) ≤ 4
  item-short = omega (arith, length-append (decimal_of n) (end ∷ []), short n)

  module _ (h : n < 1000) where
    pub item-is : script.decimal_of n ++ (end ∷ []) ≡ item n end
    item-is = ap (λ (l : List ℕ). l ++ (end ∷ [])) (decimal-is n h)

    pub item-wrote : (b c : List ℕ) (at r : ℕ)
        → (c ≡ put b at (script.decimal_of n ++ (end ∷ []))) × (r ≡ at + length (script.decimal_of n ++ (end ∷ [])))
        → Wrote b c at r (item n end) 4
    item-wrote b c at r w = (
      w.0 ∙ ap (put b at) item-is,
      w.1 ∙ ap (λ (l : List ℕ). at + length l) item-is,
      omega (arith, w.1, ap length item-is, item-short),
    )

-- ---- a line

-- what is written right behind v
pub next : (b c d : List ℕ) (at r s : ℕ) (v w : List ℕ) (m n : ℕ) → Wrote b c at r v m → Wrote c d r s w n → at + m ≤ length b → Wrote b d at s
    (v ++ w) (m + n)
next b c d at r s v w m n x y h = (
  more b c d at r v w x.0 y.0 x.1 (omega (arith, x.1, x.2)),
  omega (arith, x.1, y.1, length-append v w),
  omega (arith, x.2, y.2),
)

pub line-is : (b c send report : List ℕ) (at r k : ℕ) (o : ReportOutcome) → o ≡ report_of send survey_id (replicate report_room 0) → report ≡ o.out
    → Wrote b c at r (line_from k report) 20 → Wrote b c at r (line_of k send) 20
unfolding line_of
line-is b c send report at r k o e f w =
    let g : report ≡ (report_of send survey_id (replicate report_room 0)).out = f ∙ ap (λ (o : ReportOutcome). o.out) e in
    (w.0 ∙ ap (λ (l : List ℕ). put b at (line_from k l)) g, w.1 ∙ ap (λ (l : List ℕ). at + length (line_from k l)) g, w.2)

-- ---- lines one behind the other

-- the text up to where it ends is what was there and the line
pub take_more : (b c v : List ℕ) (at r : ℕ) → c ≡ put b at v → r ≡ at + length v → r ≤ length b → take r c ≡ take at b ++ v
unfolding put
take_more b c v at r e f h =
    let n : length (take at b ++ v) ≡ r = length-append (take at b) v ∙ omega (arith, length-take-le at b (omega (arith, f, h))) in
    ap (take r) e ∙ take_at (take at b ++ v) (drop (at + length v) b) r n

-- after the rounds before k the text up to `end` and the lines of the rounds from k on, in the room s, are the goal
pub record Showing (at : ℕ) (goal : List ℕ) (s : Room) (b : List ℕ) (k end : ℕ) : Type 0 where
  pub first : 1 ≤ k
  pub last : k ≤ 51
  pub reach : end + 20 * (51 - k) ≤ at + 20 * rounds
  pub gives : take end b ++ lines_from (51 - k) k s ≡ goal

pub showing-more : (at : ℕ) (goal : List ℕ) (s : Room) (b : List ℕ) (k end : ℕ) (s' : Room) (c : List ℕ) (end' : ℕ)
    → Showing at goal s b k end → k ≤ 50 → at + 20 * rounds ≤ length b → s' ≡ round k s
    → Wrote b c end end' (line_of k s'.tablet.send) 20 → Showing at goal s' c (k + 1) end'
unfolding lines_from
showing-more at goal s b k end s' c end' p h f r w =
    let reach = p.reach in
    let ts = s'.tablet.send in
    let z : 51 - k ≡ suc (51 - (k + 1)) = omega arith in
    let written : take end' c ≡ take end b ++ line_of k ts = take_more b c (line_of k ts) end end' w.0 w.1 (omega (arith, w.2)) in
    let turn : lines_from (51 - k) k s ≡ line_of k ts ++ lines_from (51 - (k + 1)) (k + 1) s' = ap (λ (n : ℕ). lines_from n k s) z
    ∙ (λ i. line_of k (sym r i).tablet.send ++ lines_from (51 - (k + 1)) (sym (add-one k) i) (sym r i)) in
    record {
      first = omega arith;
      last = omega arith;
      reach = omega (arith, w.2);
      gives =
          ap (λ (x : List ℕ). x ++ lines_from (51 - (k + 1)) (k + 1) s') written
          ∙ append_assoc (take end b) (line_of k ts) (lines_from (51 - (k + 1)) (k + 1) s') ∙ ap (λ (x : List ℕ). take end b ++ x) (sym turn) ∙
          p.gives;
    }

pub showing-none : (at : ℕ) (goal : List ℕ) (s : Room) (b : List ℕ) (k end : ℕ) → Showing at goal s b k end → 50 < k
    → (take end b ≡ goal) × (end ≤ at + 20 * rounds)
unfolding lines_from
showing-none at goal s b k end p h =
    let reach = p.reach in
    let z : 51 - k ≡ 0 = omega arith in
    (sym (ap (λ (n : ℕ). take end b ++ lines_from n k s) z ∙ append-nil (take end b)) ∙ p.gives, omega arith)
