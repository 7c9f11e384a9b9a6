-- Pieces stamped by their index: where indices rise, one piece, and some pieces and then others. Assumes nothing.
use Rattle.std.specs.Prelude.{ℕ, suc, ◌+◌, ◌≤◌, ◌<◌, ◌≡◌, refl, true, false, ◌||◌, List, [], ◌∷◌, ◌++◌, map, eqb, ltb}
use Rattle.std.proofs.Common.{arith, sym, ap, ◌∙◌, subst, eq-eqb, ne_eqb, lt-ltb, le-ltb}
use Rattle.std.proofs.lemmas.List.{map-append}
use Rattle.octets.specs.BoolsLaws.{cases}
use Rattle.octets.specs.Lists.{All}
use Rattle.octets.specs.ListsLaws.{all_right}
use Rattle.machine.specs.Codes.{piece_sent}
use Rattle.machine.specs.Values.{Cell}
use Rattle.machine.specs.Sound.{rising}
use Rattle.machine.specs.Choice.{chosen, among}
use Rattle.machine.specs.Send.{marked, stamped}
use Rattle.machine_steps.proofs.Pieces.{rising-parts}
use Rattle.machine_steps.proofs.Waiting.{Within, Choice, chosen-cells, times, chosen-once}

-- a piece is among some where its index stands among theirs
pub among-times : (l : List Cell) (i : ℕ) → among l i ≡ ltb 0 (times i l)
among-times [] i = refl
among-times (c ∷ l) i =
    cases (eqb i c.index)
    (λ e. rw e (sym (lt-ltb 0 (1 + times i l) (omega arith))))
    (λ e. let n : times i l ≡ 0 + times i l = omega arith in rw e (among-times l i ∙ ap (ltb 0) n))

-- f changes only the piece at index i: indices rise, so that is one piece
module _ (f : Cell → Cell) (i : ℕ) (keeps : (c : Cell) → (c.index ≡ i → ⊥) → f c ≡ c) where
  others : (low high : ℕ) (l : List Cell) → i < low → rising low high l ≡ true → map f l ≡ l
  others low high [] a h = refl
  others low high (c ∷ l) a h =
      let r = rising-parts low high c l h in
      λ j. keeps c (λ e. omega (arith, r.0)) j ∷ others (suc c.index) high l (omega (arith, r.0)) r.2 j

  pub only_at : (low high : ℕ) (l : List Cell) (c : Cell) (m : List Cell) → c.index ≡ i → rising low high (l ++ (c ∷ m)) ≡ true
      → map f (l ++ (c ∷ m)) ≡ l ++ (f c ∷ m)
  only_at low high [] c m e h =
      let r = rising-parts low high c m h in
      ap (λ (x : List Cell). f c ∷ x) (others (suc c.index) high m (omega arith) r.2)
  only_at low high (a ∷ l) c m e h =
      let r = rising-parts low high a (l ++ (c ∷ m)) h in
      λ j. keeps a (λ q. omega (arith, later (suc a.index) high l c m r.2)) j ∷ only_at (suc a.index) high l c m e r.2 j
    where
      later : (low high : ℕ) (l : List Cell) (c : Cell) (m : List Cell) → rising low high (l ++ (c ∷ m)) ≡ true → low ≤ c.index
      later low high [] c m h = (rising-parts low high c m h).0
      later low high (a ∷ l) c m h =
          let r = rising-parts low high a (l ++ (c ∷ m)) h in
          omega (arith, r.0, later (suc a.index) high l c m r.2)

module _ (clock : ℕ) where
  -- one piece
  pub stamped-one : (low high : ℕ) (l : List Cell) (c : Cell) (m : List Cell) → rising low high (l ++ (c ∷ m)) ≡ true
      → map (stamped clock (c ∷ [])) (l ++ (c ∷ m)) ≡ l ++ (marked c clock piece_sent ∷ m)
  stamped-one low high l c m h =
      only_at (stamped clock (c ∷ [])) c.index (λ a e. rw (ne_eqb a.index c.index e)) low high l c m refl h
      ∙ rw (eq-eqb c.index c.index refl)

  -- some pieces, then others
  among-append : (l m : List Cell) (i : ℕ) → among (l ++ m) i ≡ (among l i || among m i)
  among-append [] m i = refl
  among-append (a ∷ l) m i = cases (eqb i a.index) (λ e. rw e) (λ e. rw e (among-append l m i))

  stamped-append : (l m : List Cell) (c : Cell) → stamped clock m (stamped clock l c) ≡ stamped clock (l ++ m) c
  stamped-append l m c =
      rw (among-append l m c.index)
      (cases (among l c.index) (λ e. rw e (cases (among m c.index) (λ f. rw f) (λ f. rw f))) (λ e. rw e))

  pub stamped-then : (l m cells : List Cell) → map (stamped clock m) (map (stamped clock l) cells) ≡ map (stamped clock (l ++ m)) cells
  stamped-then l m [] = refl
  stamped-then l m (c ∷ cells) = λ i. stamped-append l m c i ∷ stamped-then l m cells i

  -- no piece
  pub stamped-none : (cells : List Cell) → map (stamped clock []) cells ≡ cells
  stamped-none [] = refl
  stamped-none (c ∷ cells) = ap (λ (x : List Cell). c ∷ x) (stamped-none cells)

-- ---- the piece that is sent next

-- it stands among the cells as it was, when those before it are stamped
pub next-within : (clock low high : ℕ) (l : List Cell) → rising low high l ≡ true → (sent : List Cell) (c : Cell) (left : List Cell)
    → chosen clock l ≡ sent ++ (c ∷ left) → Within (map (stamped clock sent) l) c
next-within clock low high l h sent c left e =
    let f : Cell → Cell = stamped clock sent in
    let w = (all_right (Choice clock l) sent (c ∷ left) (subst (All (Choice clock l)) e (chosen-cells clock l))).0.within in
    let once : times c.index (sent ++ (c ∷ left)) ≤ 1 = subst (λ (m : List Cell). times c.index m ≤ 1) e (chosen-once c.index clock low high l h) in
    let own : times c.index (c ∷ left) ≡ 1 + times c.index left = rw (eq-eqb c.index c.index refl) in
    let none : times c.index sent ≡ 0 = omega (arith, times-append c.index sent (c ∷ left)) in
    let out : among sent c.index ≡ false = among-times sent c.index ∙ rw none (le-ltb 0 0 (omega arith)) in
    let same : f c ≡ c = rw out in
    record {
      before = map f w.before;
      behind = map f w.behind;
      is = ap (map f) w.is ∙ map-append f w.before (c ∷ w.behind) ∙ ap (λ (x : Cell). map f w.before ++ (x ∷ map f w.behind)) same;
    }
  where
    times-append : (i : ℕ) (l m : List Cell) → times i (l ++ m) ≡ times i l + times i m
    times-append i [] m = omega arith
    times-append i (a ∷ l) m = omega (arith, times-append i l m)
