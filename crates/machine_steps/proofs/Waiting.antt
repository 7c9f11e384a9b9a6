-- Laws of the pieces that want sending and of those that a wake chooses: which they are, how many, that none stands twice, and that one that was sent
-- does not want sending at that clock. Assumes nothing.
use Rattle.std.specs.Prelude.{ℕ, suc, ◌+◌, ◌≤◌, ◌<◌, min, ◌≡◌, Bool, true, false, cond, ◌||◌, length, take, drop, eqb, leb}
use Rattle.std.proofs.Common.{arith, sym, ap, ◌∙◌, subst, length-take, take-append-drop, eqb-true, ne_eqb}
use Rattle.std.proofs.Math.Path.{refl}
use mathlib.Core.List.{List, [], ◌∷◌, ◌++◌, map}
use Rattle.std.proofs.lemmas.Bool.{lt-leb}
use Rattle.octets.specs.Bools.{one}
use Rattle.octets.specs.BoolsLaws.{cases, clash}
use Rattle.octets.specs.Lists.{All}
use Rattle.octets.specs.ListsLaws.{all_true, all-to, all_left, all_join}
use Rattle.machine.specs.Limits.{resend_after}
use Rattle.machine.specs.Codes.{piece_started, piece_sent, piece_acked}
use Rattle.machine.specs.Values.{Cell}
use Rattle.machine.specs.Counting.{occurs, total}
use Rattle.machine.specs.Sound.{rising}
use Rattle.machine.specs.Choice.{is_started, is_due, only, insert, by_stamp, waiting, most_sent, chosen}
use Rattle.machine.specs.Send.{marked, all_acked}
use Rattle.machine_laws.specs.Counting.{total-append}
use Rattle.machine_steps.proofs.Totals.{occurs-total}
use Rattle.machine_steps.proofs.Pieces.{rising-parts}

-- a piece wants sending
abbrev pub wants : ℕ → Cell → Bool
wants clock c = is_started c || is_due clock c

abbrev pub index_of : Cell → ℕ
index_of c = c.index

-- ---- what holds of each piece

module _ (P : Cell → Type 0) where
  pub only-all : (f : Cell → Bool) (l : List Cell) → All (λ (c : Cell). f c ≡ true → P c) l → All P (only f l)
  unfolding only
  only-all f [] p = tt
  only-all f (c ∷ l) p = cases (f c) (λ e. rw e (p.0 e, only-all f l p.1)) (λ e. rw e (only-all f l p.1))

  insert_all : (c : Cell) (l : List Cell) → P c → All P l → All P (insert c l)
  unfolding insert
  insert_all c [] p h = (p, tt)
  insert_all c (d ∷ l) p h = cases (leb c.stamp d.stamp) (λ e. rw e (p, h)) (λ e. rw e (h.0, insert_all c l p h.1))

  pub sorted_all : (l : List Cell) → All P l → All P (by_stamp l)
  unfolding by_stamp
  sorted_all [] h = tt
  sorted_all (c ∷ l) h = insert_all c (by_stamp l) h.0 (sorted_all l h.1)

  -- what holds of each that wants sending holds of those that wait, and of those that are chosen
  pub waiting-all : (clock : ℕ) (l : List Cell) → All (λ (c : Cell). wants clock c ≡ true → P c) l → All P (waiting clock l)
  waiting-all clock l h =
      let of : (f : Cell → Bool) → ((c : Cell) → f c ≡ true → wants clock c ≡ true) → All P (only f l) =
      λ f k. only-all f l (all-to (λ (c : Cell). wants clock c ≡ true → P c) (λ (c : Cell). f c ≡ true → P c) l (λ c p e. p (k c e)) h) in
      all_join P (only is_started l) (by_stamp (only (is_due clock) l)) (of is_started (λ c e. rw e))
      (sorted_all (only (is_due clock) l) (of (is_due clock) (λ c e. cases (is_started c) (λ s. rw s) (λ s. rw (s, e)))))

  pub chosen-all : (clock : ℕ) (l : List Cell) → All (λ (c : Cell). wants clock c ≡ true → P c) l → All P (chosen clock l)
  chosen-all clock l h =
      let w : List Cell = waiting clock l in
      all_left P (take most_sent w) (drop most_sent w) (subst (All P) (sym (take-append-drop most_sent w)) (waiting-all clock l h))

-- ---- each is a cell of the record, and not Acked

pub record Within (l : List Cell) (c : Cell) : Type 0 where
  pub before : List Cell
  pub behind : List Cell
  pub is : l ≡ before ++ (c ∷ behind)

within_all : (l m : List Cell) → ((c : Cell) → Within m c → Within l c) → All (Within l) m
within_all l [] f = tt
within_all l (c ∷ m) f = (
  f c (record { before = []; behind = m; is = refl }),
  within_all l m (λ a w. f a (record { before = c ∷ w.before; behind = w.behind; is = ap (λ (x : List Cell). c ∷ x) w.is })),
)

pub acked-rests : (clock : ℕ) (c : Cell) → eqb c.state piece_acked ≡ true → wants clock c ≡ false
acked-rests clock c h =
    let e = eqb-true c.state piece_acked h in
    rw (ne_eqb c.state piece_started (λ z. omega arith), ne_eqb c.state piece_sent (λ z. omega arith))

pub record Choice (clock : ℕ) (l : List Cell) (c : Cell) : Type 0 where
  pub within : Within l c
  pub wants : wants clock c ≡ true
  pub unacked : eqb c.state piece_acked ≡ false

pub chosen-cells : (clock : ℕ) (l : List Cell) → All (Choice clock l) (chosen clock l)
chosen-cells clock l =
    chosen-all (Choice clock l) clock l
    (all-to (Within l) (λ (c : Cell). wants clock c ≡ true → Choice clock l c) l
    (λ c w e. record { within = w; wants = e; unacked = cases (eqb c.state piece_acked) (λ a. clash e (acked-rests clock c a)) (λ a. a) })
    (within_all l l (λ c w. w)))

-- ---- how many

module _ (f : Cell → ℕ) where
  -- what those that pass a test give
  abbrev pub gives : (Cell → Bool) → Cell → ℕ
  gives t c = cond (t c) (f c) 0

  total-only : (t : Cell → Bool) (l : List Cell) → total f (only t l) ≡ total (gives t) l
  unfolding only
  total-only t [] = refl
  total-only t (c ∷ l) = cases (t c) (λ e. rw e (omega (arith, total-only t l))) (λ e. rw e (omega (arith, total-only t l)))

  total-insert : (c : Cell) (l : List Cell) → total f (insert c l) ≡ f c + total f l
  unfolding insert
  total-insert c [] = refl
  total-insert c (d ∷ l) = cases (leb c.stamp d.stamp) (λ e. rw e) (λ e. rw e (omega (arith, total-insert c l)))

  total-sorted : (l : List Cell) → total f (by_stamp l) ≡ total f l
  unfolding by_stamp
  total-sorted [] = refl
  total-sorted (c ∷ l) = omega (arith, total-insert c (by_stamp l), total-sorted l)

  -- no piece is both Started and due
  total-either : (clock : ℕ) (l : List Cell) → total (gives is_started) l + total (gives (is_due clock)) l ≡ total (gives (wants clock)) l
  total-either clock [] = refl
  total-either clock (c ∷ l) =
      let more = total-either clock l in
      cases (is_started c)
      (λ e. let z = eqb-true c.state piece_started e in rw (e, ne_eqb c.state piece_sent (λ q. omega arith)) (omega (arith, more)))
      (λ e. rw e (omega (arith, more)))

  -- what those that wait give is what those that want sending give
  pub total-waiting : (clock : ℕ) (l : List Cell) → total f (waiting clock l) ≡ total (gives (wants clock)) l
  total-waiting clock l =
      omega (
        arith,
        total-append f (only is_started l) (by_stamp (only (is_due clock) l)),
        total-only is_started l,
        total-sorted (only (is_due clock) l),
        total-only (is_due clock) l,
        total-either clock l,
      )

total-length : (l : List Cell) → total (λ (c : Cell). 1) l ≡ length l
total-length [] = refl
total-length (c ∷ l) = omega (arith, total-length l)

-- how many want sending
abbrev pub wanting : ℕ → List Cell → ℕ
wanting clock l = total (λ (c : Cell). one (wants clock c)) l

ones-give : (clock : ℕ) (l : List Cell) → total (gives (λ (c : Cell). 1) (wants clock)) l ≡ wanting clock l
ones-give clock [] = refl
ones-give clock (c ∷ l) = cases (wants clock c) (λ e. rw e (omega (arith, ones-give clock l))) (λ e. rw e (omega (arith, ones-give clock l)))

pub waiting-length : (clock : ℕ) (l : List Cell) → length (waiting clock l) ≡ wanting clock l
waiting-length clock l = sym (total-length (waiting clock l)) ∙ total-waiting (λ (c : Cell). 1) clock l ∙ ones-give clock l

-- eight, or all if fewer
pub chosen-length : (clock : ℕ) (l : List Cell) → length (chosen clock l) ≡ min most_sent (wanting clock l)
chosen-length clock l = length-take most_sent (waiting clock l) ∙ ap (min most_sent) (waiting-length clock l)

pub chosen-most : (clock : ℕ) (l : List Cell) → length (chosen clock l) ≤ most_sent
chosen-most clock l = omega (arith, length-take most_sent (waiting clock l))

-- ---- none twice

abbrev pub times : ℕ → List Cell → ℕ
times i l = occurs i (map index_of l)

rising_none : (i low high : ℕ) (l : List Cell) → i < low → rising low high l ≡ true → times i l ≡ 0
rising_none i low high [] a h = refl
rising_none i low high (c ∷ l) a h =
    let r = rising-parts low high c l h in
    rw (ne_eqb i c.index (λ e. omega (arith, r.0))) (omega (arith, rising_none i (suc c.index) high l (omega (arith, r.0)) r.2))

rising-once : (i low high : ℕ) (l : List Cell) → rising low high l ≡ true → times i l ≤ 1
rising-once i low high [] h = omega arith
rising-once i low high (c ∷ l) h =
    let r = rising-parts low high c l h in
    cases (eqb i c.index)
    (λ e. let q = eqb-true i c.index e in rw e (omega (arith, rising_none i (suc c.index) high l (omega arith) r.2)))
    (λ e. rw e (omega (arith, rising-once i (suc c.index) high l r.2)))

gives_less : (f : Cell → ℕ) (t : Cell → Bool) (l : List Cell) → total (gives f t) l ≤ total f l
gives_less f t [] = omega arith
gives_less f t (c ∷ l) = cases (t c) (λ e. rw e (omega (arith, gives_less f t l))) (λ e. rw e (omega (arith, gives_less f t l)))

pub chosen-once : (i clock low high : ℕ) (l : List Cell) → rising low high l ≡ true → times i (chosen clock l) ≤ 1
chosen-once i clock low high l h =
    let w : List Cell = waiting clock l in
    let f : Cell → ℕ = λ c. one (eqb i c.index) in
    let parts : total f w ≡ total f (take most_sent w) + total f (drop most_sent w) =
    ap (total f) (sym (take-append-drop most_sent w)) ∙ total-append f (take most_sent w) (drop most_sent w) in
    omega (
      arith,
      occurs-total index_of i (take most_sent w),
      parts,
      total-waiting f clock l,
      gives_less f (wants clock) l,
      occurs-total index_of i l,
      rising-once i low high l h,
    )

-- ---- a piece that was sent

-- it does not want sending at that clock
pub sent-rests : (clock : ℕ) (c : Cell) → wants clock (marked c clock piece_sent) ≡ false
sent-rests clock c = lt-leb (clock + resend_after) clock (omega arith)

-- nothing waits where all are Acked
pub acked-waits : (clock : ℕ) (l : List Cell) → all_acked l ≡ true → waiting clock l ≡ []
acked-waits clock l h =
    none (waiting clock l)
    (waiting-all (λ c. ⊥) clock l
    (all-to (λ (c : Cell). eqb c.state piece_acked ≡ true) (λ (c : Cell). wants clock c ≡ true → ⊥) l (λ c a e. clash e (acked-rests clock c a))
    (all_true (λ (c : Cell). eqb c.state piece_acked) l h)))
  where
    none : (l : List Cell) → All (λ c. ⊥) l → l ≡ []
    none [] p = refl
    none (c ∷ l) p = absurd p.0
