-- Laws of counting: `once` as a fact, and that a list of places from 1 to n, none twice, is no longer than n; totals add up. Assumes nothing.
use Rattle.std.specs.Prelude.{ℕ, zero, suc, ◌+◌, ◌≤◌, ◌<◌, ◌≡◌, refl, true, List, [], ◌∷◌, ◌++◌, length, eqb, leb, ltb}
use Rattle.std.proofs.Common.{arith, sym, ap, ◌∙◌, eqb-true, eq-eqb, ne_eqb, ltb-true, leb-true, lt-ltb, le-leb}
use Rattle.std.proofs.Math.Decide.{dec_lt, dec_le, ℕ_discrete}
use Rattle.octets.specs.Bools.{one}
use Rattle.octets.specs.BoolsLaws.{cases, clash, split, both, one-le}
use Rattle.octets.specs.Lists.{all, All}
use Rattle.machine.specs.Counting.{occurs, inside, each, once, rise, total}
use Rattle.machine.specs.Valid.{Once}

-- ---- occurs

pub self : (k : ℕ) → one (eqb k k) ≡ 1
self k = ap one (eq-eqb k k refl)

pub other : (k x : ℕ) → (k ≡ x → ⊥) → one (eqb k x) ≡ 0
other k x h = ap one (ne_eqb k x h)

pub occurs-append : (k : ℕ) (l m : List ℕ) → occurs k (l ++ m) ≡ occurs k l + occurs k m
occurs-append k [] m = omega arith
occurs-append k (x ∷ l) m = omega (arith, occurs-append k l m)

pub total-append : {A : Type 0} (f : A → ℕ) (l m : List A) → total f (l ++ m) ≡ total f l + total f m
total-append f [] m = omega arith
total-append f (a ∷ l) m = omega (arith, total-append f l m)

-- ---- inside

pub inside_is : (n k : ℕ) → inside n k ≡ true → (0 < k) × (k ≤ n)
inside_is n k h = let s = split (ltb 0 k) (leb k n) h in (ltb-true 0 k s.0, leb-true k n s.1)

pub is-inside : (n k : ℕ) → 0 < k → k ≤ n → inside n k ≡ true
is-inside n k h g = both (ltb 0 k) (leb k n) (lt-ltb 0 k h) (le-leb k n g)

-- the same, counted
pub one_inside : (n k : ℕ) → 0 < one (inside n k) → (0 < k) × (k ≤ n)
one_inside n k h = cases (inside n k) (λ e. inside_is n k e) (λ e. absurd (let z : one (inside n k) ≡ 0 = ap one e in omega arith))

pub inside_one : (n k : ℕ) → 0 < k → k ≤ n → one (inside n k) ≡ 1
inside_one n k h g = ap one (is-inside n k h g)

-- ---- once

-- places from 1 to n, none twice
abbrev pub Few : ℕ → List ℕ → Type 0
Few n l = (k : ℕ) → occurs k l ≤ one (inside n k)

all-inside : (n k : ℕ) (l : List ℕ) → all (inside n) l ≡ true → 0 < occurs k l → inside n k ≡ true
all-inside n k [] h q = absurd (omega arith)
all-inside n k (x ∷ l) h q =
    let s = split (inside n x) (all (inside n) l) h in
    elim (ℕ_discrete k x) [ yes e ↦ ap (inside n) e ∙ s.0 | no e ↦ all-inside n k l s.1 (omega (arith, other k x e)) ]

each-is : (n k : ℕ) (l : List ℕ) → each n l ≡ true → 0 < k → k ≤ n → occurs k l ≡ 1
unfolding each
each-is zero k l h a b = absurd (omega arith)
each-is (suc n) k l h a b =
    let s = split (each n l) (eqb (occurs (suc n) l) 1) h in
    elim (ℕ_discrete k (suc n)) [
      | yes e ↦ ap (λ (x : ℕ). occurs x l) e ∙ eqb-true (occurs (suc n) l) 1 s.1
      | no e ↦ each-is n k l s.0 a (omega (arith, e))
    ]

pub once_is : (n : ℕ) (l : List ℕ) → once n l ≡ true → Once n l
once_is n l h k =
    let s = split (all (inside n) l) (each n l) h in
    cases (inside n k)
    (λ e. let t = inside_is n k e in each-is n k l s.1 t.0 t.1 ∙ sym (ap one e))
    (λ e. elim (dec_lt 0 (occurs k l)) [
      | yes q ↦ clash (all-inside n k l s.0 q) e
      | no q ↦ (let z : one (inside n k) ≡ 0 = ap one e in omega arith)
    ])

pub is-each : (n : ℕ) (l : List ℕ) → ((k : ℕ) → 0 < k → k ≤ n → occurs k l ≡ 1) → each n l ≡ true
unfolding each
is-each zero l h = refl
is-each (suc n) l h =
    both (each n l) (eqb (occurs (suc n) l) 1) (is-each n l (λ k a b. h k a (omega arith))) (eq-eqb (occurs (suc n) l) 1 (h (suc n) (omega arith) (omega arith)))

-- each of few places is inside
pub few-inside : (n : ℕ) (l : List ℕ) → Few n l → All (λ p. (0 < p) × (p ≤ n)) l
few-inside n [] h = tt
few-inside n (x ∷ l) h = (one_inside n x (omega (arith, h x, self x)), few-inside n l (λ k. omega (arith, h k)))

all-few : (n : ℕ) (l : List ℕ) → All (λ p. (0 < p) × (p ≤ n)) l → all (inside n) l ≡ true
all-few n [] h = refl
all-few n (x ∷ l) h = both (inside n x) (all (inside n) l) (is-inside n x h.0.0 h.0.1) (all-few n l h.1)

pub is-once : (n : ℕ) (l : List ℕ) → Once n l → once n l ≡ true
is-once n l h =
    both (all (inside n) l) (each n l)
    (all-few n l (few-inside n l (λ k. omega (arith, h k))))
    (is-each n l (λ k a b. h k ∙ inside_one n k a b))

-- ---- pigeonhole

-- how often the places from 1 to n stand in l together
unfoldable sum : ℕ → List ℕ → ℕ
sum zero l = 0
sum (suc n) l = sum n l + occurs (suc n) l

sum-none : (n : ℕ) → sum n [] ≡ 0
unfolding sum
sum-none zero = refl
sum-none (suc n) = omega (arith, sum-none n)

sum-out : (n x : ℕ) (l : List ℕ) → n < x → sum n (x ∷ l) ≡ sum n l
unfolding sum
sum-out zero x l h = refl
sum-out (suc n) x l h = omega (arith, other (suc n) x (λ e. omega arith), sum-out n x l (omega arith))

sum-in : (n x : ℕ) (l : List ℕ) → 0 < x → x ≤ n → sum n (x ∷ l) ≡ suc (sum n l)
unfolding sum
sum-in zero x l h g = absurd (omega arith)
sum-in (suc n) x l h g =
    elim (ℕ_discrete (suc n) x) [
      | yes e ↦ (let z : one (eqb (suc n) x) ≡ 1 = ap one (eq-eqb (suc n) x e) in omega (arith, sum-out n x l (omega arith)))
      | no e ↦ omega (arith, other (suc n) x e, sum-in n x l h (omega (arith, e)))
    ]

sum-length : (n : ℕ) (l : List ℕ) → All (λ p. (0 < p) × (p ≤ n)) l → sum n l ≡ length l
sum-length n [] h = sum-none n
sum-length n (x ∷ l) h = omega (arith, sum-in n x l h.0.0 h.0.1, sum-length n l h.1)

sum-le : (n : ℕ) (l : List ℕ) → ((k : ℕ) → occurs k l ≤ 1) → sum n l ≤ n
unfolding sum
sum-le zero l h = omega arith
sum-le (suc n) l h = omega (arith, sum-le n l h, h (suc n))

pub few-short : (n : ℕ) (l : List ℕ) → Few n l → length l ≤ n
few-short n l h = omega (arith, sum-length n l (few-inside n l h), sum-le n l (λ k. omega (arith, h k, one-le (inside n k))))

-- places from 1 to n, each once, are n
sum-once : (n : ℕ) (l : List ℕ) → ((k : ℕ) → 0 < k → k ≤ n → occurs k l ≡ 1) → sum n l ≡ n
unfolding sum
sum-once zero l h = refl
sum-once (suc n) l h = omega (arith, sum-once n l (λ k a b. h k a (omega arith)), h (suc n) (omega arith) (omega arith))

pub once-length : (n : ℕ) (l : List ℕ) → Once n l → length l ≡ n
once-length n l h =
    omega (arith, sum-length n l (few-inside n l (λ k. omega (arith, h k))), sum-once n l (λ k a b. h k ∙ inside_one n k a b))

-- ---- places that rise

before : (k i n : ℕ) → k < i → occurs k (rise i n) ≡ 0
unfolding rise
before k i zero h = refl
before k i (suc n) h = omega (arith, other k i (λ e. omega arith), before k (suc i) n (omega arith))

behind : (k i n : ℕ) → i + n ≤ k → occurs k (rise i n) ≡ 0
unfolding rise
behind k i zero h = refl
behind k i (suc n) h = omega (arith, other k i (λ e. omega arith), behind k (suc i) n (omega arith))

among : (k i n : ℕ) → i ≤ k → k < i + n → occurs k (rise i n) ≡ 1
unfolding rise
among k i zero h g = absurd (omega arith)
among k i (suc n) h g =
    elim (ℕ_discrete k i) [
      | yes e ↦ (let z : one (eqb k i) ≡ 1 = ap one (eq-eqb k i e) in omega (arith, before k (suc i) n (omega arith)))
      | no e ↦ omega (arith, other k i e, among k (suc i) n (omega (arith, e)) (omega arith))
    ]

-- the places from 1 to n stand once in the list that rises from 1
pub rise-once : (n : ℕ) → Once n (rise 1 n)
rise-once n k =
    cases (inside n k)
    (λ e. let w = inside_is n k e in among k 1 n w.0 (omega arith) ∙ sym (ap one e))
    (λ e. elim (dec_lt 0 k) [
      | yes p ↦ elim (dec_le k n) [
        | yes q ↦ clash (is-inside n k p q) e
        | no q ↦ behind k 1 n (omega arith) ∙ sym (ap one e)
      ]
      | no p ↦ before k 1 n (omega arith) ∙ sym (ap one e)
    ])
