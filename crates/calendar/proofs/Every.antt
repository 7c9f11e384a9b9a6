-- What `all` of a range says is `every`. Assumes nothing.
use Rattle.std.proofs.Common.{ℕ, zero, suc, ◌+◌, ◌≡◌, refl, sym, ap, ◌∙◌, Bool, true, false, ◌&&◌, arith}
use mathlib.Core.Bool.{and-true}
use Rattle.std.specs.List.{list_all, range_with_len}
use Rattle.calendar.specs.Calendar.{every}

and_assoc : (p q r : Bool) → (p && q && r) ≡ (p && (q && r))
and_assoc true q r = refl
and_assoc false q r = refl

-- one more at the front
every-first : (f : ℕ → Bool) (n : ℕ) → every f (suc n) ≡ (f 0 && every (λ i. f (suc i)) n)
unfolding every
every-first f zero = sym (and-true (f 0))
every-first f (suc n) = ap (λ (b : Bool). b && f (suc n)) (every-first f n) ∙ and_assoc (f 0) _ _

-- the n numbers from a on
from : (f : ℕ → Bool) (n a : ℕ) → list_all f (range_with_len a n) ≡ every (λ i. f (a + i)) n
unfolding every
from f zero a = refl
from f (suc n) a =
    let e : (i : ℕ) → a + 1 + i ≡ a + suc i = λ i. omega arith in
    let z : a ≡ a + 0 = omega arith in
    ap (λ (b : Bool). f a && b) (from f n (a + 1)) ∙ (λ j. f (z j) && every (λ i. f (e i j)) n) ∙ sym (every-first (λ i. f (a + i)) n)

pub every-range : (f : ℕ → Bool) (n : ℕ) → list_all f (range_with_len 0 n) ≡ every f n
every-range f n = let e : (i : ℕ) → 0 + i ≡ i = λ i. omega arith in from f n 0 ∙ (λ j. every (λ i. f (e i j)) n)
