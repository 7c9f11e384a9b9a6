-- Laws of tests: going by cases on a Bool, and taking a conjunction apart. Assumes nothing.
use Rattle.std.specs.Prelude.{ℕ, ◌≤◌, ◌≡◌, refl, Bool, true, false, ◌&&◌}
use Rattle.std.specs.Int.{from_bool}
use Rattle.std.proofs.Common.{arith}
use Rattle.octets.specs.Bools.{one}

pub cases {ℓ} : {P : Type ℓ} (b : Bool) → (b ≡ true → P) → (b ≡ false → P) → P
cases true f g = f refl
cases false f g = g refl

-- a test is not both
pub clash {ℓ} : {P : Type ℓ} {b : Bool} → b ≡ true → b ≡ false → P
clash h k = absurd (let z : ◌≡◌ {A = ℕ} 0 1 = cc in omega arith)

pub split : (p q : Bool) → (p && q) ≡ true → (p ≡ true) × (q ≡ true)
split true q h = (refl, h)
split false q h = clash h refl

pub both : (p q : Bool) → p ≡ true → q ≡ true → (p && q) ≡ true
both p q e f = rw (e, f)

-- two tests that follow from each other are equal
pub iff : (p q : Bool) → (p ≡ true → q ≡ true) → (q ≡ true → p ≡ true) → p ≡ q
iff true true f g = refl
iff true false f g = clash (f refl) refl
iff false true f g = clash (g refl) refl
iff false false f g = refl

pub one-le : (p : Bool) → one p ≤ 1
one-le true = omega arith
one-le false = omega arith

-- the library's number of a test
pub one_is : (b : Bool) → from_bool b ≡ one b
one_is true = refl
one_is false = refl
