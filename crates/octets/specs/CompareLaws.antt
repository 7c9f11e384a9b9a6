-- Laws of `zeros` and `same`: what the two tests tell, and how they are built up byte by byte. Assumes nothing.
use Rattle.std.specs.Prelude.{ℕ, zero, suc, ◌≡◌, refl, true, false, ◌&&◌, List, [], ◌∷◌, ◌++◌, length, replicate, eqb}
use Rattle.std.proofs.Common.{ap, eqb-true, eq-eqb}
use Rattle.octets.specs.BoolsLaws.{cases, clash, split}
use Rattle.octets.specs.Octets.{zeros, same}

pub zeros-is : (l : List ℕ) → zeros l ≡ true → l ≡ replicate (length l) 0
zeros-is [] h = refl
zeros-is (x ∷ l) h = let s = split (eqb x 0) (zeros l) h in λ j. eqb-true x 0 s.0 j ∷ zeros-is l s.1 j

pub is-zeros : (n : ℕ) → zeros (replicate n 0) ≡ true
is-zeros zero = refl
is-zeros (suc n) = is-zeros n

pub zeros-append : (l m : List ℕ) → zeros (l ++ m) ≡ (zeros l && zeros m)
zeros-append [] m = refl
zeros-append (x ∷ l) m = cases (eqb x 0) (λ e. rw e (zeros-append l m)) (λ e. rw e)

pub same_refl : (l : List ℕ) → same l l ≡ true
unfolding same
same_refl [] = refl
same_refl (x ∷ l) = rw (eq-eqb x x refl) (same_refl l)

pub same-eq : (l m : List ℕ) → same l m ≡ true → l ≡ m
unfolding same
same-eq [] [] h = refl
same-eq [] (y ∷ m) h = clash h refl
same-eq (x ∷ l) [] h = clash h refl
same-eq (x ∷ l) (y ∷ m) h = let s = split (eqb x y) (same l m) h in λ i. eqb-true x y s.0 i ∷ same-eq l m s.1 i

-- lists of different lengths are not the same
pub same_length : (l m : List ℕ) → (length l ≡ length m → ⊥) → same l m ≡ false
unfolding same
same_length [] [] h = absurd (h refl)
same_length [] (y ∷ m) h = refl
same_length (x ∷ l) [] h = refl
same_length (x ∷ l) (y ∷ m) h = cases (eqb x y) (λ e. rw e (same_length l m (λ q. h (ap suc q)))) (λ e. rw e)
