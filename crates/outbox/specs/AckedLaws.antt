-- How acknowledged pieces are counted. Assumes nothing.
use Rattle.std.specs.Prelude.{ℕ, suc, ◌+◌, ◌≤◌, ◌≡◌, refl, true, List, [], ◌∷◌, map, length, eqb}
use Rattle.std.proofs.Common.{arith, sym, eqb-true, eq-eqb}
use Rattle.octets.specs.BoolsLaws.{cases, split, both, iff}
use Rattle.machine.specs.Codes.{piece_acked}
use Rattle.machine.specs.Values.{Cell}
use Rattle.machine.specs.Counting.{occurs}
use Rattle.machine.specs.Send.{all_acked}
use Rattle.pieces.specs.InPlace.{piece_state}

-- how many are acknowledged
abbrev acked : List Cell → ℕ
acked l = occurs piece_acked (map piece_state l)

acked-most : (l : List Cell) → acked l ≤ length l
acked-most [] = omega arith
acked-most (c ∷ l) = cases (eqb piece_acked c.state) (λ e. rw e (omega (arith, acked-most l))) (λ e. rw e (omega (arith, acked-most l)))

all-counted : (l : List Cell) → acked l ≡ length l → all_acked l ≡ true
all-counted [] h = refl
all-counted (c ∷ l) h =
    cases (eqb piece_acked c.state)
    (λ e. let n : 1 + acked l ≡ suc (length l) = rw e at h in
    both (eqb c.state piece_acked) (all_acked l) (eq-eqb c.state piece_acked (sym (eqb-true piece_acked c.state e))) (all-counted l (omega arith)))
    (λ e. let n : 0 + acked l ≡ suc (length l) = rw e at h in absurd (omega (arith, acked-most l)))

counted-all : (l : List Cell) → all_acked l ≡ true → acked l ≡ length l
counted-all [] h = refl
counted-all (c ∷ l) h =
    let s = split (eqb c.state piece_acked) (all_acked l) h in
    rw (eq-eqb piece_acked c.state (sym (eqb-true c.state piece_acked s.0))) (omega (arith, counted-all l s.1))

-- every piece is acknowledged where as many are as there are pieces
pub acked_is : (l : List Cell) → eqb (acked l) (length l) ≡ all_acked l
acked_is l =
    iff (eqb (acked l) (length l)) (all_acked l)
    (λ e. all-counted l (eqb-true (acked l) (length l) e)) (λ e. eq-eqb (acked l) (length l) (counted-all l e))
