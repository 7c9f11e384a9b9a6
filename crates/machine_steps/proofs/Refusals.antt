-- A row of refusals answers 0 exactly where each of its tests holds, provided that none of its numbers is 0. Assumes nothing.
use Rattle.std.specs.Prelude.{ℕ, ◌≡◌, refl, Bool, true, [], ◌∷◌, ◌++◌, eqb, ltb}
use Rattle.std.proofs.Common.{arith, append-nil, ltb-true, ne_eqb}
use Rattle.octets.specs.BoolsLaws.{cases, split}
use Rattle.octets.specs.Lists.{all, All}
use Rattle.machine.specs.Refusals.{Refusals, refusal}

-- no number of the row is 0
abbrev pub positive : Refusals → Bool
positive row = all (λ (t : Bool × ℕ). ltb 0 t.1) row

-- each test of the row holds
abbrev pub Clear : Refusals → Type 0
Clear row = All (λ (t : Bool × ℕ). t.0 ≡ true) row

-- of a row that goes on, its front is clear and the rest answers 0
pub refusal-front : (row rest : Refusals) → positive row ≡ true → refusal (row ++ rest) ≡ 0 → Clear row × (refusal rest ≡ 0)
unfolding refusal
refusal-front [] rest p h = (tt, h)
refusal-front (t ∷ row) rest p h =
    let s = split (ltb 0 t.1) (positive row) p in
    cases t.0
    (λ e. let c = refusal-front row rest s.1 (rw e at h) in ((e, c.0), c.1))
    (λ e. absurd (let z : t.1 ≡ 0 = rw e at h in omega (arith, ltb-true 0 t.1 s.0)))

pub refusal-clear : (row : Refusals) → positive row ≡ true → refusal row ≡ 0 → Clear row
refusal-clear row p h = (refusal-front row [] p (rw append-nil h)).0

pub clear-refusal : (row : Refusals) → Clear row → refusal row ≡ 0
unfolding refusal
clear-refusal [] c = refl
clear-refusal (t ∷ row) c = rw c.0 (clear-refusal row c.1)

-- a row answers 0 exactly where each of its tests holds
pub zero-refusal : (row : Refusals) → positive row ≡ true → eqb (refusal row) 0 ≡ all (λ (t : Bool × ℕ). t.0) row
unfolding refusal
zero-refusal [] p = refl
zero-refusal (t ∷ row) p =
    let s = split (ltb 0 t.1) (positive row) p in
    cases t.0
    (λ e. rw e (zero-refusal row s.1))
    (λ e. rw e (ne_eqb t.1 0 (λ z. omega (arith, ltb-true 0 t.1 s.0))))
