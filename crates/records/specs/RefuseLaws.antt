-- Rows of refusals, test by test, as the code decides them; and what a step leaves where its row answers a number. Assumes nothing.
use Rattle.std.specs.Prelude.{ℕ, ◌≡◌, refl, Bool, true, false, List, [], ◌∷◌, ◌++◌, ltb}
use Rattle.std.specs.Prelude.{Result}
use Rattle.std.specs.Result.{IsErrAnd}
use Rattle.std.proofs.Common.{arith, sym, ap, ◌∙◌, ne_eqb, ltb-true}
use Rattle.std.proofs.Math.Option.{Option, none, some}
use Rattle.std.proofs.lemmas.Result.{err_from_is_err_and}
use Rattle.answer.specs.declared.Refusal.{Refusal}
use Rattle.answer.specs.Answers.{number}
use Rattle.answer.specs.Results.{answered}
use Rattle.answer.specs.AnswersLaws.{some_number}
use Rattle.octets.specs.BoolsLaws.{cases, split}
use Rattle.machine.specs.Values.{Rec, Store}
use Rattle.machine.specs.Layout.{encode}
use Rattle.machine.specs.Refusals.{Refusals, refusal, asks_of}
use Rattle.machine_steps.proofs.Refusals.{positive}
use Rattle.records.specs.Step.{stepped}

-- a test that holds, and one that fails
pub next : (t : Bool) (n : ℕ) (l : Refusals) → t ≡ true → refusal ((t, n) ∷ l) ≡ refusal l
unfolding refusal
next t n l e = rw e

pub stop : (t : Bool) (n : ℕ) (l : Refusals) → t ≡ false → refusal ((t, n) ∷ l) ≡ n
unfolding refusal
stop t n l e = rw e

pub clear : refusal [] ≡ 0
unfolding refusal
clear = refl

-- .. towards the answer
pub stops : (t : Bool) (n : ℕ) (l : Refusals) → t ≡ false → n ≡ refusal ((t, n) ∷ l)
stops t n l e = sym (stop t n l e)

pub nexts : (t : Bool) (m n : ℕ) (l : Refusals) → t ≡ true → m ≡ refusal l → m ≡ refusal ((t, n) ∷ l)
nexts t m n l e f = f ∙ sym (next t n l e)

pub clears : 0 ≡ refusal []
clears = sym clear

pub ruleset rows = (stops, nexts, clears)

-- a row that asks a record: where none has the id, and where one has
pub unknown : (o : Option Rec) (tests : Rec → Refusals) → o ≡ none → 8 ≡ refusal (asks_of o tests)
unknown o tests e = rw e (stops false 8 [] refl)

pub known : (o : Option Rec) (r : Rec) (tests : Rec → Refusals) (n : ℕ) → o ≡ some r → n ≡ refusal (tests r) → n ≡ refusal (asks_of o tests)
known o r tests n e f = rw e f

-- a row's front: where one of its tests fails, and where none does
pub front-stop : (row rest : Refusals) (n : ℕ) → n ≡ refusal row → (n ≡ 0 → ⊥) → n ≡ refusal (row ++ rest)
unfolding refusal
front-stop [] rest n e z = absurd (z e)
front-stop (t ∷ row) rest n e z =
    cases t.0 (λ q. rw q (front-stop row rest n (rw q at e) z)) (λ q. rw q (rw q at e))

pub front-next : (row rest : Refusals) → positive row ≡ true → refusal row ≡ 0 → refusal (row ++ rest) ≡ refusal rest
unfolding refusal
front-next [] rest p h = refl
front-next (t ∷ row) rest p h =
    let s = split (ltb 0 t.1) (positive row) p in
    cases t.0
    (λ e. rw e (front-next row rest s.1 (rw e at h)))
    (λ e. absurd (let z : t.1 ≡ 0 = rw e at h in omega (arith, ltb-true 0 t.1 s.0)))

-- ---- a step

-- a refusal changes nothing
pub refused : (n : ℕ) (s : Store) (b : List ℕ) (m : ℕ) → n ≡ m → (n ≡ 0 → ⊥) → record { number = n; store = b } ≡ stepped m s b
refused n s b m e h = rw (← e) (rw (ne_eqb n 0 h))

pub done : (s : Store) (b c : List ℕ) (m : ℕ) → 0 ≡ m → c ≡ encode s → record { number = 0; store = c } ≡ stepped m s b
done s b c m e h = rw (← e) (ap (λ (x : List ℕ). record { number = 0; store = x }) h)

-- .. also where `?` hands it up
pub refused_up : (e : Refusal) (r : Result (Unit {0}) Refusal) (s : Store) (b : List ℕ) (m : ℕ) → IsErrAnd r (λ x. x ≡ e) → number e ≡ m
    → record { number = answered r; store = b } ≡ stepped m s b
refused_up e r s b m h f =
    let p = err_from_is_err_and r h in
    rw (p.1, p.2) (refused (number e) s b m f (λ z. omega (arith, z, some_number e)))

-- the step of a call that asks a record: where none has the id, and where one has
pub unknown_step : (s : Store) (b : List ℕ) (o : Option Rec) (tests : Rec → Refusals) → o ≡ none
    → record { number = 8; store = b } ≡ stepped (refusal (asks_of o tests)) s b
unknown_step s b o tests e = refused 8 s b (refusal (asks_of o tests)) (unknown o tests e) (λ z. omega arith)

pub known_step : (s : Store) (b c : List ℕ) (o : Option Rec) (r : Rec) (tests : Rec → Refusals) → o ≡ some r → 0 ≡ refusal (tests r) → c ≡ encode s
    → record { number = 0; store = c } ≡ stepped (refusal (asks_of o tests)) s b
known_step s b c o r tests e f g = done s b c (refusal (asks_of o tests)) (known o r tests 0 e f) g
