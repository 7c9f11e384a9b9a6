-- The text of document 02's example, how long texts are, and that a refusal writes nothing. Assumes nothing.
use Rattle.std.specs.Prelude.{ℕ, zero, suc, ◌*◌, ◌/◌, ◌%◌, ◌≤◌, ◌≡◌, refl, Bool, true, ◌&&◌, List, [], ◌∷◌, length, eqb, leb}
use Rattle.std.proofs.Common.{arith, eqb-true, leb-true}
use Rattle.std.proofs.lemmas.Bool.{eqb-false}
use Rattle.octets.specs.PartsLaws.{length-put}
use Rattle.octets.specs.BoolsLaws.{cases, split}
use Rattle.answer.specs.Answers.{bare}
use Rattle.machine.specs.Codes.{no_cuts}
use Rattle.script.specs.Input.{length_of, is_one_number}
use Rattle.script.specs.Decimal.{digits_of}
use Rattle.cutter.specs.Cuts.{unit, is_length, most_units, grow, cuts}
use Rattle.cutter.specs.Text.{line_of, lines_of, text_of, CutOutcome, cuts_of}

-- `250 250 250`, `250 500`, `500 250`, `750`
text-750 : text_of 750
    ≡ 50 ∷ 53 ∷ 48 ∷ 32 ∷ 50 ∷ 53 ∷ 48 ∷ 32 ∷ 50 ∷ 53 ∷ 48 ∷ 10 ∷ 50 ∷ 53 ∷ 48 ∷ 32 ∷ 53 ∷ 48 ∷ 48 ∷ 10
    ∷ 53 ∷ 48 ∷ 48 ∷ 32 ∷ 50 ∷ 53 ∷ 48 ∷ 10 ∷ 55 ∷ 53 ∷ 48 ∷ 10 ∷ []
unfolding lines_of line_of digits_of cuts grow
text-750 = refl

-- the bytes of the longest text, that of 3,000
abbrev pub text_most : ℕ
text_most = 49766

text-3000 : length (text_of 3000) ≡ text_most
unfolding lines_of line_of digits_of cuts grow
text-3000 = refl

-- ---- every text fits

-- .. of so many units or fewer
unfoldable each_fits : ℕ → Bool
each_fits zero = true
each_fits (suc n) = leb (length (lines_of (cuts (suc n)))) text_most && each_fits n

all_fit : each_fits most_units ≡ true
unfolding each_fits lines_of line_of digits_of cuts grow
all_fit = refl

fit-to : (most n : ℕ) → 1 ≤ n → n ≤ most → each_fits most ≡ true → length (lines_of (cuts n)) ≤ text_most
unfolding each_fits
fit-to zero n g h e = absurd (omega arith)
fit-to (suc most) n g h e =
    let s = split (leb (length (lines_of (cuts (suc most)))) text_most) (each_fits most) e in
    cases (eqb n (suc most))
    (λ q. rw (eqb-true n (suc most) q) (leb-true (length (lines_of (cuts (suc most)))) text_most s.0))
    (λ q. fit-to most n g (omega (arith, eqb-false n (suc most) q)) s.1)

-- a length is a number of units
pub length-facts : (n : ℕ) → is_length n ≡ true → (n % unit ≡ 0) × (unit ≤ n) × (n ≤ unit * most_units)
length-facts n h =
    let a = split (eqb (n % unit) 0) (leb unit n && leb n (unit * most_units)) h in
    let b = split (leb unit n) (leb n (unit * most_units)) a.1 in
    (eqb-true (n % unit) 0 a.0, leb-true unit n b.0, leb-true n (unit * most_units) b.1)

pub text-fits : (n : ℕ) → is_length n ≡ true → length (text_of n) ≤ text_most
text-fits n h = let f = length-facts n h in fit-to most_units (n / unit) (omega (arith, f.1)) (omega (arith, f.2)) all_fit

-- ---- the call

-- "Refusals change nothing"
pub cuts-refused : (input out : List ℕ) → ((cuts_of input out).answer.number ≡ 0 → ⊥) → cuts_of input out ≡ record { answer = bare no_cuts; out = out }
unfolding cuts_of
cuts-refused input out h = cases (is_one_number input && is_length (length_of input)) (λ e. absurd (h (rw e))) (λ e. rw e)

-- what is written lies in the buffer
pub run-within : (input out : List ℕ) (o : CutOutcome) → length out ≡ text_most → o ≡ cuts_of input out → o.answer.run ≤ length o.out
unfolding cuts_of
run-within input out o h e =
    cases (is_one_number input && is_length (length_of input))
    (λ t.
    let fits = text-fits (length_of input) (split (is_one_number input) (is_length (length_of input)) t).1 in
    rw (e, t) (omega (arith, length-put out 0 (text_of (length_of input)) (omega arith))))
    (λ t. rw (e, t) (omega arith))
