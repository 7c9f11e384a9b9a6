-- The two ways out of the call, and the room that it starts with. Assumes nothing.
use Prim.Native.Nat.{ℕ, suc, ◌-◌, ◌/◌, ◌≤◌, ◌<◌}
use native.Mathlib.Omega.{arith}
use mathlib.Core.Path.{◌≡◌, refl, sym, ap, ◌∙◌}
use mathlib.Core.Bool.{true, false, ◌&&◌}
use mathlib.Core.List.{List, [], ◌∷◌, ◌++◌}
use lib.ListN.{length}
use lib.Dec.{leb}
use borrow.Author.Tests.{leb-false}
use Rattle.octets.specs.Octets.{put}
use Rattle.octets.specs.BoolsLaws.{cases, clash}
use Rattle.answer.specs.declared.Answer.{Answer}
use Rattle.answer.specs.Answers.{bare, sent}
use Rattle.machine.specs.Limits.{longest}
use Rattle.machine.specs.Codes.{no_cuts}
use Rattle.script.specs.Input.{length_of, is_one_number}
use Rattle.script.specs.Script.{number_of}
use Rattle.cutter.specs.Cuts.{unit, is_length, cuts}
use Rattle.cutter.specs.Text.{line_of, lines_of, text_of, cuts_of}
use Rattle.cutter.proofs.TextLaws.{text_most, length-facts, text-fits}
use Rattle.cutter.specs.Fronts.{Wrote, lines_behind, growing, Room}

-- ---- the input

long-none : (n : ℕ) → longest < n → is_length n ≡ false
long-none n h = cases (is_length n) (λ e. absurd (omega (arith, (length-facts n e).2))) (λ e. e)

-- the number that is read is a length exactly where the input asks for one
asks : (input : List ℕ) → (is_one_number input && is_length (length_of input)) ≡ is_length (number_of input)
unfolding number_of
asks input =
    cases (is_one_number input)
    (λ e.
    cases (leb (length_of input) longest)
    (λ f. rw (e, f))
    (λ f. rw (e, f) (long-none (length_of input) (leb-false (length_of input) longest f))))
    (λ e. rw e)

-- .. and then that length
asked : (input : List ℕ) → is_length (number_of input) ≡ true → number_of input ≡ length_of input
unfolding number_of
asked input h =
    cases (is_one_number input && leb (length_of input) longest)
    (λ e. rw e)
    (λ e. clash h (rw e))

-- ---- the text

lines-plain : (g : List (List ℕ)) → lines_behind [] g ≡ lines_of g
unfolding lines_behind lines_of
lines-plain [] = refl
lines-plain (l ∷ g) = ap (λ (x : List ℕ). line_of l ++ x) (lines-plain g)

module _ (total : ℕ) (is : is_length total ≡ true) where
  text-grows : growing [] unit (total / unit - 1) ≡ text_of total
  unfolding cuts
  text-grows =
      let units : suc (total / unit - 1) ≡ total / unit = omega (arith, (length-facts total is).1) in
      lines-plain (cuts (suc (total / unit - 1))) ∙ ap (λ (n : ℕ). lines_of (cuts n)) units

  pub some-units : 1 ≤ total / unit
  some-units = omega (arith, (length-facts total is).1)

  pub room-all : (out : List ℕ) → length out ≡ text_most → Room [] unit (total / unit - 1) out 0
  room-all out h =
      record {
        sized = refl;
        short = omega (arith, (length-facts total is).1, (length-facts total is).2);
        fits = omega (arith, ap length text-grows, text-fits total is);
      }

-- ---- the ways out

module _ (input out : List ℕ) (total : ℕ) (read : total ≡ number_of input) where
  pub refused : {a : Answer} → is_length total ≡ false → a ≡ bare no_cuts → record { answer = a; out = out } ≡ cuts_of input out
  unfolding cuts_of
  refused h e = rw (asks input ∙ ap is_length (sym read) ∙ h, e)

  pub listed : {d : List ℕ} {end : ℕ} {a : Answer} → is_length total ≡ true → Wrote out 0 (growing [] unit (total / unit - 1)) d end → a ≡ sent end 0
      → record { answer = a; out = d } ≡ cuts_of input out
  unfolding cuts_of
  listed {d} {end} {a} h wrote e =
      let is : total ≡ length_of input = read ∙ asked input (ap is_length (sym read) ∙ h) in
      let text : growing [] unit (total / unit - 1) ≡ text_of (length_of input) = text-grows total h ∙ ap text_of is in
      let run : end ≡ length (text_of (length_of input)) = omega (arith, wrote.ends, ap length text) in
      let made : a ≡ sent (length (text_of (length_of input))) 0 = e ∙ ap (λ (n : ℕ). sent n 0) run in
      let filled : d ≡ put out 0 (text_of (length_of input)) = wrote.is ∙ ap (put out 0) text in
      rw (asks input ∙ ap is_length (sym read) ∙ h) (λ i. record { answer = made i; out = filled i })
