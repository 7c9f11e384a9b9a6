-- The lines for an input are the lines for its first bytes: what has more is no input, and they are none. Assumes nothing.
use Rattle.std.proofs.Common.{◌≡◌, ◌∙◌, ℕ, ◌<◌, List, [], length, take, leb, Option, None, Some, IfSome, ap, sym, arith, length-take}
use Rattle.std.proofs.lemmas.Bool.{leb-true, leb-false}
use Rattle.std.proofs.lemmas.List.{take_all}
use Rattle.octets.specs.BoolsLaws.{cases}
use Rattle.script.specs.Input.{is_input}
use Rattle.script.specs.InputLaws.{input-short}
use Rattle.lesson.specs.Classroom.{classroom_of}

too_long : (s : List ℕ) → 2007 < length s → classroom_of s ≡ []
unfolding classroom_of
too_long s h = cases (is_input s) (λ e. let short = input-short s e in absurd (omega (arith, short))) (λ e. rw e)

pub classroom_of-take : (n : ℕ) (s : List ℕ) → 2007 < n → classroom_of (take n s) ≡ classroom_of s
classroom_of-take n s h =
    cases (leb (length s) n)
    (λ e. ap classroom_of (take_all n s (leb-true _ _ e)))
    (λ e.
    let long = leb-false _ _ e in
    too_long (take n s) (simp length-take (omega arith)) ∙ sym (too_long s (omega arith)))

-- the lines that are given, where they are for bytes that were read from an input
pub lines_of : (known : Option (List ℕ)) (n : ℕ) (bytes read lines : List ℕ) → IfSome known (λ all. bytes ≡ take n all) → 2007 < n → read ≡ bytes
    → lines ≡ classroom_of read → IfSome known (λ all. lines ≡ classroom_of all)
lines_of None n bytes read lines e h r f = tt
lines_of (Some all) n bytes read lines e h r f = f ∙ ap classroom_of (r ∙ e) ∙ classroom_of-take n all h
