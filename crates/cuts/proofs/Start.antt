-- The list for an input is the list for its first bytes: what has more is no length, and they are none. And it is what a
-- buffer holds. Assumes nothing.
use Rattle.std.proofs.Common.{◌≡◌, ◌∙◌, ℕ, ◌+◌, ◌<◌, List, [], length, take, drop, leb, ◌&&◌, Option, None, Some, IfSome}
use Rattle.std.proofs.Common.{Result, Ok, Err, refl, ◌≤◌, ap, sym, arith, length-take}
use Rattle.std.specs.Result.{result_unwrap_or}
use Rattle.std.proofs.Math.Seq.{take-length}
use Rattle.std.proofs.lemmas.Bool.{leb-true, leb-false}
use Rattle.std.proofs.lemmas.List.{take_all, take-append-le}
use Rattle.octets.specs.BoolsLaws.{cases, split}
use Rattle.octets.specs.Octets.{put}
use Rattle.answer.specs.declared.Refusal.{Refusal}
use Rattle.script.specs.Input.{length_of, is_one_number}
use Rattle.script.specs.InputLaws.{one-number-short}
use Rattle.cutter.specs.Cuts.{is_length}
use Rattle.cutter.specs.Text.{CutOutcome, answer_to, cuts_of, text_of}
use Rattle.cutter.proofs.TextLaws.{text_most, length-facts, run-within}
use Rattle.cuts.specs.Cuts.{cuts_text}

too_long : (s : List ℕ) → 6 < length s → cuts_text s ≡ []
unfolding cuts_text
too_long s h =
    cases (is_one_number s && is_length (length_of s))
    (λ e.
    let both = split (is_one_number s) (is_length (length_of s)) e in
    let most = length-facts (length_of s) both.1 in
    let short = one-number-short s both.0 (omega (arith, most.2)) in
    absurd (omega (arith, short)))
    (λ e. rw e)

pub cuts_text-take : (n : ℕ) (s : List ℕ) → 6 < n → cuts_text (take n s) ≡ cuts_text s
cuts_text-take n s h =
    cases (leb (length s) n)
    (λ e. ap cuts_text (take_all n s (leb-true _ _ e)))
    (λ e.
    let long = leb-false _ _ e in
    too_long (take n s) (simp length-take (omega arith)) ∙ sym (too_long s (omega arith)))

take-put : (b v : List ℕ) → take (length v) (put b 0 v) ≡ v
unfolding put
take-put b v = take-append-le (length v) v (drop (0 + length v) b) (omega arith) ∙ take-length v

-- how many bytes the list has: none where it is refused
run-is : (r : Result ℕ Refusal) → (answer_to r).run ≡ result_unwrap_or r 0
run-is (Ok n) = refl
run-is (Err e) = refl

listed : (input old : List ℕ) (o : CutOutcome) → o ≡ cuts_of input old → take o.answer.run o.out ≡ cuts_text input
unfolding cuts_of cuts_text
listed input old o f =
    cases (is_one_number input && is_length (length_of input))
    (λ e. rw (f, e) (take-put old (text_of (length_of input))))
    (λ e. rw (f, e))

module _ (read old out : List ℕ) (r : Result ℕ Refusal) (n : ℕ) (made : record { answer = answer_to r; out = out } ≡ cuts_of read old)
    (is : n ≡ result_unwrap_or r 0) where
  pub within : length old ≡ text_most → n ≤ length out
  within h = rw (is ∙ sym (run-is r)) (run-within read old (record { answer = answer_to r; out = out }) h made)

  -- the list that a buffer holds, where it is for bytes that were read from an input
  pub list_of : (known : Option (List ℕ)) (most : ℕ) (bytes : List ℕ) → IfSome known (λ all. bytes ≡ take most all) → 6 < most → read ≡ bytes
      → IfSome known (λ all. take n out ≡ cuts_text all)
  list_of None most bytes e h f = tt
  list_of (Some all) most bytes e h f =
      ap (λ (k : ℕ). take k out) (is ∙ sym (run-is r)) ∙ listed read old (record { answer = answer_to r; out = out }) made
      ∙ ap cuts_text (f ∙ e) ∙ cuts_text-take most all h
