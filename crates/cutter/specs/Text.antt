-- What is written of the cuts, a line each, and for which inputs. PROTOCOL, "Cuts".
use Rattle.std.specs.Prelude.{ℕ, ◌/◌, cond, ◌&&◌, List, [], ◌∷◌, ◌++◌, length, Result, Ok, Err}
use Rattle.octets.specs.Octets.{put}
use Rattle.answer.specs.declared.Answer.{Answer}
use Rattle.answer.specs.declared.Refusal.{Refusal}
use Rattle.answer.specs.Answers.{number, bare, sent}
use Rattle.machine.specs.Codes.{no_cuts}
use Rattle.script.specs.Input.{line_feed, length_of, is_one_number}
use Rattle.script.specs.Decimal.{decimal_of}
use Rattle.cutter.specs.Cuts.{unit, is_length, cuts}

abbrev pub blank : ℕ
blank = 32

-- a size in decimal, and the byte behind it
abbrev pub item : ℕ → ℕ → List ℕ
item size end = decimal_of size ++ (end ∷ [])

-- a line: sizes with a blank between them, and a line feed
unfoldable pub line_of : List ℕ → List ℕ
line_of [] = line_feed ∷ []
line_of (x ∷ []) = item x line_feed
line_of (x ∷ y ∷ l) = item x blank ++ line_of (y ∷ l)

unfoldable pub lines_of : List (List ℕ) → List ℕ
lines_of [] = []
lines_of (l ∷ g) = line_of l ++ lines_of g

-- all cuts of a length
abbrev pub text_of : ℕ → List ℕ
text_of total = lines_of (cuts (total / unit))

-- the answer that tells how many bytes the list has, or why there is none
abbrev pub answer_to : Result ℕ Refusal → Answer
answer_to (Ok n) = sent n 0
answer_to (Err r) = bare (number r)

pub record CutOutcome : Type 0 where
  pub answer : Answer
  pub out : List ℕ

-- the text at the start of a buffer
abbrev pub listed : List ℕ → List ℕ → CutOutcome
listed text out = record { answer = sent (length text) 0; out = put out 0 text }

-- row 30: "any other length or input that is no decimal number, before anything is written"
unfoldable pub cuts_of : List ℕ → List ℕ → CutOutcome
cuts_of input out =
    cond (is_one_number input && is_length (length_of input)) (listed (text_of (length_of input)) out) (record { answer = bare no_cuts; out = out })
