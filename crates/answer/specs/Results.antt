-- What a result says in the answers of the C interface.
use Rattle.std.specs.Prelude.{ℕ, Result, Ok, Err}
use Rattle.answer.specs.declared.Answer.{Answer}
use Rattle.answer.specs.declared.Done.{Done}
use Rattle.answer.specs.declared.Refusal.{Refusal}
use Rattle.answer.specs.Answers.{number, bare}

-- the number that is answered; 0: done
abbrev pub answered : {A : Type 0} → Result A Refusal → ℕ
answered (Ok a) = 0
answered (Err r) = number r

-- the answer as the C interface has it
abbrev pub answer_of : Result Done Refusal → Answer
answer_of (Ok d) = record { number = 0; run = d.run; wake = d.wake; pieces = d.pieces }
answer_of (Err r) = bare (number r)
