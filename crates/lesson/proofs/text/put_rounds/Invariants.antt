use Rattle.std.specs.Prelude.{◌≡◌, ◌++◌, length, take}
use Rattle.lesson.specs.Text.{lines_from, rounds}
use Rattle.lesson.specs.Steps.{at_rest}
use Rattle.lesson.proofs.Lines.{Showing}
use Rattle.lesson.proofs.text.put_rounds.Given as goal

abbrev pub invariant-loop-k : goal.invariant-loop-k
invariant-loop-k l =
    (length l.text ≡ length l.fn.text)
    × Showing l.at (take l.at l.fn.text ++ lines_from rounds 1 (at_rest l.fn.room)) (at_rest l.room) l.text l.k l.end
