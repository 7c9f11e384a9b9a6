-- What the program prints for what it reads: "a length over 32,500 or any other input prints nothing".
use Rattle.std.specs.Prelude.{ℕ, cond, List, []}
use Rattle.script.specs.Input.{is_input, length_of, letters_of}
use Rattle.lesson.specs.Text.{lesson_of}

unfoldable pub classroom_of : List ℕ → List ℕ
classroom_of input = cond (is_input input) (lesson_of (length_of input) (letters_of input)) []
