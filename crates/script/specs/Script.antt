-- What the readers of inputs answer.
use Rattle.std.specs.Prelude.{ℕ, suc, cond, ◌&&◌, List, leb, Option}
use Rattle.std.specs.Bool.{then_some}
use Rattle.machine.specs.Limits.{longest}
use Rattle.script.specs.Input.{is_input, length_of, letters_of, is_one_number}

-- the length and the letters
abbrev pub script_of : List ℕ → Option (ℕ × List ℕ)
script_of input = then_some (is_input input) (length_of input, letters_of input)

-- the number of an input of one number alone; one more than the longest length for any larger number and any other input
unfoldable pub number_of : List ℕ → ℕ
number_of input = cond (is_one_number input && leb (length_of input) longest) (length_of input) (suc longest)
