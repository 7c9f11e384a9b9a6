-- What the program writes for what it reads: a line for each cut of the length, and for any other input nothing. PROTOCOL, "Cuts".
use Rattle.std.specs.Prelude.{ℕ, cond, ◌&&◌, List, []}
use Rattle.script.specs.Input.{length_of, is_one_number}
use Rattle.cutter.specs.Cuts.{is_length}
use Rattle.cutter.specs.Text.{text_of}

unfoldable pub cuts_text : List ℕ → List ℕ
cuts_text input = cond (is_one_number input && is_length (length_of input)) (text_of (length_of input)) []
