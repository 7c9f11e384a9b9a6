-- What the program `plain_sum` writes: PROTOCOL, "Sums".
use Rattle.std.specs.Prelude.{ℕ, ◌+◌, ◌/◌, ◌%◌, cond, List, [], ◌∷◌, ◌++◌, length, leb}
use Rattle.blake3.specs.Tree.{blake3}

-- the hexadecimal digit of a number below 16, in lower case: 0 to 9, then a to f
abbrev pub hex_digit : ℕ → ℕ
hex_digit n = cond (leb n 9) (48 + n) (87 + n)

-- two digits for each byte, the upper half first
unfoldable pub hexadecimal : List ℕ → List ℕ
hexadecimal [] = []
hexadecimal (b ∷ l) = hex_digit (b / 16) ∷ hex_digit (b % 16) ∷ hexadecimal l

abbrev pub line_feed : ℕ
line_feed = 10

-- "standard input, up to 65,536 bytes"
abbrev pub longest_input : ℕ
longest_input = 65536

-- "the plain sum .. as 64 lowercase hexadecimal digits and a line end, and for a longer one nothing"
unfoldable pub sum_line : List ℕ → List ℕ
sum_line input = cond (leb (length input) longest_input) (hexadecimal (blake3 input) ++ (line_feed ∷ [])) []
