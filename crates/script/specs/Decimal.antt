-- Numbers written in decimal.
use Rattle.std.specs.Prelude.{ℕ, zero, suc, ◌+◌, ◌/◌, ◌%◌, cond, List, [], ◌∷◌, ◌++◌, ltb}
use Rattle.script.specs.Input.{digit_zero}

-- a number of at most so many digits, without leading zeros
unfoldable pub digits_of : ℕ → ℕ → List ℕ
digits_of zero n = []
digits_of (suc digits) n = cond (ltb n 10) ((digit_zero + n) ∷ []) (digits_of digits (n / 10) ++ ((digit_zero + n % 10) ∷ []))

-- a number of 64 bits has 20 digits at most
abbrev pub most_digits : ℕ
most_digits = 20

abbrev pub decimal_of : ℕ → List ℕ
decimal_of n = digits_of most_digits n
