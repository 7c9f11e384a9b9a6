-- What is known of the bytes that the code takes for a calendar.
use Rattle.std.specs.Prelude.{ℕ, ◌≡◌, List, length}
use Rattle.calendar.specs.Calendar.{number, closed_at}

-- they end where the last date does
abbrev pub Sized : List ℕ → Type 0
Sized b = length b ≡ closed_at (number b)
