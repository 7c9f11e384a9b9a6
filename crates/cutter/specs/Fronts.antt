-- What the code's contracts say of lines that begin alike: a front of bytes, and behind it every line of a growing size.
use Rattle.std.specs.Prelude.{ℕ, ◌+◌, ◌*◌, ◌/◌, ◌%◌, ◌≤◌, ◌≡◌, true, List, [], ◌∷◌, ◌++◌, length}
use Rattle.octets.specs.Octets.{put}
use Rattle.script.specs.Input.{digit_zero}
use Rattle.cutter.specs.Cuts.{unit, is_size, most_units, grow}
use Rattle.cutter.specs.Text.{line_of}

-- the last digit of a number
abbrev pub digit : ℕ → ℕ
digit n = digit_zero + n % 10

-- a text is written at a place of a buffer, and where it ends
pub record Wrote (before : List ℕ) (at : ℕ) (text after : List ℕ) (end : ℕ) : Type 0 where
  pub is : after ≡ put before at text
  pub ends : end ≡ at + length text

-- lines, each behind the same front
unfoldable pub lines_behind : List ℕ → List (List ℕ) → List ℕ
lines_behind front [] = []
lines_behind front (l ∷ g) = (front ++ line_of l) ++ lines_behind front g

-- .. of a size that may grow, with so many units left
abbrev pub growing : List ℕ → ℕ → ℕ → List ℕ
growing front size left = lines_behind front (grow size left)

-- the size is one of a piece, the front has at most 4 bytes for each unit that is used up, and the lines fit
pub record Room (front : List ℕ) (size left : ℕ) (out : List ℕ) (at : ℕ) : Type 0 where
  pub sized : is_size size ≡ true
  pub short : length front + 4 * (size / unit + left) ≤ 4 * most_units
  pub fits : at + length (growing front size left) ≤ length out
