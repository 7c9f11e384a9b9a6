-- The inputs of the classroom: the length of a survey in decimal on one line and, on a second that may be absent, letters.
-- A line ends in a line feed, which the last may lack. Behind them, inputs of one number alone.
use Rattle.std.specs.Prelude.{ℕ, ◌+◌, ◌-◌, ◌*◌, Bool, not, cond, ◌&&◌, ◌||◌, List, [], ◌∷◌, length, get_or, eqb, leb, ltb}
use Rattle.octets.specs.Lists.{all}
use Rattle.machine.specs.Limits.{longest}

-- the bytes that have a meaning: LF, 0, 9, D, L, R
abbrev pub line_feed : ℕ
line_feed = 10

abbrev pub digit_zero : ℕ
digit_zero = 48

abbrev pub digit_nine : ℕ
digit_nine = 57

abbrev pub delivered : ℕ
delivered = 68

abbrev pub lost : ℕ
lost = 76

abbrev pub repeated : ℕ
repeated = 82

-- the first line, without its line feed
unfoldable pub line : List ℕ → List ℕ
line [] = []
line (x ∷ l) = cond (eqb x line_feed) [] (x ∷ line l)

-- what is behind the first line feed
unfoldable pub behind : List ℕ → List ℕ
behind [] = []
behind (x ∷ l) = cond (eqb x line_feed) l (behind l)

abbrev pub is_digit : ℕ → Bool
is_digit x = leb digit_zero x && leb x digit_nine

abbrev pub is_letter : ℕ → Bool
is_letter x = eqb x delivered || eqb x lost || eqb x repeated

-- the number that digits continue
unfoldable pub value : ℕ → List ℕ → ℕ
value n [] = n
value n (x ∷ l) = value (10 * n + (x - digit_zero)) l

-- "a decimal has no leading zero but 0 itself"
unfoldable pub decimal : List ℕ → Bool
decimal l = ltb 0 (length l) && ((ltb (length l) 2 || not (eqb (get_or l 0 0) digit_zero)) && all is_digit l)

-- "0 to 2,000 letters"
abbrev pub most_letters : ℕ
most_letters = 2000

abbrev pub length_of : List ℕ → ℕ
length_of input = value 0 (line input)

abbrev pub letters_of : List ℕ → List ℕ
letters_of input = line (behind input)

-- an input: nothing stands behind the second line
unfoldable pub is_input : List ℕ → Bool
is_input input =
    decimal (line input)
    && (leb (length_of input) longest
    && (leb (length (letters_of input)) most_letters && (all is_letter (letters_of input) && eqb (length (behind (behind input))) 0)))

-- ---- an input of one number

-- the only line is a decimal, and nothing stands behind it
unfoldable pub is_one_number : List ℕ → Bool
is_one_number input = decimal (line input) && eqb (length (behind input)) 0
