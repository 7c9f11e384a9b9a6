-- The ways to cut a small survey into pieces, and the words in which their list is right: each stands once, in order. PROTOCOL, "Cuts".
use Rattle.std.specs.Prelude.{ℕ, zero, suc, ◌+◌, ◌*◌, ◌%◌, ◌≡◌, Bool, true, cond, ◌&&◌, List, [], ◌∷◌, ◌++◌, map, eqb, leb, ltb}
use Rattle.octets.specs.Octets.{same}
use Rattle.octets.specs.Bools.{one}
use Rattle.octets.specs.Lists.{all, All}
use Rattle.kept.specs.Sizes.{sum, less}

-- "sizes that are multiples of 250 from 250 to 1,250"
abbrev pub unit : ℕ
unit = 250

abbrev pub largest_cut : ℕ
largest_cut = 1250

abbrev pub is_size : ℕ → Bool
is_size x = eqb (x % unit) 0 && (leb unit x && leb x largest_cut)

-- ".. and add up to it"
abbrev pub is_cut : ℕ → List ℕ → Bool
is_cut total l = all is_size l && eqb (sum l) total

-- "a length that is a multiple of 250 from 250 to 3,000", twelve units
abbrev pub most_units : ℕ
most_units = 12

abbrev pub is_length : ℕ → Bool
is_length n = eqb (n % unit) 0 && (leb unit n && leb n (unit * most_units))

-- ---- the list

-- the cuts that begin with a size of s bytes or more, of s bytes and n units: the first size is s, or it is larger by a unit
unfoldable pub grow : ℕ → ℕ → List (List ℕ)
grow s zero = (s ∷ []) ∷ []
grow s (suc n) = map (λ (l : List ℕ). s ∷ l) (grow unit n) ++ cond (ltb s largest_cut) (grow (s + unit) n) []

-- the cuts of n units
unfoldable pub cuts : ℕ → List (List ℕ)
cuts zero = [] ∷ []
cuts (suc n) = grow unit n

-- ---- what is to be proved of it

-- "each stands once": how often a list stands among lists
abbrev pub stands : List ℕ → List (List ℕ) → ℕ
stands l [] = 0
stands l (m ∷ g) = one (same l m) + stands l g

-- "smaller first size first, then smaller second, and so on": each list is less than every later one
abbrev pub Rises : List (List ℕ) → Type 0
Rises [] = Unit {0}
Rises (l ∷ g) = All (λ m. less l m ≡ true) g × Rises g
