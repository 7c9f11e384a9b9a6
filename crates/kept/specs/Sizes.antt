-- Lists of sizes: what they add up to, and which of two is less.
use Rattle.std.specs.Prelude.{ℕ, ◌+◌, Bool, true, false, ◌&&◌, ◌||◌, List, [], ◌∷◌, eqb, ltb}

-- the sum of sizes
abbrev pub sum : List ℕ → ℕ
sum [] = 0
sum (x ∷ l) = x + sum l

-- "smaller first size first, then smaller second, and so on"; of two that begin alike the shorter is less
unfoldable pub less : List ℕ → List ℕ → Bool
less [] [] = false
less [] (y ∷ m) = true
less (x ∷ l) [] = false
less (x ∷ l) (y ∷ m) = ltb x y || (eqb x y && less l m)
