-- Chains, in general: rows of which each one's first byte is the place of the next. Links count from 1; zero ends a chain.
use Rattle.std.specs.Prelude.{ℕ, zero, suc, cond, List, [], ◌∷◌, map, get_or, eqb}
use Rattle.machine.specs.Rows.{Row}

-- the place that a chain starts at, 0 for none
abbrev pub first : List ℕ → ℕ
first [] = 0
first (p ∷ ps) = p

-- the byte of a row that has its link
abbrev pub next_at : ℕ
next_at = 0

-- the link of the row at a place
abbrev pub link : (ℕ → List ℕ) → ℕ → ℕ
link row p = get_or (row p) next_at 0

-- the places met by following links from p on, at most n of them
unfoldable pub walk : (ℕ → ℕ) → ℕ → ℕ → List ℕ
walk next zero p = []
walk next (suc n) p = cond (eqb p 0) [] (p ∷ walk next n (next p))

-- the rows of a chain, each with the place of the next as its link
module _ {A : Type 0} (place : A → ℕ) (row : ℕ → A → List ℕ) where
  abbrev pub chain_rows : List A → List Row
  chain_rows [] = []
  chain_rows (a ∷ l) = record { place = place a; bytes = row (first (map place l)) a } ∷ chain_rows l
