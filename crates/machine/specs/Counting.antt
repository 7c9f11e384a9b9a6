-- "Each in one chain", said by counting: how often a place stands in the chains together; and a measure of the elements of a list, added up.
use Rattle.std.specs.Prelude.{ℕ, zero, suc, ◌+◌, Bool, true, ◌&&◌, List, [], ◌∷◌, eqb, leb, ltb}
use Rattle.octets.specs.Bools.{one}
use Rattle.octets.specs.Lists.{all}

-- how often k stands in a list
abbrev pub occurs : ℕ → List ℕ → ℕ
occurs k [] = 0
occurs k (x ∷ l) = one (eqb k x) + occurs k l

-- k is from 1 to n
abbrev pub inside : ℕ → ℕ → Bool
inside n k = ltb 0 k && leb k n

-- each place from 1 to n stands in l once
unfoldable pub each : ℕ → List ℕ → Bool
each zero l = true
each (suc n) l = each n l && eqb (occurs (suc n) l) 1

-- each place from 1 to n stands in l once, and nothing else does
abbrev pub once : ℕ → List ℕ → Bool
once n l = all (inside n) l && each n l

-- the n places from k on: fresh free chains rise from 1
unfoldable pub rise : ℕ → ℕ → List ℕ
rise k zero = []
rise k (suc n) = k ∷ rise (suc k) n

-- a measure of the elements of a list, added up
abbrev pub total : {A : Type 0} → (A → ℕ) → List A → ℕ
total f [] = 0
total f (a ∷ l) = f a + total f l
