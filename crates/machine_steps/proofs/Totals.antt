-- Places counted over a list are a total over its elements. Assumes nothing.
use Rattle.std.specs.Prelude.{ℕ, ◌≡◌, refl, List, [], ◌∷◌, map, eqb}
use Rattle.std.proofs.Common.{arith}
use Rattle.octets.specs.Bools.{one}
use Rattle.machine.specs.Counting.{occurs, total}

module _ {A : Type 0} where
  -- how often a place stands among the places of a list
  pub occurs-total : (place : A → ℕ) (k : ℕ) (l : List A) → occurs k (map place l) ≡ total (λ (a : A). one (eqb k (place a))) l
  occurs-total place k [] = refl
  occurs-total place k (a ∷ l) = omega (arith, occurs-total place k l)
