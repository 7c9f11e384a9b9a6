-- How many digits a sum has. Assumes nothing.
use Rattle.std.specs.Prelude.{◌≡◌, refl, List, [], ◌∷◌, ℕ, ◌*◌, length}
use Rattle.std.proofs.Common.{arith}
use Rattle.blake3.specs.Tree.{blake3}
use Rattle.blake3.specs.Laws.{length-blake3}
use Rattle.sums.specs.Line.{hexadecimal}

-- two digits for each byte are twice as many
length-hexadecimal : (l : List ℕ) → length (hexadecimal l) ≡ 2 * length l
unfolding hexadecimal
length-hexadecimal [] = refl
length-hexadecimal (x ∷ l) = omega (arith, length-hexadecimal l)

-- a sum has 64 digits
pub length_digits : (input : List ℕ) → length (hexadecimal (blake3 input)) ≡ 64
length_digits input = omega (arith, length-hexadecimal (blake3 input), length-blake3 input)
