-- The pieces joined at the start of a buffer. Assumes nothing.
use Prim.Native.Nat.{ℕ, ◌-◌, ◌≤◌}
use native.Mathlib.Omega.{arith}
use mathlib.Core.Path.{◌≡◌, ap, ◌∙◌}
use mathlib.Core.List.{List}
use lib.ListN.{length, take, drop}
use Rattle.octets.specs.Octets.{part, put}
use Rattle.octets.specs.PartsLaws.{part_of, part-put-same}
use Rattle.machine.specs.Values.{Cell}
use Rattle.machine.specs.Sound.{sizes}
use Rattle.machine.specs.Pieces.{joined}
use Rattle.machine_steps.proofs.ByIndex.{length-joined}

-- are all of its first bytes
pub sum_of : (l : List Cell) (z m : List ℕ) (n : ℕ) → sizes l ≤ length z → n ≡ sizes l → m ≡ put z 0 (joined l) → take (n - 0) (drop 0 m) ≡ joined l
sum_of l z m n h e f =
    let s = length-joined l in
    part_of m 0 n (length (joined l)) (omega arith) ∙ ap (λ (x : List ℕ). part x 0 (length (joined l))) f ∙ part-put-same z 0 (joined l) (omega arith)
