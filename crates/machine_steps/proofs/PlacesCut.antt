-- Data cut into pieces lies in the first free cells, in their order. Assumes nothing.
use Rattle.std.specs.Prelude.{ℕ, zero, suc, ◌≤◌, ◌≡◌, refl, List, [], ◌∷◌, map, length, take, drop}
use Rattle.std.proofs.Common.{arith, ap}
use Rattle.machine.specs.Limits.{cut_by}
use Rattle.machine.specs.Layout.{cell_place}
use Rattle.machine.specs.Pieces.{cut_pieces}

-- its places are the first n
pub places-cut : (n i : ℕ) (places bytes : List ℕ) → n ≤ length places → map cell_place (cut_pieces n i places bytes) ≡ take n places
unfolding cut_pieces
places-cut zero i places bytes h = refl
places-cut (suc n) i [] bytes h = absurd (omega arith)
places-cut (suc n) i (p ∷ l) bytes h = ap (λ (x : List ℕ). p ∷ x) (places-cut n (suc i) l (drop cut_by bytes) (omega arith))
