-- The row of a free record or cell: zero but for its link. Assumes nothing.
use Rattle.std.specs.Prelude.{ℕ, ◌<◌, ◌≡◌, refl, true, List, [], ◌∷◌, map, length, get_or}
use Rattle.std.proofs.Common.{arith, ap, ◌∙◌}
use Rattle.octets.specs.Octets.{Bytes}
use Rattle.machine.specs.Rows.{pad}
use Rattle.machine.specs.Layout.{free_place, free_row}
use Rattle.machine.specs.Sound.{free_shape}
use Rattle.machine_laws.specs.Fields.{gets-is, pad-row, pad-zero, length-pad, bytes-pad, bytes-cons, bytes-nil}

-- a row that is zero behind its link is the free row with that link
pub free-row : (size p : ℕ) (row : List ℕ) → 0 < size → length row ≡ size → free_shape size row ≡ true → row ≡ free_row size (get_or row 0 0) p
free-row size p row h e z = pad-row size 1 row e h z ∙ ap (pad size) (gets-is row 0 1 (omega arith))

module _ (size next p : ℕ) where
  pub free-shape : free_shape size (free_row size next p) ≡ true
  free-shape = pad-zero size 1 (next ∷ []) refl

  pub free-length : 0 < size → length (free_row size next p) ≡ size
  free-length h = length-pad size (next ∷ []) h

  pub free_bytes : next < 256 → Bytes (free_row size next p)
  free_bytes h = bytes-pad size (next ∷ []) (bytes-cons next [] h bytes-nil)

-- a free row's place is all there is of it
pub free-map : (l : List ℕ) → map free_place l ≡ l
free-map [] = refl
free-map (p ∷ l) = ap (λ (x : List ℕ). p ∷ x) (free-map l)
