-- Small values of the test: on both sides of what it asks. Assumes nothing.
use Rattle.std.specs.Prelude.{◌≡◌, refl, true, false, [], ◌∷◌}
use Rattle.machine.specs.Limits.{most_cells}
use Rattle.kept.specs.Kept.{fits, keeps}

-- 1,301 bytes have two slots: one piece of all bytes is too few, with a second of none it is enough
pub two-slots : (keeps 1301 most_cells (1300 ∷ 1 ∷ []) ≡ true) × (keeps 1301 most_cells (1301 ∷ []) ≡ false)
    × (keeps 1301 most_cells (1301 ∷ 0 ∷ []) ≡ true)
unfolding fits
two-slots = (refl, refl, refl)

-- 249 bytes are short but at the end
pub short-last : (keeps 500 most_cells (249 ∷ 251 ∷ []) ≡ false) × (keeps 500 most_cells (251 ∷ 249 ∷ []) ≡ true)
    × (keeps 500 most_cells (250 ∷ 250 ∷ []) ≡ true)
unfolding fits
short-last = (refl, refl, refl)

-- 0 bytes: no piece, or one of 0 at top; a second has no index
pub no_bytes : (keeps 0 most_cells [] ≡ true) × (keeps 0 most_cells (0 ∷ []) ≡ true) × (keeps 0 most_cells (0 ∷ 0 ∷ []) ≡ false)
unfolding fits
no_bytes = (refl, refl, refl)

-- 250 bytes: their top is 0, so there is no second piece; of 251 it is 1
pub above-top : (keeps 250 most_cells (250 ∷ []) ≡ true) × (keeps 250 most_cells (250 ∷ 0 ∷ []) ≡ false) × (keeps 251 most_cells (251 ∷ 0 ∷ []) ≡ true)
unfolding fits
above-top = (refl, refl, refl)

-- three pieces want three cells
pub few-cells : (keeps 750 2 (250 ∷ 250 ∷ 250 ∷ []) ≡ false) × (keeps 750 3 (250 ∷ 250 ∷ 250 ∷ []) ≡ true)
unfolding fits
few-cells = (refl, refl)

-- a frame carries 1,364 bytes and no more
pub one-frame : (keeps 1365 most_cells (1364 ∷ 1 ∷ []) ≡ true) × (keeps 1365 most_cells (1365 ∷ 0 ∷ []) ≡ false)
unfolding fits
one-frame = (refl, refl)
