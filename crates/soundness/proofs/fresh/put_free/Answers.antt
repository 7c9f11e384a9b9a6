-- The link and the zeros behind it are one write. Assumes nothing.
use native.Mathlib.Omega.{arith}
use mathlib.Core.Path.{refl}
use mathlib.Core.List.{[], ◌∷◌}
use Rattle.octets.specs.PartsLaws.{more}
use Rattle.soundness.proofs.fresh.put_free.Goals as goal

pub returns : goal.returns
returns c =
    more _ _ _ _ _ (_ ∷ []) _ c.copy_in.ensures c.fill.ensures refl (omega arith)
