-- The eight mixing steps of a round, one after the other, are the four columns and then the four diagonals side by side: on any state and any message
-- words. Assumes nothing.
use Rattle.std.specs.Prelude.{◌≡◌, ℕ, List, refl}
use Rattle.blake3.specs.Rounds.{step, round}
use Rattle.blake3.specs.SideBySide.{upright, slanted, columns, diagonals}

pub round_is : (s m : List ℕ) → round s m ≡ diagonals (columns s m) m
unfolding step round upright slanted columns diagonals
round_is s m = refl
