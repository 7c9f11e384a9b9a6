-- What taking asks of a store.
use Rattle.std.specs.Prelude.{ℕ, ◌≡◌, true, List}
use Rattle.machine.specs.Codes.{role_receive}
use Rattle.machine.specs.Layout.{whole_at}
use Rattle.machine.specs.Sound.{sound}
use Rattle.records.specs.Releasing.{Droppable}

-- a sound receive store with a whole record
pub record Takable (b : List ℕ) : Type 0 where
  pub sound : sound role_receive b ≡ true
  pub linked : Droppable whole_at b
