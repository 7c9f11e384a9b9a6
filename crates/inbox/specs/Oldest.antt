-- What a take starts from.
use Rattle.std.specs.Prelude.{ℕ, ◌<◌, List, get_or}
use Rattle.machine.specs.Layout.{whole_at}
use Rattle.records.specs.HeldAt.{Receives}

-- a sound store to receive, with a whole record
pub record Oldest (b : List ℕ) : Type 0 where
  pub sound : Receives b
  pub some : 0 < get_or b whole_at 0
