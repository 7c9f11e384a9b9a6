-- What a step leaves where its row answers a number.
use Rattle.std.specs.Prelude.{ℕ, cond, List, eqb}
use Rattle.machine.specs.Values.{Store}
use Rattle.machine.specs.Layout.{encode}

-- what a step leaves of one store: its number, and the store that comes where that is 0
pub record Stepped : Type 0 where
  pub number : ℕ
  pub store : List ℕ

abbrev pub stepped : ℕ → Store → List ℕ → Stepped
stepped n s b = record { number = n; store = cond (eqb n 0) (encode s) b }
