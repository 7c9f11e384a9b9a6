-- A row of refusals: tests in the order of PROTOCOL, "Calls and answers". Each line of a row says what must hold, and the number that is answered where it
-- does not.
use Rattle.std.specs.Prelude.{ℕ, Bool, false, cond, List, [], ◌∷◌}
use Rattle.std.proofs.Math.Option.{Option, none, some}
use Rattle.machine.specs.Codes.{unknown_id}
use Rattle.machine.specs.Values.{Rec}

-- tests with their numbers
abbrev pub Refusals : Type 0
Refusals = List (Bool × ℕ)

-- the number of the first test that fails; 0: done
unfoldable pub refusal : Refusals → ℕ
refusal [] = 0
refusal (t ∷ l) = cond t.0 (refusal l) t.1

-- row 8: there must be a record of the needed kind; what follows is asked of it
abbrev pub asks_of : Option Rec → (Rec → Refusals) → Refusals
asks_of none tests = (false, unknown_id) ∷ []
asks_of (some r) tests = tests r

-- .. nothing more
abbrev pub held_row : Option Rec → Refusals
held_row o = asks_of o (λ r. [])
