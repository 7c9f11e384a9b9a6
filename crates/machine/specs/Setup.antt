-- Setup, as a function from its bytes and numbers to its outcome: PROTOCOL, "Calls and answers" and "Stores".
use Rattle.std.specs.Prelude.{ℕ, cond, List, length}
use Rattle.answer.specs.Answers.{bare}
use Rattle.machine.specs.Codes.{unsound_store}
use Rattle.machine.specs.Layout.{encode}
use Rattle.machine.specs.Sound.{fresh, setup_cells, allowed}
use Rattle.machine.specs.Outcomes.{SetupOutcome}

-- setup 25
unfoldable pub setup_of : List ℕ → ℕ → SetupOutcome
setup_of store role =
    cond (allowed (length store) role)
    (record { answer = bare 0; store = encode (fresh role (setup_cells (length store))) })
    (record { answer = bare unsound_store; store = store })
