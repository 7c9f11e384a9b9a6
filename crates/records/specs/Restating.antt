-- What another state of a leaving record writes, on bytes.
use Rattle.std.specs.Prelude.{ℕ, ◌+◌, cond, ◌||◌, List, [], ◌∷◌, eqb}
use Rattle.octets.specs.Octets.{put}
use Rattle.machine.specs.Codes.{state_init, state_in_progress, state_aborted}
use Rattle.machine.specs.Layout.{state_at}

-- in the row that starts at byte `row`, state and timed-out mark are written: they stand side by side
abbrev pub restated : ℕ → ℕ → ℕ → List ℕ → List ℕ
restated row state out b = put b (row + state_at) (state ∷ out ∷ [])

-- Deadline wake: what the first one makes of a state, it "turns 0 or 1 into 4"
abbrev pub over_state : ℕ → ℕ
over_state state = cond (eqb state state_init || eqb state state_in_progress) state_aborted state
