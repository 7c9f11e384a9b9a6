-- The row of refusals of a report, behind the test of the store (25).
use Rattle.std.specs.Prelude.{ℕ, List, ◌∷◌, length, leb}
use Rattle.std.proofs.Math.Option.{Option}
use Rattle.machine.specs.Codes.{short_output}
use Rattle.machine.specs.Values.{Rec}
use Rattle.machine.specs.Refusals.{Refusals, held_row}
use Rattle.machine.specs.Report.{report_room}

-- a report into a buffer: 2, 8
abbrev pub report_tests : List ℕ → Option Rec → Refusals
report_tests out o = (leb report_room (length out), short_output) ∷ held_row o
