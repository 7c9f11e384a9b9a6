-- Report, as a function from its bytes and numbers to its outcome: PROTOCOL, "Calls and answers" and "The tablet".
use Rattle.std.specs.Prelude.{ℕ, ◌/◌, cond, List, [], ◌∷◌, ◌++◌, map, length, eqb, leb}
use Rattle.std.proofs.Math.Option.{Option, none, some}
use Rattle.octets.specs.Octets.{put, be}
use Rattle.answer.specs.Answers.{bare}
use Rattle.machine.specs.Limits.{second}
use Rattle.machine.specs.Codes.{role_send, state_in_progress, piece_started, piece_sent, piece_acked, short_output, unsound_store}
use Rattle.machine.specs.Values.{Cell, Rec}
use Rattle.machine.specs.Counting.{occurs}
use Rattle.machine.specs.Layout.{decode, number_width}
use Rattle.machine.specs.Sound.{sound}
use Rattle.machine.specs.Refusals.{Refusals, refusal, held_row}
use Rattle.machine.specs.Receive.{found}
use Rattle.machine.specs.Outcomes.{ReportOutcome}

-- row 2: a report's buffer
abbrev pub report_room : ℕ
report_room = 44

-- report 25, 2, 8
unfoldable pub report_row : List ℕ → List ℕ → List ℕ → Refusals
report_row send id out = (sound role_send send, unsound_store) ∷ (leb report_room (length out), short_output) ∷ held_row (found id (decode send).held)

-- "counts of Started, Sent and Acked (1 each; 0 unless state 1)"
abbrev pub counted : ℕ → Rec → ℕ
counted state r = cond (eqb r.sending.state state_in_progress) (occurs state (map (λ (c : Cell). c.state) r.cells)) 0

-- "destination (16), state (1), counts .., created and end in whole seconds (8 each), length (8)"
unfoldable pub reported : Option Rec → List ℕ
reported none = []
reported (some r) =
    r.label.destination
    ++ (r.sending.state ∷ counted piece_started r ∷ counted piece_sent r ∷ counted piece_acked r ∷ [])
    ++ be number_width (r.sending.created / second)
    ++ be number_width (r.sending.end / second)
    ++ be number_width r.label.total

-- with the number that its row gives: the report at the start of the buffer
abbrev pub report_at : ℕ → Option Rec → List ℕ → ReportOutcome
report_at n r out = record { answer = bare n; out = cond (eqb n 0) (put out 0 (reported r)) out }

-- report, as the code has its parameters
unfoldable pub report_of : List ℕ → List ℕ → List ℕ → ReportOutcome
report_of send id out = report_at (refusal (report_row send id out)) (found id (decode send).held) out
