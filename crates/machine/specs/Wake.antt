-- Wake, of both kinds, as a function from its bytes and numbers to its outcome: PROTOCOL, "Calls and answers" and "The tablet".
use Rattle.std.specs.Prelude.{ℕ, Bool, cond, not, ◌||◌, List, [], ◌∷◌, length, eqb, leb}
use Rattle.std.proofs.Math.Option.{Option, none, some}
use Rattle.calendar.specs.Calendar.{well_formed, is_open}
use Rattle.machine.specs.Codes.{role_send, short_output, no_work, unsound_store, bad_calendar}
use Rattle.machine.specs.Values.{Cell, Rec, Store}
use Rattle.machine.specs.Layout.{decode}
use Rattle.machine.specs.Sound.{sound}
use Rattle.machine.specs.Refusals.{Refusals, refusal, held_row}
use Rattle.machine.specs.Receive.{found}
use Rattle.machine.specs.Send.{change, sent_pieces, wake_out, woken, deadline_out, deadline_at}
use Rattle.machine.specs.Outcomes.{SendOutcome, send_at}

-- "Send wake (kind 1)", "Deadline wake (kind 2)"
abbrev pub send_wake : ℕ
send_wake = 1

abbrev pub deadline_wake : ℕ
deadline_wake = 2

-- who is woken, how and when; the calendar and the Unix milliseconds are a send wake's
pub record Wake : Type 0 where
  pub kind : ℕ
  pub id : List ℕ
  pub clock : ℕ
  pub calendar : List ℕ
  pub unix : ℕ

abbrev pub sends : Wake → Bool
sends w = eqb w.kind send_wake

-- row 26: a send wake's calendar; no other wake looks at it
abbrev pub dated : Wake → Bool
dated w = not (sends w) || well_formed w.calendar

-- a send wake sends and stamps nothing outside hours
abbrev pub in_hours : Wake → Bool
in_hours w = is_open w.calendar w.unix

-- row 2: a wake's run buffer, by its kind
abbrev pub send_wake_room : ℕ
send_wake_room = 10960

abbrev pub deadline_wake_room : ℕ
deadline_wake_room = 46

abbrev pub wake_room : ℕ → ℕ
wake_room kind = cond (eqb kind send_wake) send_wake_room deadline_wake_room

-- wake 20, 26, 2, 8, on a store and with room for a run
abbrev pub wake_tests : Wake → Store → ℕ → Refusals
wake_tests w s room =
    (sends w || eqb w.kind deadline_wake, no_work)
    ∷ (dated w, bad_calendar)
    ∷ (leb (wake_room w.kind) room, short_output)
    ∷ held_row (found w.id s.held)

-- .. behind 25
unfoldable pub wake_row : Wake → List ℕ → List ℕ → Refusals
wake_row w send out = (sound role_send send, unsound_store) ∷ wake_tests w (decode send) (length out)

-- what is sent of the record that was found
unfoldable pub wake_run : Wake → Option Rec → List ℕ
wake_run w none = []
wake_run w (some r) = cond (sends w) (cond (in_hours w) (wake_out w.clock r) []) (deadline_out r)

-- .. and which pieces of it: "the number of piece packets sent" is how many they are
unfoldable pub wake_pieces : Wake → Option Rec → List Cell
wake_pieces w none = []
wake_pieces w (some r) = cond (sends w) (cond (in_hours w) (sent_pieces w.clock r) []) []

-- what becomes of the send store
unfoldable pub wake_step : Wake → Store → Store
wake_step w s =
    cond (sends w) (cond (in_hours w) (change (woken w.clock) w.id s) s) (deadline_at (found w.id s.held) s)

-- what a wake leaves where its row answers n
abbrev pub wake_at : ℕ → Wake → List ℕ → List ℕ → SendOutcome
wake_at n w send out =
    let r = found w.id (decode send).held in
    send_at n (wake_step w (decode send)) (wake_run w r) (length (wake_pieces w r)) send out

-- the wake call, with who is woken, how and when as one value
abbrev pub wake_answer : Wake → List ℕ → List ℕ → SendOutcome
wake_answer w send out = wake_at (refusal (wake_row w send out)) w send out

-- wake, as the code has its parameters
abbrev pub waking : ℕ → List ℕ → ℕ → List ℕ → ℕ → Wake
waking kind id clock calendar unix = record { kind = kind; id = id; clock = clock; calendar = calendar; unix = unix }

unfoldable pub wake_of : List ℕ → ℕ → List ℕ → ℕ → List ℕ → ℕ → List ℕ → SendOutcome
wake_of send kind id clock calendar unix out = wake_answer (waking kind id clock calendar unix) send out
