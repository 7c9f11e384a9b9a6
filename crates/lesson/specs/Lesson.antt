-- The run: the tablet pushes a survey, and wakes once in each of 50 rounds.
use Rattle.std.specs.Prelude.{ℕ, ◌*◌, List, [], ◌∷◌, ◌++◌, take, replicate}
use Rattle.octets.specs.Octets.{be}
use Rattle.machine.specs.Limits.{most_cells, store_bytes}
use Rattle.machine.specs.Codes.{role_receive, role_send}
use Rattle.machine.specs.Outcomes.{SendOutcome}
use Rattle.machine.specs.Setup.{setup_of}
use Rattle.machine.specs.Push.{push_room, push_of}
use Rattle.machine.specs.Wake.{send_wake, send_wake_room, wake_of}
use Rattle.link.specs.Link.{put_out}
use Rattle.lesson.specs.Room.{Node, Room, tablet_address, office_address, settled}

-- "fresh with 45 cells each"
unfoldable pub fresh_store : ℕ → List ℕ
fresh_store role = (setup_of (replicate (store_bytes most_cells) 0) role).store

abbrev pub fresh_node : Node
fresh_node = record { recv = fresh_store role_receive; send = fresh_store role_send }

abbrev pub fresh : List ℕ → Room
fresh letters = record { tablet = fresh_node; office = fresh_node; link = record { queue = []; letters = letters } }

-- the survey: its id, no topic, no reply, all its bytes 0
abbrev pub survey_id : List ℕ
survey_id = 0 ∷ 0 ∷ 0 ∷ 0 ∷ 0 ∷ 0 ∷ 0 ∷ 1 ∷ []

abbrev pub survey : ℕ → List ℕ
survey n = replicate n 0

-- "hours open": all day on every weekday, by UTC, with no closed date
abbrev pub all_day : List ℕ
all_day = be 2 0 ++ be 2 1440

abbrev pub open_hours : List ℕ
open_hours = all_day ++ all_day ++ all_day ++ all_day ++ all_day ++ all_day ++ all_day ++ be 2 720 ++ (0 ∷ [])

-- the tablet puts a run out, and all is delivered
unfoldable pub sent : SendOutcome → Room → Room
sent o s =
    settled
    (record {
      tablet = record { recv = s.tablet.recv; send = o.send };
      office = s.office;
      link = put_out (take o.answer.run o.out) s.link;
    })

-- "The push is at 0 ms"
unfoldable pub pushed : ℕ → Room → Room
pushed n s = sent (push_of s.tablet.send survey_id 0 tablet_address office_address [] (survey n) 0 0 (replicate push_room 0)) s

-- "round k wakes once, at 100 × k"
abbrev pub clock_of : ℕ → ℕ
clock_of k = 100 * k

unfoldable pub round : ℕ → Room → Room
round k s = sent (wake_of s.tablet.send send_wake survey_id (clock_of k) open_hours (clock_of k) (replicate send_wake_room 0)) s
