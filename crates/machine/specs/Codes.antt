-- The numbers by which PROTOCOL names refusals, roles, kinds and states, each once.
use Rattle.std.specs.Prelude.{ℕ, Bool, cond, not, ◌||◌, eqb}

-- ---- refusals: "Calls and answers", its table

abbrev pub bad_frame : ℕ
bad_frame = 1

abbrev pub short_output : ℕ
short_output = 2

abbrev pub bad_rules : ℕ
bad_rules = 3

abbrev pub closed_topic : ℕ
closed_topic = 4

abbrev pub already_whole : ℕ
already_whole = 5

abbrev pub too_long : ℕ
too_long = 6

abbrev pub no_record : ℕ
no_record = 7

abbrev pub unknown_id : ℕ
unknown_id = 8

abbrev pub past_end : ℕ
past_end = 9

abbrev pub high_index : ℕ
high_index = 10

abbrev pub short_piece : ℕ
short_piece = 11

abbrev pub no_cell : ℕ
no_cell = 12

abbrev pub wrong_count : ℕ
wrong_count = 13

abbrev pub gap : ℕ
gap = 14

abbrev pub wrong_total : ℕ
wrong_total = 15

abbrev pub wrong_sum : ℕ
wrong_sum = 16

abbrev pub no_key : ℕ
no_key = 17

abbrev pub wrong_state : ℕ
wrong_state = 18

abbrev pub no_such_piece : ℕ
no_such_piece = 19

abbrev pub no_work : ℕ
no_work = 20

abbrev pub topic_too_large : ℕ
topic_too_large = 21

abbrev pub id_in_use : ℕ
id_in_use = 22

abbrev pub none_whole : ℕ
none_whole = 23

abbrev pub bad_clock : ℕ
bad_clock = 24

abbrev pub unsound_store : ℕ
unsound_store = 25

abbrev pub bad_calendar : ℕ
bad_calendar = 26

abbrev pub short_frame : ℕ
short_frame = 27

abbrev pub source_full : ℕ
source_full = 28

abbrev pub bad_lengths : ℕ
bad_lengths = 29

abbrev pub no_cuts : ℕ
no_cuts = 30

abbrev pub no_plan : ℕ
no_plan = 31

-- ---- marks, roles, kinds, states

-- a number that means yes or no is yes when it is not 0
abbrev pub yes : ℕ → Bool
yes n = not (eqb n 0)

-- Label: role (1 receive, 2 send)
abbrev pub role_receive : ℕ
role_receive = 1

abbrev pub role_send : ℕ
role_send = 2

-- a role is one of the two
abbrev pub is_role : ℕ → Bool
is_role role = eqb role role_receive || eqb role role_send

-- Record: kind (0 free, 1 arriving, 2 whole, 3 leaving); a free record's row is zero but for its link
abbrev pub kind_arriving : ℕ
kind_arriving = 1

abbrev pub kind_whole : ℕ
kind_whole = 2

abbrev pub kind_leaving : ℕ
kind_leaving = 3

-- Sound: kinds 1 and 2 only in role 1, 3 only in role 2
abbrev pub held_kind : ℕ → ℕ
held_kind role = cond (eqb role role_receive) kind_arriving kind_leaving

-- Steps: send states 0 Init, 1 InProgress, 2 Received, 3 Read, 4 Aborted
abbrev pub state_init : ℕ
state_init = 0

abbrev pub state_in_progress : ℕ
state_in_progress = 1

abbrev pub state_received : ℕ
state_received = 2

abbrev pub state_read : ℕ
state_read = 3

abbrev pub state_aborted : ℕ
state_aborted = 4

-- Cell: Started 0, Sent 1, Acked 2
abbrev pub piece_started : ℕ
piece_started = 0

abbrev pub piece_sent : ℕ
piece_sent = 1

abbrev pub piece_acked : ℕ
piece_acked = 2
