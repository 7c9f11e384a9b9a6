-- The line that the code keeps of the pieces that a wake sends: eight places in the order of sending, with no piece behind the last one.
use Rattle.std.specs.Prelude.{ℕ, suc, Bool, true, cond, List, ◌++◌, map, take, replicate, ltb, Option, Some, None}
use Rattle.std.specs.List.{position_or_len, insert}
use Rattle.machine.specs.Values.{Cell}
use Rattle.machine.specs.Choice.{is_started, most_sent}
use Rattle.machine_steps.proofs.Waiting.{wants}
use Rattle.outbox.specs.declared.choice.Turn.{Turn}

-- a lower rank goes first: Started ones, then by the oldest stamp
abbrev pub rank : Cell → ℕ
rank c = cond (is_started c) 0 (suc c.stamp)

-- the rank of a piece that is sent now
abbrev pub ranked : ℕ → Cell → Option ℕ
ranked clock c = cond (wants clock c) (Some (rank c)) None

-- whether a piece of rank r goes before what stands in a place of the line
abbrev pub goes_before : ℕ → Option Turn → Bool
goes_before r None = true
goes_before r (Some t) = ltb r t.rank

-- how many of a line go before a piece of rank r
abbrev pub turn : ℕ → List (Option Turn) → ℕ
turn r line = position_or_len (goes_before r) line

-- a piece comes in at its turn; of nine the last one goes
abbrev pub put_in : Turn → List (Option Turn) → List (Option Turn)
put_in t line = take most_sent (insert line (turn t.rank line) (Some t))

-- the turn of a piece, and the line of the first eight pieces
abbrev pub turn_of : Cell → Turn
turn_of c = record { rank = rank c; place = c.place }

abbrev pub line_of : List Cell → List (Option Turn)
line_of l = take most_sent (map (λ c. Some (turn_of c)) l ++ replicate most_sent None)
