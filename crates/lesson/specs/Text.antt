-- What is shown: a line after the push and after each round.
use Rattle.std.specs.Prelude.{ℕ, zero, suc, ◌+◌, ◌/◌, ◌%◌, cond, List, [], ◌∷◌, ◌++◌, get_or, replicate, ltb}
use Rattle.machine.specs.Report.{report_room, report_of}
use Rattle.script.specs.Input.{line_feed, digit_zero}
use Rattle.lesson.specs.Room.{Room}
use Rattle.lesson.specs.Lesson.{survey_id, fresh, pushed, round}

abbrev pub blank : ℕ
blank = 32

-- the last digit of a number
abbrev pub digit : ℕ → ℕ
digit n = digit_zero + n % 10

-- a number below 1,000 in decimal
unfoldable pub decimal_of : ℕ → List ℕ
decimal_of n =
    cond (ltb n 10) (digit n ∷ []) (cond (ltb n 100) (digit (n / 10) ∷ digit n ∷ []) (digit (n / 100) ∷ digit (n / 10) ∷ digit n ∷ []))

-- .. and what stands behind it
abbrev pub item : ℕ → ℕ → List ℕ
item n end = decimal_of n ++ (end ∷ [])

-- "the round, send state and the three counts": bytes 16 to 19 of the report on a send store
abbrev pub line_from : ℕ → List ℕ → List ℕ
line_from k report =
    item k blank ++ item (get_or report 16 0) blank ++ item (get_or report 17 0) blank ++ item (get_or report 18 0) blank ++ item (get_or report 19 0)
    line_feed

unfoldable pub line_of : ℕ → List ℕ → List ℕ
line_of k send = line_from k (report_of send survey_id (replicate report_room 0)).out

-- n rounds from round k on, each with its line
unfoldable pub lines_from : ℕ → ℕ → Room → List ℕ
lines_from zero k s = []
lines_from (suc n) k s = line_of k (round k s).tablet.send ++ lines_from n (suc k) (round k s)

-- "after push and after each of rounds 1 to 50"
abbrev pub rounds : ℕ
rounds = 50

abbrev pub lines_after : Room → List ℕ
lines_after s = line_of 0 s.tablet.send ++ lines_from rounds 1 s

-- the lines for a survey of a length over a link with letters
unfoldable pub lesson_of : ℕ → List ℕ → List ℕ
lesson_of n letters = lines_after (pushed n (fresh letters))
