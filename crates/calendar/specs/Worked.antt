-- Worked values: days with the dates and weekdays that they should have, and calendars with times and what they should answer. WorkedLaws has the statements
-- that cover the two tables.
use Rattle.std.specs.Prelude.{ℕ, zero, suc, ◌+◌, ◌*◌, ◌-◌, cond, List, [], ◌∷◌, ◌++◌}
use Rattle.octets.specs.Octets.{be}
use Rattle.calendar.specs.Days.{date, week_days, monday, thursday, sunday, epoch}
use Rattle.calendar.specs.Calendar.{word_bytes, offset_below, day_minutes, minute_ms, well_formed, is_open}
use Rattle.calendar.specs.declared.days.Date.{Date}

-- ---- days

pub record Dated : Type 0 where
  pub day : ℕ
  pub date : Date
  pub weekday : ℕ

abbrev pub dated : ℕ → Date → ℕ → Dated
dated n x w = record { day = n; date = x; weekday = w }

-- the other weekdays
abbrev pub tuesday : ℕ
tuesday = 1

abbrev pub wednesday : ℕ
wednesday = 2

abbrev pub friday : ℕ
friday = 4

abbrev pub saturday : ℕ
saturday = 5

unfoldable pub days : List Dated
days =
    -- the first week of 1970, and the day before it
    dated (epoch - 1) (date 1969 12 31) wednesday ∷ dated epoch (date 1970 1 1) thursday ∷ dated (epoch + 1) (date 1970 1 2) friday
    ∷ dated (epoch + 2) (date 1970 1 3) saturday ∷ dated (epoch + 3) (date 1970 1 4) sunday ∷ dated (epoch + 4) (date 1970 1 5) monday
    ∷ dated (epoch + 5) (date 1970 1 6) tuesday ∷ dated (epoch + 6) (date 1970 1 7) wednesday
    -- the leap days of 1968 and 1972, and none in 1973
    ∷ dated (epoch - 672) (date 1968 2 29) thursday ∷ dated (epoch + 789) (date 1972 2 29) tuesday
    ∷ dated (epoch + 1154) (date 1973 2 28) wednesday ∷ dated (epoch + 1155) (date 1973 3 1) thursday
    -- one in 2000, and none on the way back to 1900 and on to 2100
    ∷ dated (epoch + 11016) (date 2000 2 29) tuesday ∷ dated (epoch - 25509) (date 1900 2 28) wednesday
    ∷ dated (epoch + 47541) (date 2100 3 1) monday ∷ []

-- ---- hours

-- what a calendar says of a time
pub data Hours : Type 0 where
  Open Shut Malformed : Hours

abbrev pub hours_of : List ℕ → ℕ → Hours
hours_of b ms = cond (well_formed b) (cond (is_open b ms) Open Shut) Malformed

pub record Answered : Type 0 where
  pub calendar : List ℕ
  pub ms : ℕ
  pub hours : Hours

abbrev pub answered : List ℕ → ℕ → Hours → Answered
answered b ms h = record { calendar = b; ms = ms; hours = h }

-- the bytes of a window and of a date
abbrev pub window : ℕ → ℕ → List ℕ
window o c = be word_bytes o ++ be word_bytes c

abbrev pub closed : ℕ → ℕ → ℕ → List ℕ
closed y m d = be word_bytes y ++ (m ∷ d ∷ [])

-- so many of them
unfoldable pub repeated : ℕ → List ℕ → List ℕ
repeated zero l = []
repeated (suc n) l = l ++ repeated n l

-- the same window every day; the offset is told as what it is above -720, and the dates with their number
abbrev pub daily : ℕ → ℕ → ℕ → ℕ → List ℕ → List ℕ
daily o c offset n dates = repeated week_days (window o c) ++ be word_bytes offset ++ (n ∷ []) ++ dates

-- a window on one weekday, and no dates
abbrev pub weekly : ℕ → ℕ → ℕ → ℕ → List ℕ
weekly w o c offset = repeated w (window 0 0) ++ window o c ++ repeated (week_days - 1 - w) (window 0 0) ++ be word_bytes offset ++ (0 ∷ [])

-- at UTC: the same window every day, and every minute but for one date
abbrev pub plain : ℕ → ℕ → List ℕ
plain o c = daily o c offset_below 0 []

abbrev pub but_for : ℕ → ℕ → ℕ → List ℕ
but_for y m d = daily 0 day_minutes offset_below 1 (closed y m d)

-- a minute of a day, 0 for Thursday 1 January 1970, in milliseconds
abbrev pub time : ℕ → ℕ → ℕ
time day minute = minute_ms * (day_minutes * day + minute)

unfoldable pub hours : List Answered
hours =
    -- a window touches its ends: opening minute included, closing minute not
    answered (plain 600 660) (time 0 600 - 1) Shut ∷ answered (plain 600 660) (time 0 600) Open
    ∷ answered (plain 600 660) (time 0 660 - 1) Open ∷ answered (plain 600 660) (time 0 660) Shut
    -- the first and the last minute of a day, alone, and all day
    ∷ answered (plain 0 1) (time 0 0) Open ∷ answered (plain 0 1) (time 0 1) Shut
    ∷ answered (plain 1439 1440) (time 0 1439 - 1) Shut ∷ answered (plain 1439 1440) (time 0 1439) Open ∷ answered (plain 1439 1440) (time 1 0) Shut
    ∷ answered (plain 0 1440) (time 0 1439) Open ∷ answered (plain 0 1440) (time 1 0) Open ∷ answered (plain 0 0) (time 0 0) Shut
    -- the weekday
    ∷ answered (weekly thursday 600 660 offset_below) (time 0 600) Open ∷ answered (weekly thursday 600 660 offset_below) (time 1 600) Shut
    ∷ answered (weekly monday 600 660 offset_below) (time 4 600) Open ∷ answered (weekly sunday 600 660 offset_below) (time 3 600) Open
    -- is local: at an offset of -720 minutes, time 0 is noon of Wednesday 31 December 1969; at 840, Friday starts at Thursday's minute 600
    ∷ answered (weekly wednesday 720 721 0) 0 Open ∷ answered (weekly thursday 0 1440 0) (time 0 720 - 1) Shut
    ∷ answered (weekly friday 0 1 1560) (time 0 600 - 1) Shut ∷ answered (weekly friday 0 1 1560) (time 0 600) Open
    -- a closed date, in UTC and at both ends of the offset
    ∷ answered (but_for 1970 1 2) (time 1 0 - 1) Open ∷ answered (but_for 1970 1 2) (time 1 0) Shut ∷ answered (but_for 1970 1 2) (time 2 0) Open
    ∷ answered (daily 0 1440 0 1 (closed 1970 1 1)) (time 0 720 - 1) Open ∷ answered (daily 0 1440 0 1 (closed 1970 1 1)) (time 0 720) Shut
    ∷ answered (daily 0 1440 1560 1 (closed 1970 1 2)) (time 0 600 - 1) Open ∷ answered (daily 0 1440 1560 1 (closed 1970 1 2)) (time 0 600) Shut
    -- windows that are none
    ∷ answered (plain 5 5) 0 Malformed ∷ answered (plain 1440 1440) 0 Malformed ∷ answered (plain 660 600) 0 Malformed
    ∷ answered (plain 0 1441) 0 Malformed ∷ answered (plain 1 0) 0 Malformed
    -- an offset of 841 minutes
    ∷ answered (daily 0 1440 1561 0 []) 0 Malformed
    -- dates that exist, and dates that do not
    ∷ answered (but_for 1972 2 29) 0 Open ∷ answered (but_for 2000 2 29) 0 Open ∷ answered (but_for 9999 12 31) 0 Open
    ∷ answered (but_for 1973 2 29) 0 Malformed ∷ answered (but_for 2100 2 29) 0 Malformed ∷ answered (but_for 1970 4 31) 0 Malformed
    ∷ answered (but_for 1970 0 1) 0 Malformed ∷ answered (but_for 1970 13 1) 0 Malformed ∷ answered (but_for 1970 1 0) 0 Malformed
    ∷ answered (but_for 1969 12 31) 0 Malformed ∷ answered (but_for 10000 1 1) 0 Malformed
    -- 32 dates, 33 dates; a byte less, a byte more, and no bytes
    ∷ answered (daily 0 1440 720 32 (repeated 32 (closed 2000 2 29))) 0 Open ∷ answered (daily 0 1440 720 33 (repeated 33 (closed 2000 2 29))) 0 Malformed
    ∷ answered (daily 0 1440 720 1 (be 3 0)) 0 Malformed ∷ answered (daily 0 1440 720 0 (be 1 0)) 0 Malformed ∷ answered [] 0 Malformed ∷ []
