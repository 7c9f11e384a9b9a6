-- Dates and weekdays (PROTOCOL, "Sending hours"): by counting days, forward and back, from Thursday 1 January 1970.
use Rattle.std.specs.Prelude.{ℕ, zero, suc, ◌+◌, ◌-◌, ◌%◌, Bool, cond, not, ◌&&◌, ◌||◌, eqb, leb, ltb}
use Rattle.calendar.specs.declared.days.Date.{Date}

-- ---- the Gregorian calendar

-- months and days of a month count from 1
abbrev pub date : ℕ → ℕ → ℕ → Date
date y m d = record { year = y; month = m; day = d }

abbrev pub january : ℕ
january = 1

abbrev pub february : ℕ
february = 2

abbrev pub april : ℕ
april = 4

abbrev pub june : ℕ
june = 6

abbrev pub september : ℕ
september = 9

abbrev pub november : ℕ
november = 11

abbrev pub december : ℕ
december = 12

-- every fourth year is a leap year; of the years that end a century, every fourth
unfoldable pub leap : ℕ → Bool
leap y = eqb (y % 4) 0 && (not (eqb (y % 100) 0) || eqb (y % 400) 0)

-- 30 days have April, June, September and November; February has 28, in a leap year 29; the others have 31
abbrev pub thirty : ℕ → Bool
thirty m = eqb m april || eqb m june || eqb m september || eqb m november

unfoldable pub month_days : ℕ → ℕ → ℕ
month_days y m = cond (eqb m february) (cond (leap y) 29 28) (cond (thirty m) 30 31)

-- the first and the last date of a month
abbrev pub first_of : ℕ → ℕ → Date
first_of y m = date y m 1

abbrev pub last_of : ℕ → ℕ → Date
last_of y m = date y m (month_days y m)

-- the date exists
abbrev pub exists : Date → Bool
exists x = leb january x.month && leb x.month december && leb 1 x.day && leb x.day (month_days x.year x.month)

-- the date after: in the same month; else the first of the next month; else that of the next year
unfoldable pub tomorrow : Date → Date
tomorrow x =
    cond (ltb x.day (month_days x.year x.month)) (date x.year x.month (x.day + 1))
    (cond (ltb x.month december) (first_of x.year (x.month + 1)) (first_of (x.year + 1) january))

-- the date before: in the same month; else the last of the month before; else that of the year before
unfoldable pub yesterday : Date → Date
yesterday x =
    cond (ltb 1 x.day) (date x.year x.month (x.day - 1))
    (cond (ltb january x.month) (last_of x.year (x.month - 1)) (last_of (x.year - 1) december))

-- ---- the week, from Monday on

abbrev pub week_days : ℕ
week_days = 7

abbrev pub monday : ℕ
monday = 0

abbrev pub thursday : ℕ
thursday = 3

abbrev pub sunday : ℕ
sunday = 6

abbrev pub weekday_after : ℕ → ℕ
weekday_after w = cond (eqb w sunday) monday (w + 1)

abbrev pub weekday_before : ℕ → ℕ
weekday_before w = cond (eqb w monday) sunday (w - 1)

-- ---- counting

-- f, n times
unfoldable pub times : {A : Type 0} → ℕ → (A → A) → A → A
times zero f a = a
times (suc n) f a = f (times n f a)

-- a day is a number, and this is 1 January 1970: so none that can be asked for is below 0; only the distance between the two counts
abbrev pub epoch : ℕ
epoch = 719162

abbrev pub epoch_year : ℕ
epoch_year = 1970

-- what a day has if 1 January 1970 has a, f goes on from a day to the next, and g back to the one before
unfoldable pub counted : {A : Type 0} → (A → A) → (A → A) → A → ℕ → A
counted f g a day = cond (leb epoch day) (times (day - epoch) f a) (times (epoch - day) g a)

abbrev pub date_of : ℕ → Date
date_of day = counted tomorrow yesterday (first_of epoch_year january) day

abbrev pub weekday_of : ℕ → ℕ
weekday_of day = counted weekday_after weekday_before thursday day
