-- The calendar (PROTOCOL, "Sending hours"): what its bytes say, when they are well formed, and at which times it is open.
use Rattle.std.specs.Prelude.{ℕ, zero, suc, ◌+◌, ◌*◌, ◌-◌, ◌/◌, ◌%◌, Bool, true, not, ◌&&◌, ◌||◌, List, length, get_or, eqb, leb, ltb}
use Rattle.octets.specs.Octets.{part, num}
use Rattle.calendar.specs.Days.{date, exists, week_days, epoch, epoch_year, date_of, weekday_of}
use Rattle.calendar.specs.declared.days.Date.{Date}
use Rattle.calendar.specs.declared.form.Window.{Window}

-- ---- what the bytes say; past the end every byte counts as 0

-- minutes, the offset and years take two bytes, the highest first
abbrev pub word_bytes : ℕ
word_bytes = 2

abbrev pub word : List ℕ → ℕ → ℕ
word b o = num word_bytes (part b o word_bytes)

-- a window for each weekday: opening and closing minute
abbrev pub window_bytes : ℕ
window_bytes = 2 * word_bytes

abbrev pub window_of : List ℕ → ℕ → Window
window_of b w = record { opening = word b (window_bytes * w); closing = word b (window_bytes * w + word_bytes) }

-- then the offset from UTC in minutes, -720 to 840, as what it is above the lowest
abbrev pub offset_below : ℕ
offset_below = 720

abbrev pub offset_above : ℕ
offset_above = 840

abbrev pub offset_at : ℕ
offset_at = window_bytes * week_days

abbrev pub shifted : List ℕ → ℕ
shifted b = word b offset_at

-- then the number of closed dates (1)
abbrev pub number_at : ℕ
number_at = offset_at + word_bytes

abbrev pub number : List ℕ → ℕ
number b = get_or b number_at 0

-- then the closed dates: year, month (1) and day (1)
abbrev pub dates_at : ℕ
dates_at = number_at + 1

abbrev pub date_bytes : ℕ
date_bytes = word_bytes + 2

abbrev pub closed_at : ℕ → ℕ
closed_at i = dates_at + date_bytes * i

abbrev pub closed_date : List ℕ → ℕ → Date
closed_date b i = date (word b (closed_at i)) (get_or b (closed_at i + word_bytes) 0) (get_or b (closed_at i + word_bytes + 1) 0)

-- ---- well formed

-- the test passes at every number below n
unfoldable pub every : (ℕ → Bool) → ℕ → Bool
every f zero = true
every f (suc n) = every f n && f n

-- the bytes end where the last date does
abbrev pub exact : List ℕ → Bool
exact b = eqb (length b) (closed_at (number b))

abbrev pub day_minutes : ℕ
day_minutes = 1440

-- two zeros mean closed all day; any other window opens before it closes, in minutes 0 to 1,440
abbrev pub fits : Window → Bool
fits v = eqb v.opening 0 && eqb v.closing 0 || ltb v.opening v.closing && leb v.closing day_minutes

abbrev pub windows_fit : List ℕ → Bool
windows_fit b = every (λ w. fits (window_of b w)) week_days

-- up to 32 dates that exist, years 1970 to 9999
abbrev pub most_dates : ℕ
most_dates = 32

abbrev pub last_year : ℕ
last_year = 9999

abbrev pub listable : Date → Bool
listable x = leb epoch_year x.year && leb x.year last_year && exists x

abbrev pub dates_exist : List ℕ → Bool
dates_exist b = every (λ i. listable (closed_date b i)) (number b)

-- a calendar of this form and these ranges (else refusal 26)
unfoldable pub well_formed : List ℕ → Bool
well_formed b = exact b && leb (number b) most_dates && leb (shifted b) (offset_below + offset_above) && windows_fit b && dates_exist b

-- ---- open

-- opening minute included, closing minute not
abbrev pub within : Window → ℕ → Bool
within v minute = leb v.opening minute && ltb minute v.closing

abbrev pub same : Date → Date → Bool
same x z = eqb x.year z.year && eqb x.month z.month && eqb x.day z.day

-- no closed date is the date x
abbrev pub free : List ℕ → Date → Bool
free b x = every (λ i. not (same (closed_date b i) x)) (number b)

abbrev pub open_at : List ℕ → ℕ → ℕ → Bool
open_at b day minute = within (window_of b (weekday_of day)) minute && free b (date_of day)

abbrev pub minute_ms : ℕ
minute_ms = 60000

-- minutes since day 0 began: of UTC at Unix milliseconds, and of local time, which is UTC plus the offset
abbrev pub utc : ℕ → ℕ
utc ms = day_minutes * epoch + ms / minute_ms

abbrev pub local : List ℕ → ℕ → ℕ
local b ms = utc ms + shifted b - offset_below

-- weekday, minute of the day and date are all local
unfoldable pub is_open : List ℕ → ℕ → Bool
is_open b ms = open_at b (local b ms / day_minutes) (local b ms % day_minutes)
