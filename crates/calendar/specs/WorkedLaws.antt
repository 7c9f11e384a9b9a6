-- Every worked value is as it should be, by counting.
use Rattle.std.specs.Prelude.{◌≡◌, refl}
use Rattle.octets.specs.Octets.{part, be, num}
use Rattle.octets.specs.Lists.{All}
use Rattle.octets.specs.ListsLaws.{◌&◌}
use Rattle.calendar.specs.Days.{leap, month_days, tomorrow, yesterday, times, counted, date_of, weekday_of}
use Rattle.calendar.specs.Calendar.{every, well_formed, is_open}
use Rattle.calendar.specs.Worked.{Dated, days, hours_of, Answered, repeated, hours}

pub days-hold : All (λ (x : Dated). (date_of x.day ≡ x.date) × (weekday_of x.day ≡ x.weekday)) days
unfolding days leap month_days tomorrow yesterday times counted
days-hold =
    (refl, refl) & (refl, refl) & (refl, refl) & (refl, refl) & (refl, refl) & (refl, refl) & (refl, refl) & (refl, refl)
    & (refl, refl) & (refl, refl) & (refl, refl) & (refl, refl) & (refl, refl) & (refl, refl) & (refl, refl) & tt

pub hours-hold : All (λ (x : Answered). hours_of x.calendar x.ms ≡ x.hours) hours
unfolding hours repeated part be num leap month_days tomorrow yesterday times counted every well_formed is_open
hours-hold =
    refl & refl & refl & refl & refl & refl & refl & refl & refl & refl & refl & refl & refl & refl & refl & refl
    & refl & refl & refl & refl & refl & refl & refl & refl & refl & refl & refl & refl & refl & refl & refl & refl
    & refl & refl & refl & refl & refl & refl & refl & refl & refl & refl & refl & refl & refl & refl & refl & refl
    & refl & tt
