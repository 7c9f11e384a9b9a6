-- The date that `days::date_of` computes: the year and the day of the year by division, then the month by trying one after the other, is the counted
-- date. Assumes nothing.
use Prim.Native.Nat.{ℕ, suc, ◌+◌, ◌*◌, ◌-◌, ◌/◌, ◌%◌, ◌≤◌, ◌<◌}
use native.Mathlib.Omega.{arith}
use mathlib.Core.Path.{◌≡◌, refl, sym, ◌∙◌}
use mathlib.Core.Bool.{Bool, true, false, cond}
use lib.Dec.{eqb, ltb}
use borrow.Author.Tests.{eq-eqb, eqb-true, ltb-true, ltb-false}
use Rattle.octets.specs.BoolsLaws.{cases}
use Rattle.calendar.specs.Days.{date, january, december, leap, month_days, date_of}
use Rattle.calendar.proofs.Counting.{sum, sum-zero, sum-suc, years, months, year-end, years-sum, is, unique, dated}

-- ---- year and day of the year

-- the days of 400 years, of a century without the leap day at its end, of four years, and of a common year
abbrev cycle_days : ℕ
cycle_days = 146097

abbrev century_days : ℕ
century_days = 36524

abbrev four_years_days : ℕ
four_years_days = 1461

abbrev year_days : ℕ
year_days = 365

-- q times 400 years and e days; of those, c centuries and r days; of those, k years and s days
module _ (day q e c r k s : ℕ) (eq : q ≡ day / cycle_days) (ee : e ≡ day % cycle_days) (ec : c ≡ (4 * e + 3) / cycle_days)
    (er : r ≡ (4 * e + 3) % cycle_days / 4) (ek : k ≡ (4 * r + 3) / four_years_days) (es : s ≡ (4 * r + 3) % four_years_days / 4) where
  -- only the last century of four has a day 36,524
  century : (e ≡ century_days * c + r) × (c ≤ 3) × (r ≤ century_days) × (century_days ≤ r → c ≡ 3)
  century = let d : e ≡ century_days * c + r = omega arith in (d, omega arith, omega arith, λ h. omega arith)

  -- only the last year of four has a day 365
  of-century : (r ≡ year_days * k + k / 4 + s) × (k ≤ 99) × (s ≤ year_days) × (year_days ≤ s → k % 4 ≡ 3)
  of-century =
      let p = century.2 in
      let d : r ≡ year_days * k + k / 4 + s = omega arith in
      (d, omega arith, omega arith, λ h. let t : (4 * r + 3) % four_years_days ≡ 1460 = omega arith in omega arith)

  -- so a year with a day 365 is a leap year
  fourth : year_days ≤ s → suc (400 * q + 100 * c + k) % 4 ≡ 0
  fourth h = let p = of-century.3 h in omega arith

  ends : year_days ≤ s → suc (400 * q + 100 * c + k) % 100 ≡ 0 → suc (400 * q + 100 * c + k) % 400 ≡ 0
  ends h g =
      let p = century in
      let o = of-century in
      let a : k ≡ 99 = omega (arith, o.1) in
      let b : c ≡ 3 = p.3 (omega (arith, o.0, o.2)) in
      whole (suc (400 * q + 100 * c + k)) (suc q) (omega arith)
    where
      whole : (x z : ℕ) → x ≡ 400 * z → x % 400 ≡ 0
      whole x z f = omega arith

  -- the day is a day of the year
  short : s < years (400 * q + 100 * c + k)
  unfolding years leap
  short =
      let n = suc (400 * q + 100 * c + k) in
      let l = of-century.2 in
      cases (ltb s year_days) (λ t. less (ltb-true s year_days t) (leap n)) (λ t.
      let g = ltb-false s year_days t in
      rw (eq-eqb (n % 4) 0 (fourth g))
      (cases (eqb (n % 100) 0)
      (λ f. rw (f, eq-eqb (n % 400) 0 (ends g (eqb-true (n % 100) 0 f))) (omega arith))
      (λ f. rw f (omega arith))))
    where
      less : s < year_days → (b : Bool) → s < cond b 366 year_days
      less h true = omega arith
      less h false = h

  -- the years before it, and it, make the day
  began : sum years (400 * q + 100 * c + k) + s ≡ day
  began =
      let p = century in
      let o = of-century in
      let y = years-sum (400 * q + 100 * c + k) in
      let a : (400 * q + 100 * c + k) / 100 ≡ 4 * q + c = omega (arith, o.1) in
      let b : (400 * q + 100 * c + k) / 4 ≡ 100 * q + 25 * c + k / 4 = omega arith in
      let d : (400 * q + 100 * c + k) / 400 ≡ q = omega (arith, o.1, p.1) in
      omega arith

-- ---- the loop over the months

-- the day is a day of the year, and `left` days stand before it in `month` or a later month
pub record Spot (day year month left : ℕ) : Type 0 where
  pub k : ℕ
  pub m : ℕ
  pub of-year : year ≡ suc k
  pub of-month : month ≡ suc m
  pub low : m < december
  pub number : sum years k + sum (months (suc k)) m + left ≡ day
  pub inside : sum (months (suc k)) m + left < years k

years-most : (k : ℕ) → years k ≤ 366
unfolding years
years-most k = cases (leap (suc k)) (λ e. rw e (omega arith)) (λ e. rw e (omega arith))

pub spot-least : {day year month left : ℕ} → Spot day year month left → (month ≤ december) × (left < 366)
spot-least s = (omega (arith, s.of-month, s.low), omega (arith, s.inside, years-most s.k))

pub spot-first : (day q e c r k s : ℕ) → q ≡ day / cycle_days → e ≡ day % cycle_days → c ≡ (4 * e + 3) / cycle_days → r ≡ (4 * e + 3) % cycle_days / 4
    → k ≡ (4 * r + 3) / four_years_days → s ≡ (4 * r + 3) % four_years_days / 4 → Spot day (100 * (4 * q + c) + k + 1) january s
spot-first day q e c r k s eq ee ec er ek es =
    let b = began day q e c r k s eq ee ec er ek es in
    let l = short day q e c r k s eq ee ec er ek es in
    let z = sum-zero (months (suc (400 * q + 100 * c + k))) in
    record {
      k = 400 * q + 100 * c + k;
      m = 0;
      of-year = omega arith;
      of-month = refl;
      low = omega arith;
      number = omega arith;
      inside = omega arith;
    }

pub spot-next : {day year month left n : ℕ} → Spot day year month left → n ≡ month_days year month → n ≤ left → Spot day year (month + 1) (left - n)
spot-next {day} {year} {month} {left} {n} s f h =
    let e : n ≡ months (suc s.k) s.m = f ∙ (λ i. month_days (s.of-year i) (s.of-month i)) in
    let l : suc s.m < december =
    cases (ltb (suc s.m) december) (λ t. ltb-true (suc s.m) december t) (λ t.
    let q : s.m ≡ 11 = omega (arith, s.low, ltb-false (suc s.m) december t) in
    absurd (omega (arith, rw q at s.inside, year-end s.k, rw q at e))) in
    let z = sum-suc (months (suc s.k)) s.m in
    record {
      k = s.k;
      m = suc s.m;
      of-year = s.of-year;
      of-month = omega (arith, s.of-month);
      low = l;
      number = omega (arith, s.number);
      inside = omega (arith, s.inside);
    }

-- once the days left are days of the month, the date is found
pub spot-last : {day year month left n : ℕ} → Spot day year month left → n ≡ month_days year month → left < n → date year month (left + 1) ≡ date_of day
spot-last {day} {year} {month} {left} {n} s f h =
    let e : n ≡ months (suc s.k) s.m = f ∙ (λ i. month_days (s.of-year i) (s.of-month i)) in
    unique (is s.k s.m left s.of-year s.of-month (omega arith) s.low (omega arith) s.number) (dated day)

-- in December they are
pub spot-end : {day year month left : ℕ} → Spot day year month left → december ≤ month → date year december (left + 1) ≡ date_of day
spot-end {day} {year} {month} {left} s h =
    let m : s.m ≡ 11 = omega (arith, s.low, s.of-month) in
    let q : month ≡ december = omega (arith, s.of-month) in
    let n : month_days (suc s.k) december ≡ month_days year month = λ i. month_days (sym s.of-year i) (sym q i) in
    rw (← q) (spot-last s n (omega (arith, year-end s.k, rw m at s.inside)))
