-- Where a date stands: the days of the years, months and days before it, summed up. Counting goes through these sums one by one, and no two
-- dates that exist have the same sum; so a computed date with the right sum is the counted one. Assumes nothing.
use Prim.Native.Nat.{ℕ, zero, suc, ◌+◌, ◌*◌, ◌-◌, ◌/◌, ◌%◌, ◌≤◌, ◌<◌}
use native.Mathlib.Omega.{arith}
use mathlib.Core.Path.{◌≡◌, refl, sym, ap, ◌∙◌}
use mathlib.Core.Bool.{false, cond}
use lib.Dec.{eqb, leb, ltb}
use borrow.Author.Tests.{ne_eqb, eqb-true, eqb-false, leb-true, leb-false, ltb-true, ltb-false, lt-ltb}
use Rattle.octets.specs.Bools.{one}
use Rattle.octets.specs.BoolsLaws.{cases}
use Rattle.calendar.specs.Days.{date, january, december, thirty, leap, month_days, first_of, tomorrow, yesterday, week_days, monday, thursday, sunday}
use Rattle.calendar.specs.Days.{weekday_after, weekday_before, times, epoch, epoch_year, counted, date_of, weekday_of}
use Rattle.calendar.specs.declared.days.Date.{Date}

-- ---- counting

module _ {A : Type 0} (P : ℕ → A → Type 0) (f g : A → A) where
  ahead : ((n : ℕ) (x : A) → P n x → P (suc n) (f x)) → (k n m : ℕ) (a : A) → m ≡ n + k → P n a → P m (times k f a)
  unfolding times
  ahead s zero n m a e h = let q : m ≡ n = omega arith in rw q h
  ahead s (suc k) n m a e h = let q : m ≡ suc (n + k) = omega arith in rw q (s (n + k) (times k f a) (ahead s k n (n + k) a refl h))

  back : ((n : ℕ) (x : A) → P (suc n) x → P n (g x)) → (k n m : ℕ) (a : A) → m ≡ n + k → P m a → P n (times k g a)
  unfolding times
  back s zero n m a e h = let q : m ≡ n = omega arith in rw q at h
  back s (suc k) n m a e h = s n (times k g a) (back s k (suc n) m a (omega arith) h)

  -- what holds of 1 January 1970 and is kept by a step forward and by a step back holds of every day
  pub at-day : ((n : ℕ) (x : A) → P n x → P (suc n) (f x)) → ((n : ℕ) (x : A) → P (suc n) x → P n (g x))
      → (a : A) → P epoch a → (day : ℕ) → P day (counted f g a day)
  unfolding counted
  at-day s t a h day =
      cases (leb epoch day)
      (λ e. rw e (ahead s (day - epoch) epoch day a (omega (arith, leb-true epoch day e)) h))
      (λ e. rw e (back t (epoch - day) day epoch a (omega (arith, leb-false epoch day e)) h))

-- ---- weekdays

-- a counted weekday is the remainder of its day
abbrev Remains : ℕ → ℕ → Type 0
Remains n w = w ≡ n % week_days

remains-after : (n w : ℕ) → Remains n w → Remains (suc n) (weekday_after w)
remains-after n w h =
    cases (eqb w sunday)
    (λ e. rw e (omega (arith, eqb-true w sunday e)))
    (λ e. rw e (omega (arith, eqb-false w sunday e)))

remains-before : (n w : ℕ) → Remains (suc n) w → Remains n (weekday_before w)
remains-before n w h =
    cases (eqb w monday)
    (λ e. rw e (omega (arith, eqb-true w monday e)))
    (λ e. rw e (omega (arith, eqb-false w monday e)))

pub weekday : (day : ℕ) → weekday_of day ≡ day % week_days
weekday day = at-day Remains weekday_after weekday_before remains-after remains-before thursday refl day

-- ---- sums

-- f 0 + .. + f (k - 1)
unfoldable pub sum : (ℕ → ℕ) → ℕ → ℕ
sum f zero = 0
sum f (suc k) = sum f k + f k

pub sum-zero : (f : ℕ → ℕ) → sum f 0 ≡ 0
unfolding sum
sum-zero f = refl

pub sum-suc : (f : ℕ → ℕ) (k : ℕ) → sum f (suc k) ≡ sum f k + f k
unfolding sum
sum-suc f k = refl

sum-le : (f : ℕ → ℕ) (j k : ℕ) → j ≤ k → sum f j ≤ sum f k
unfolding sum
sum-le f zero k h = omega arith
sum-le f (suc j) (suc k) h =
    cases (ltb j k)
    (λ e. let l = ltb-true j k e in omega (arith, sum-le f (suc j) k (omega arith)))
    (λ e. let l = ltb-false j k e in let q : j ≡ k = omega arith in rw q (omega arith))
sum-le f (suc j) zero h = elim h [ ]

-- a number lies between two neighbouring sums only once
between : (f : ℕ → ℕ) (j k a b : ℕ) → a < f j → b < f k → sum f j + a ≡ sum f k + b → j ≡ k
unfolding sum
between f j k a b h g e =
    cases (ltb j k)
    (λ t. absurd (omega (arith, ltb-true j k t, sum-le f (suc j) k (ltb-true j k t))))
    (λ t. cases (ltb k j)
    (λ u. absurd (omega (arith, ltb-true k j u, sum-le f (suc k) j (ltb-true k j u))))
    (λ u. omega (arith, ltb-false j k t, ltb-false k j u)))

-- ---- the days of years and months

-- the days of the year k + 1, and of its month m + 1
unfoldable pub years : ℕ → ℕ
years k = cond (leap (suc k)) 366 365

abbrev pub months : ℕ → ℕ → ℕ
months y m = month_days y (suc m)

-- a year is its months
year-months : (k : ℕ) → sum (months (suc k)) december ≡ years k
unfolding sum years month_days
year-months k = cases (leap (suc k)) (λ e. rw e) (λ e. rw e)

-- December ends the year, after eleven other months
pub year-end : (k : ℕ) → sum (months (suc k)) 11 + month_days (suc k) december ≡ years k
unfolding sum
year-end k = year-months k

month-some : (y m : ℕ) → 0 < month_days y m
unfolding month_days
month-some y m =
    cases (eqb m 2)
    (λ e. rw e (cases (leap y) (λ f. rw f (omega arith)) (λ f. rw f (omega arith))))
    (λ e. rw e (cases (thirty m) (λ f. rw f (omega arith)) (λ f. rw f (omega arith))))

-- a quotient grows by one where the remainder comes back to 0
up : (d k : ℕ) → (suc k % d ≡ 0 → suc k / d ≡ k / d + 1) → ((suc k % d ≡ 0 → ⊥) → suc k / d ≡ k / d)
    → suc k / d ≡ k / d + one (eqb (suc k % d) 0)
up d k f g =
    cases (eqb (suc k % d) 0)
    (λ e. rw e (f (eqb-true (suc k % d) 0 e)))
    (λ e. rw e (omega (arith, g (eqb-false (suc k % d) 0 e))))

not100 : (n : ℕ) → eqb (n % 4) 0 ≡ false → eqb (n % 100) 0 ≡ false
not100 n e = ne_eqb (n % 100) 0 (λ f. eqb-false (n % 4) 0 e (omega arith))

not400 : (n : ℕ) → eqb (n % 100) 0 ≡ false → eqb (n % 400) 0 ≡ false
not400 n e = ne_eqb (n % 400) 0 (λ f. eqb-false (n % 100) 0 e (omega arith))

-- the days of the first k years
pub years-sum : (k : ℕ) → sum years k + k / 100 ≡ 365 * k + k / 4 + k / 400
unfolding sum years leap
years-sum zero = refl
years-sum (suc k) =
    rw (up 4 k (λ e. omega arith) (λ e. omega arith), up 100 k (λ e. omega arith) (λ e. omega arith), up 400 k (λ e. omega arith) (λ e. omega arith))
    (cases (eqb (suc k % 4) 0)
    (λ e. cases (eqb (suc k % 100) 0)
    (λ f. cases (eqb (suc k % 400) 0)
    (λ g. rw (e, f, g) (grow 1 1 1 366 (years-sum k) refl))
    (λ g. rw (e, f, g) (grow 1 1 0 365 (years-sum k) refl)))
    (λ f. rw (e, f, not400 (suc k) f) (grow 1 0 0 366 (years-sum k) refl)))
    (λ e. rw (e, not100 (suc k) e, not400 (suc k) (not100 (suc k) e)) (grow 0 0 0 365 (years-sum k) refl)))
  where
    grow : (x y z n : ℕ) → sum years k + k / 100 ≡ 365 * k + k / 4 + k / 400 → n + y ≡ 365 + x + z
        → sum years k + n + (k / 100 + y) ≡ 365 * suc k + (k / 4 + x) + (k / 400 + z)
    grow x y z n e f = omega arith

-- ---- where a date stands

-- the date x exists and n days stand before it: those of k years, m months and d days
pub record Is (n : ℕ) (x : Date) : Type 0 where
  pub k : ℕ
  pub m : ℕ
  pub d : ℕ
  pub spot : x ≡ date (suc k) (suc m) (suc d)
  pub month : m < december
  pub day : d < months (suc k) m
  pub number : sum years k + sum (months (suc k)) m + d ≡ n

pub is : {n : ℕ} (k m d : ℕ) {y a b : ℕ} → y ≡ suc k → a ≡ suc m → b ≡ suc d → m < december → d < months (suc k) m
    → sum years k + sum (months (suc k)) m + d ≡ n → Is n (date y a b)
is k m d p q r s t u = record { k = k; m = m; d = d; spot = λ i. date (p i) (q i) (r i); month = s; day = t; number = u }

forward : (n k m d : ℕ) → m < december → d < months (suc k) m → sum years k + sum (months (suc k)) m + d ≡ n
    → Is (suc n) (tomorrow (date (suc k) (suc m) (suc d)))
unfolding tomorrow
forward n k m d h g e =
    cases (ltb (suc d) (month_days (suc k) (suc m)))
    (λ t. rw t (is k m (suc d) refl refl (omega arith) h (ltb-true (suc d) (month_days (suc k) (suc m)) t) (omega arith)))
    (λ t. let l = ltb-false (suc d) (month_days (suc k) (suc m)) t in
    rw t (cases (ltb (suc m) december)
    (λ u. rw u (is k (suc m) 0 refl (omega arith) refl (ltb-true (suc m) december u) (month-some (suc k) (suc (suc m)))
    (omega (arith, sum-suc (months (suc k)) m))))
    (λ u. let q : m ≡ 11 = omega (arith, ltb-false (suc m) december u) in
    let w : sum (months (suc k)) 11 + month_days (suc k) december + sum years k ≡ suc n = omega (arith, rw q at l, rw q at g, rw q at e) in
    rw u (is (suc k) 0 0 (omega arith) refl refl (omega arith) (month-some (suc (suc k)) january)
    (omega (arith, sum-suc years k, sum-zero (months (suc (suc k))), year-end k))))))

backward : (n k m d : ℕ) → m < december → d < months (suc k) m → sum years k + sum (months (suc k)) m + d ≡ suc n
    → Is n (yesterday (date (suc k) (suc m) (suc d)))
unfolding yesterday
backward n k m (suc d) h g e = rw (lt-ltb 1 (suc (suc d)) (omega arith)) (is k m d refl refl (omega arith) h (omega arith) (omega arith))
backward n k (suc m) zero h g e =
    let p = month-some (suc k) (suc m) in
    let q : suc (suc m) - 1 ≡ suc m = omega arith in
    rw (lt-ltb 1 (suc (suc m)) (omega arith), q)
    (is k m (month_days (suc k) (suc m) - 1) refl refl (omega arith) (omega arith) (omega arith) (omega (arith, sum-suc (months (suc k)) m)))
backward n (suc k) zero zero h g e =
    let p = month-some (suc k) december in
    let q : suc (suc k) - 1 ≡ suc k = omega arith in
    rw q
    (is k 11 (month_days (suc k) december - 1) refl refl (omega arith) (omega arith) (omega arith)
    (omega (arith, sum-suc years k, sum-zero (months (suc (suc k))), year-end k)))
backward n zero zero zero h g e = absurd (omega (arith, sum-zero years, sum-zero (months 1)))

-- ---- no two dates stand at the same place

-- a day of a month is a day of its year
in-year : (k m d : ℕ) → m < december → d < months (suc k) m → sum (months (suc k)) m + d < years k
in-year k m d h g = omega (arith, sum-suc (months (suc k)) m, sum-le (months (suc k)) (suc m) december h, year-months k)

alone : (k m d j a b : ℕ) → k ≡ j → d < months (suc k) m → b < months (suc j) a
    → sum years k + sum (months (suc k)) m + d ≡ sum years j + sum (months (suc j)) a + b
    → date (suc k) (suc m) (suc d) ≡ date (suc j) (suc a) (suc b)
alone k m d j a b q h g e =
    let g' : b < months (suc k) a = rw q g in
    let e' : sum years k + sum (months (suc k)) m + d ≡ sum years k + sum (months (suc k)) a + b = rw q (rw q at e) in
    let p : m ≡ a = between (months (suc k)) m a d b h g' (omega arith) in
    let s : sum (months (suc k)) m ≡ sum (months (suc k)) a = ap (sum (months (suc k))) p in
    let r : d ≡ b = omega arith in
    λ i. date (suc (q i)) (suc (p i)) (suc (r i))

pub unique : {n : ℕ} {x z : Date} → Is n x → Is n z → x ≡ z
unique h g =
    let i = in-year h.k h.m h.d h.month h.day in
    let j = in-year g.k g.m g.d g.month g.day in
    let q : h.k ≡ g.k = between years h.k g.k (sum (months (suc h.k)) h.m + h.d) (sum (months (suc g.k)) g.m + g.d) i j
    (omega (arith, h.number, g.number)) in
    h.spot ∙ alone h.k h.m h.d g.k g.m g.d q h.day g.day (h.number ∙ sym g.number) ∙ sym g.spot

-- the counted date of a day exists, and as many days stand before it as the day says
pub dated : (day : ℕ) → Is day (date_of day)
dated day =
    at-day Is tomorrow yesterday
    (λ n x h. rw h.spot (forward n h.k h.m h.d h.month h.day h.number))
    (λ n x h. rw h.spot (backward n h.k h.m h.d h.month h.day h.number))
    (first_of epoch_year january)
    (is 1969 0 0 refl refl refl (omega arith) (month-some epoch_year january) (omega (arith, years-sum 1969, sum-zero (months epoch_year)))) day
