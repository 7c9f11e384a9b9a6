-- What is written in decimal is a decimal number, and is read back as the same number. Assumes nothing.
use Rattle.std.specs.Prelude.{ℕ, zero, suc, ◌+◌, ◌-◌, ◌*◌, ◌/◌, ◌%◌, ◌<◌, ◌≤◌, ◌≡◌, refl, true, List, [], ◌∷◌, ◌++◌, length, get_or, ltb}
use Rattle.std.proofs.Common.{arith, length-append, ltb-true, ltb-false, lt-ltb, le-leb, le-ltb, ne_eqb, ap, sym, ◌∙◌}
use Rattle.octets.specs.BoolsLaws.{cases, split, both}
use Rattle.octets.specs.Lists.{all}
use Rattle.script.specs.Input.{digit_zero, is_digit, value, decimal}
use Rattle.script.specs.Decimal.{digits_of, most_digits, decimal_of}

-- the first number that has more digits
unfoldable pub tens : ℕ → ℕ
tens zero = 1
tens (suc digits) = 10 * tens digits

value-append : (n x : ℕ) (l : List ℕ) → value n (l ++ (x ∷ [])) ≡ 10 * value n l + (x - digit_zero)
unfolding value
value-append n x [] = refl
value-append n x (y ∷ l) = value-append (10 * n + (y - digit_zero)) x l

value-digits : (digits n : ℕ) → n < tens digits → value 0 (digits_of digits n) ≡ n
unfolding value digits_of tens
value-digits zero n h = omega arith
value-digits (suc digits) n h =
    cases (ltb n 10)
    (λ e. rw e (omega arith))
    (λ e. rw e (omega (arith, value-append 0 (digit_zero + n % 10) (digits_of digits (n / 10)), value-digits digits (n / 10) (omega arith))))

all_append : (l : List ℕ) (x : ℕ) → all is_digit l ≡ true → is_digit x ≡ true → all is_digit (l ++ (x ∷ [])) ≡ true
all_append [] x h k = rw k refl
all_append (y ∷ l) x h k =
    let s = split (is_digit y) (all is_digit l) h in
    both (is_digit y) (all is_digit (l ++ (x ∷ []))) s.0 (all_append l x s.1 k)

is_digit_lem : (n : ℕ) → n < 10 → is_digit (digit_zero + n) ≡ true
is_digit_lem n h = both _ _ (le-leb digit_zero (digit_zero + n) (omega arith)) (le-leb (digit_zero + n) 57 (omega arith))

all_digits : (digits n : ℕ) → all is_digit (digits_of digits n) ≡ true
unfolding digits_of
all_digits zero n = refl
all_digits (suc digits) n =
    cases (ltb n 10)
    (λ e. rw e (rw (is_digit_lem n (ltb-true n 10 e)) refl))
    (λ e. rw e (all_append (digits_of digits (n / 10)) (digit_zero + n % 10) (all_digits digits (n / 10)) (is_digit_lem (n % 10) (omega arith))))

first-stays : (l m : List ℕ) → 0 < length l → get_or (l ++ m) 0 0 ≡ get_or l 0 0
first-stays [] m h = absurd (omega arith)
first-stays (x ∷ l) m h = refl

-- a number of 64 bits
pub bits-short : (n : ℕ) → n < 18446744073709551616 → n < tens most_digits
unfolding tens
bits-short n h = omega arith

-- a number that is not 0 has digits, and the first is not 0
first-digit : (digits n : ℕ) → 0 < n → n < tens digits → (0 < length (digits_of digits n)) × (digit_zero < get_or (digits_of digits n) 0 0)
unfolding digits_of tens
first-digit zero n z h = absurd (omega arith)
first-digit (suc digits) n z h =
    cases (ltb n 10)
    (λ e. rw e (omega arith, omega arith))
    (λ e.
    let big = ltb-false n 10 e in
    let front = digits_of digits (n / 10) in
    let before = first-digit digits (n / 10) (omega arith) (omega arith) in
    let last = (digit_zero + n % 10) ∷ [] in
    rw e (omega (arith, length-append front last), rw (first-stays front last before.0) before.1))

nonzero-decimal : (l : List ℕ) → 0 < length l → digit_zero < get_or l 0 0 → all is_digit l ≡ true → decimal l ≡ true
unfolding decimal
nonzero-decimal l some first digits =
    rw (lt-ltb 0 (length l) some, ne_eqb (get_or l 0 0) digit_zero (λ e. omega arith), digits)
    (cases (ltb (length l) 2) (λ e. rw e refl) (λ e. rw e refl))

zero-decimal : decimal (decimal_of 0) ≡ true
unfolding decimal digits_of
zero-decimal = refl

-- it is a decimal
pub decimal-is : (n : ℕ) → n < tens most_digits → decimal (decimal_of n) ≡ true
decimal-is n h =
    cases (ltb 0 n)
    (λ e. let f = first-digit most_digits n (ltb-true 0 n e) h in nonzero-decimal (decimal_of n) f.0 f.1 (all_digits most_digits n))
    (λ e. let z : n ≡ 0 = omega (arith, ltb-false 0 n e) in rw z zero-decimal)

-- .. of the number
pub decimal-back : (n : ℕ) → n < tens most_digits → value 0 (decimal_of n) ≡ n
decimal-back n h = value-digits most_digits n h

-- ---- one digit after the other

-- more digits than it takes change nothing
digits-steady : (digits n : ℕ) → n < tens (suc digits) → digits_of (suc (suc digits)) n ≡ digits_of (suc digits) n
unfolding digits_of tens
digits-steady zero n h = rw (lt-ltb n 10 (omega (arith, h))) refl
digits-steady (suc digits) n h =
    cases (ltb n 10)
    (λ e. rw e refl)
    (λ e. rw e (ap (λ (l : List ℕ). l ++ ((digit_zero + n % 10) ∷ [])) (digits-steady digits (n / 10) (omega (arith, h)))))

pub decimal-digit : (n : ℕ) → n < 10 → decimal_of n ≡ (digit_zero + n % 10) ∷ []
unfolding digits_of
decimal-digit n h = rw (lt-ltb n 10 h) (ap (λ (d : ℕ). (digit_zero + d) ∷ []) (omega arith))

pub decimal-more : (n : ℕ) → 10 ≤ n → n < tens most_digits → decimal_of n ≡ decimal_of (n / 10) ++ ((digit_zero + n % 10) ∷ [])
unfolding digits_of tens
decimal-more n g h =
    rw (le-ltb n 10 g) (ap (λ (l : List ℕ). l ++ ((digit_zero + n % 10) ∷ [])) (sym (digits-steady 18 (n / 10) (omega (arith, h)))))

pub decimal-longer : (n : ℕ) → 10 ≤ n → n < tens most_digits → length (decimal_of n) ≡ length (decimal_of (n / 10)) + 1
decimal-longer n g h = ap length (decimal-more n g h) ∙ length-append (decimal_of (n / 10)) ((digit_zero + n % 10) ∷ [])
