-- A number is written digit by digit: first those in front of its last. Assumes nothing.
use Rattle.std.proofs.Common.{ℕ, ◌+◌, ◌/◌, ◌%◌, ◌≤◌, ◌<◌, ◌≡◌, sym, ap, ◌∙◌, List, [], ◌∷◌, ◌++◌, length}
use Rattle.std.proofs.Common.{slice_set, take, drop, arith, length-append, take-append-drop}
use mathlib.Core.List.{append_assoc}
use Rattle.std.proofs.lemmas.List.{take-set, drop-set}
use Rattle.octets.specs.Octets.{put}
use Rattle.octets.specs.PartsLaws.{more, length-put, put-nil}
use Rattle.script.specs.Input.{digit_zero}
use Rattle.script.specs.Decimal.{decimal_of, most_digits}
use Rattle.script.specs.DecimalLaws.{tens, decimal-digit, decimal-more}

-- a byte that is set is a write of one
put-one : (b : List ℕ) (i x : ℕ) → i < length b → slice_set b i x ≡ put b i (x ∷ [])
unfolding put
put-one b i x h =
    sym (take-append-drop i (slice_set b i x)) ∙ (λ j. take-set b i x j ++ drop-set b i x h j)
    ∙ sym (append_assoc (take i b) (x ∷ []) (drop (i + 1) b))

-- what is written right behind v by one byte more
pub byte-more : (b m v : List ℕ) (at last x : ℕ) → m ≡ put b at v → last ≡ at + length v → at + length (v ++ (x ∷ [])) ≤ length b
    → (last < length m) × (slice_set m last x ≡ put b at (v ++ (x ∷ []))) × (last + 1 ≡ at + length (v ++ (x ∷ [])))
byte-more b m v at last x is ends h =
    let longer = length-append v (x ∷ []) in
    let within : last < length m = omega (arith, ap length is, length-put b at v (omega (arith, longer, h)), ends, longer, h) in (
      within,
      more b m (slice_set m last x) at last v (x ∷ []) is (put-one m last x within) ends (omega (arith, longer, h)),
      omega (arith, longer, ends),
    )

-- the digits in front of the last are written
pub record Front (b m : List ℕ) (at last n : ℕ) : Type 0 where
  pub digits : List ℕ
  pub number : decimal_of n ≡ digits ++ ((digit_zero + n % 10) ∷ [])
  pub is : m ≡ put b at digits
  pub ends : last ≡ at + length digits

pub none_in_front : (b : List ℕ) (at n : ℕ) → n < 10 → Front b b at at n
none_in_front b at n h = record { digits = []; number = decimal-digit n h; is = sym (put-nil b at); ends = omega arith }

pub some_in_front : {b m : List ℕ} {at last n : ℕ} → 10 ≤ n → n < tens most_digits → m ≡ put b at (decimal_of (n / 10))
    → last ≡ at + length (decimal_of (n / 10))
    → Front b m at last n
some_in_front {b} {m} {at} {last} {n} g h e f = record { digits = decimal_of (n / 10); number = decimal-more n g h; is = e; ends = f }

pub last-digit : {b m : List ℕ} {at last n : ℕ} → Front b m at last n → at + length (decimal_of n) ≤ length b
    → (last < length m) × (slice_set m last (digit_zero + n % 10) ≡ put b at (decimal_of n)) × (last + 1 ≡ at + length (decimal_of n))
last-digit {b} {m} {at} {last} {n} f h = rw f.number (byte-more b m f.digits at last (digit_zero + n % 10) f.is f.ends (rw f.number at h))
