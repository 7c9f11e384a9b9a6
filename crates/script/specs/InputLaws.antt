-- Where the letters stand in an input, and how long an input is at most. Assumes nothing.
use Rattle.std.specs.Prelude.{ℕ, suc, ◌+◌, ◌-◌, ◌*◌, ◌≤◌, ◌<◌, ◌≡◌, refl, Bool, true, false, not, ◌||◌, List, [], ◌∷◌, length, take, drop, eqb, leb, ltb}
use Rattle.std.proofs.Common.{arith, ap, ◌∙◌, length-take, leb-true, leb-false, ltb-true, ltb-false, le-ltb, eqb-true, eq-eqb}
use Rattle.octets.specs.BoolsLaws.{cases, split, clash}
use Rattle.octets.specs.Lists.{all}
use Rattle.machine.specs.Limits.{longest}
use Rattle.script.specs.Input.{line_feed, line, behind, is_digit, is_letter, value, decimal, most_letters, length_of, letters_of, is_input}
use Rattle.script.specs.Input.{is_one_number}

-- the first line's bytes are the line
pub take-line : (s : List ℕ) → take (length (line s)) s ≡ line s
unfolding line
take-line [] = refl
take-line (x ∷ l) = cases (eqb x line_feed) (λ e. rw e refl) (λ e. rw e (ap (λ (m : List ℕ). x ∷ m) (take-line l)))

-- what is behind the first line is an end of the bytes
behind-le : (s : List ℕ) → length (behind s) ≤ length s
unfolding behind
behind-le [] = omega arith
behind-le (x ∷ l) = cases (eqb x line_feed) (λ e. rw e (omega arith)) (λ e. rw e (omega (arith, behind-le l)))

pub drop-behind : (s : List ℕ) → drop (length s - length (behind s)) s ≡ behind s
unfolding behind
drop-behind [] = refl
drop-behind (x ∷ l) =
    cases (eqb x line_feed) (λ e. rw e (let q : suc (length l) - length l ≡ 1 = omega arith in ap (λ (n : ℕ). drop n (x ∷ l)) q))
    (λ e.
    rw e
    (let q : suc (length l) - length (behind l) ≡ suc (length l - length (behind l)) = omega (arith, behind-le l) in
    ap (λ (n : ℕ). drop n (x ∷ l)) q ∙ drop-behind l))

-- the letters stand at the start of what is behind the first line
pub letters-stand : (s : List ℕ) → take (length (letters_of s)) (drop (length s - length (behind s)) s) ≡ letters_of s
letters-stand s = ap (take (length (letters_of s))) (drop-behind s) ∙ take-line (behind s)

pub letters-within : (s : List ℕ) → length s - length (behind s) + length (letters_of s) ≤ length s
letters-within s =
    omega
    (arith, behind-le s, ap length (take-line (behind s)), length-take (length (letters_of s)) (behind s))

-- ---- how long an input is

-- two lines and what is behind them, with a line feed each at most
lines-length : (s : List ℕ) → length s ≤ length (line s) + 1 + length (behind s)
unfolding line behind
lines-length [] = omega arith
lines-length (x ∷ l) = cases (eqb x line_feed) (λ e. rw e (omega arith)) (λ e. rw e (omega (arith, lines-length l)))

-- digits make a number grow
value_grows : (n : ℕ) (l : List ℕ) → n ≤ value n l
unfolding value
value_grows n [] = omega arith
value_grows n (x ∷ l) = omega (arith, value_grows (10 * n + (x - 48)) l)

-- five digits behind one that is not 0 make 100,000 at least
six-digits : (n : ℕ) (l : List ℕ) → 0 < n → 5 ≤ length l → 100000 ≤ value n l
unfolding value
six-digits n (a ∷ b ∷ c ∷ d ∷ e ∷ l) h k =
    omega (arith, value_grows (10 * (10 * (10 * (10 * (10 * n + (a - 48)) + (b - 48)) + (c - 48)) + (d - 48)) + (e - 48)) l)
six-digits n [] h k = absurd (omega arith)
six-digits n (a ∷ []) h k = absurd (omega arith)
six-digits n (a ∷ b ∷ []) h k = absurd (omega arith)
six-digits n (a ∷ b ∷ c ∷ []) h k = absurd (omega arith)
six-digits n (a ∷ b ∷ c ∷ d ∷ []) h k = absurd (omega arith)

digits-short : (l : List ℕ) → decimal l ≡ true → value 0 l ≤ longest → length l ≤ 5
unfolding decimal value
digits-short [] d h = omega arith
digits-short (x ∷ []) d h = omega arith
digits-short (x ∷ y ∷ l) d h =
    let long : ltb (length (x ∷ y ∷ l)) 2 ≡ false = le-ltb (length (x ∷ y ∷ l)) 2 (omega arith) in
    let inner = split (ltb (length (x ∷ y ∷ l)) 2 || not (eqb x 48)) (all is_digit (x ∷ y ∷ l)) (split (ltb 0 (length (x ∷ y ∷ l))) _ d).1 in
    let nonzero : not (eqb x 48) ≡ true = other (ltb (length (x ∷ y ∷ l)) 2) (not (eqb x 48)) long inner.0 in
    let digit : leb 48 x ≡ true = (split (leb 48 x) (leb x 57) (split (is_digit x) (all is_digit (y ∷ l)) inner.1).0).0 in
    cases (leb 5 (length (y ∷ l)))
    (λ e. absurd (omega (arith, six-digits (10 * 0 + (x - 48)) (y ∷ l) (above x (leb-true 48 x digit) nonzero) (leb-true 5 (length (y ∷ l)) e))))
    (λ e. omega (arith, leb-false 5 (length (y ∷ l)) e))
  where
    other : (p q : Bool) → p ≡ false → (p || q) ≡ true → q ≡ true
    other p q e h = rw e at h

    above : (x : ℕ) → 48 ≤ x → not (eqb x 48) ≡ true → 0 < 10 * 0 + (x - 48)
    above x h n = cases (ltb 48 x) (λ e. omega (arith, ltb-true 48 x e))
        (λ e. let q : x ≡ 48 = omega (arith, ltb-false 48 x e) in clash n (ap not (eq-eqb x 48 q)))

-- five digits, 2,000 letters and two line feeds: whoever reads 2,008 bytes has read no input
pub input-short : (s : List ℕ) → is_input s ≡ true → length s ≤ 2007
unfolding is_input
input-short s h =
    let a = split (decimal (line s)) _ h in
    let b = split (leb (length_of s) longest) _ a.1 in
    let c = split (leb (length (letters_of s)) most_letters) _ b.1 in
    let d = split (all is_letter (letters_of s)) _ c.1 in
    omega (
      arith,
      digits-short (line s) a.0 (leb-true (length_of s) longest b.0),
      leb-true (length (letters_of s)) most_letters c.0,
      eqb-true (length (behind (behind s))) 0 d.1,
      lines-length s,
      lines-length (behind s),
    )

-- five digits and a line feed: whoever reads 7 bytes has read no number up to 32,500
pub one-number-short : (s : List ℕ) → is_one_number s ≡ true → length_of s ≤ longest → length s ≤ 6
unfolding is_one_number
one-number-short s h k =
    let a = split (decimal (line s)) _ h in
    omega (arith, digits-short (line s) a.0 k, eqb-true (length (behind s)) 0 a.1, lines-length s)
