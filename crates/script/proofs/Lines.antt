-- Laws of lines, digits and numbers. Assumes nothing.
use Rattle.std.proofs.Common.{ℕ, suc, ◌+◌, ◌-◌, ◌*◌, ◌≤◌, ◌<◌, ◌≡◌, refl, sym, ap, ◌∙◌, Bool, true, cond, ◌&&◌, List, [], ◌∷◌}
use Rattle.std.proofs.Common.{length, take, drop, get_or, eqb, leb, ltb, arith, Option, None, Some}
use Rattle.std.proofs.Common.{length-drop, ltb-false, le-leb, not, ◌||◌, unwrap_or, is_some}
use Rattle.std.proofs.lemmas.Bool.{lt-leb}
use Rattle.std.proofs.lemmas.List.{take_all}
use native.Mathlib.Numerals.{add-one}
use lib.Seq.{drop-cons}
use lib.ListN.{drop_of_length-le}
use Rattle.std.specs.Bool.{then_some}
use Rattle.std.specs.List.{list_all, position_or_len}
use Rattle.octets.specs.BoolsLaws.{cases, clash, split}
use Rattle.octets.specs.Lists.{all}
use Rattle.machine.specs.Limits.{longest}
use Rattle.script.specs.Input.{line_feed, digit_zero, line, behind, is_digit, value, decimal}

-- the library's test of every element
pub all-is : (f : ℕ → Bool) (l : List ℕ) → list_all f l ≡ all f l
all-is f [] = refl
all-is f (x ∷ l) = ap (λ (b : Bool). f x && b) (all-is f l)

-- ---- lines

abbrev pub ends_line : ℕ → Bool
ends_line b = eqb b line_feed

-- where the first line feed stands
abbrev pub first_end : List ℕ → Option ℕ
first_end s = cond (ltb (position_or_len ends_line s) (length s)) (Some (position_or_len ends_line s)) None

-- a line goes up to there, or to the end
line-to : (s : List ℕ) → take (position_or_len ends_line s) s ≡ line s
unfolding line
line-to [] = refl
line-to (x ∷ l) =
    let one_more : 1 + position_or_len ends_line l ≡ suc (position_or_len ends_line l) = omega arith in
    cases (ends_line x) (λ e. rw e refl) (λ e. rw e (ap (λ (n : ℕ). take n (x ∷ l)) one_more ∙ ap (λ (m : List ℕ). x ∷ m) (line-to l)))

behind-from : (s : List ℕ) → drop (position_or_len ends_line s + 1) s ≡ behind s
unfolding behind
behind-from [] = refl
behind-from (x ∷ l) =
    let one_more : 1 + position_or_len ends_line l + 1 ≡ suc (position_or_len ends_line l + 1) = omega arith in
    cases (ends_line x) (λ e. rw e refl) (λ e. rw e (ap (λ (n : ℕ). drop n (x ∷ l)) one_more ∙ behind-from l))

pub two-parts : (s : List ℕ) (end : ℕ) → Some end ≡ first_end s → (take end s ≡ line s) × (take (length s - (end + 1)) (drop (end + 1) s) ≡ behind s)
two-parts s end h =
    cases (ltb (position_or_len ends_line s) (length s))
    (λ t.
    let e : end ≡ position_or_len ends_line s = ap (λ o. unwrap_or o 0) (rw t at h) in (
      ap (λ (n : ℕ). take n s) e ∙ line-to s,
      take_all (length s - (end + 1)) (drop (end + 1) s) (omega (arith, length-drop (end + 1) s)) ∙ ap (λ (n : ℕ). drop (n + 1) s) e ∙ behind-from s,
    ))
    (λ f. clash refl (ap is_some (rw f at h)))

pub one-part : (s : List ℕ) → None ≡ first_end s → (s ≡ line s) × ([] ≡ behind s)
one-part s h =
    cases (ltb (position_or_len ends_line s) (length s))
    (λ t. clash (ap is_some (rw t at h)) refl)
    (λ f.
    let past = ltb-false _ _ f in (
      sym (take_all (position_or_len ends_line s) s past) ∙ line-to s,
      sym (drop_of_length-le s (omega (arith, past))) ∙ behind-from s,
    ))

-- ---- numbers

value_grows : (n : ℕ) (l : List ℕ) → n ≤ value n l
unfolding value
value_grows n [] = omega arith
value_grows n (x ∷ l) = omega (arith, value_grows (10 * n + (x - digit_zero)) l)

-- one digit more
pub value_on : (s : List ℕ) (i n d : ℕ) → i < length s → d ≡ get_or s i 0 - digit_zero → value n (drop i s) ≡ value 0 s
    → value (10 * n + d) (drop (i + 1) s) ≡ value 0 s
unfolding value
value_on s i n d h e k =
    ap (λ (x : ℕ). value (10 * n + x) (drop (i + 1) s)) e ∙ (λ j. value (10 * n + (get_or s i 0 - digit_zero)) (drop (add-one i j) s))
    ∙ sym (ap (value n) (drop-cons s i 0 h)) ∙ k

-- a number that is too long already
pub value-long : (n : ℕ) (l s : List ℕ) → longest < n → value n l ≡ value 0 s → None ≡ then_some (leb (value 0 s) longest) (value 0 s)
value-long n l s h k = rw (lt-leb (value 0 s) longest (omega (arith, value_grows n l, k))) refl

pub value-end : (n i : ℕ) (s : List ℕ) → n ≤ longest → length s ≤ i → value n (drop i s) ≡ value 0 s
    → Some n ≡ then_some (leb (value 0 s) longest) (value 0 s)
unfolding value
value-end n i s h j k =
    let e : n ≡ value 0 s = sym (ap (value n) (drop_of_length-le s j)) ∙ k in
    rw (le-leb (value 0 s) longest (omega (arith, e))) (ap Some e)

-- a decimal is digits
pub decimal_digits : (l : List ℕ) → decimal l ≡ true → all is_digit l ≡ true
unfolding decimal
decimal_digits l h = (split (ltb (length l) 2 || not (eqb (get_or l 0 0) digit_zero)) (all is_digit l)
    (split (ltb 0 (length l)) ((ltb (length l) 2 || not (eqb (get_or l 0 0) digit_zero)) && all is_digit l) h).1).1
