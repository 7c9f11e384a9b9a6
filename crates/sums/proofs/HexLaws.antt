-- A text grows by the two digits of a byte. Assumes nothing.
use Prim.Native.Nat.{ℕ, ◌+◌, ◌*◌, ◌/◌, ◌%◌, ◌<◌}
use native.Mathlib.Numerals.{add-one}
use native.Mathlib.Omega.{arith}
use mathlib.Core.Path.{◌≡◌, refl, ap, sym, ◌∙◌}
use mathlib.Core.List.{List, [], ◌∷◌, ◌++◌, append_assoc}
use lib.ListN.{length, get_or, take, set, length-set}
use lib.Seq.{take-suc, take-suc-set}
use Rattle.sums.specs.Line.{hex_digit, hexadecimal}

-- the digits of a byte
abbrev digits : ℕ → List ℕ
digits x = hex_digit (x / 16) ∷ hex_digit (x % 16) ∷ []

hexadecimal-more : (l : List ℕ) (x : ℕ) → hexadecimal (l ++ (x ∷ [])) ≡ hexadecimal l ++ digits x
unfolding hexadecimal
hexadecimal-more [] x = refl
hexadecimal-more (y ∷ l) x = ap (λ (m : List ℕ). hex_digit (y / 16) ∷ hex_digit (y % 16) ∷ m) (hexadecimal-more l x)

-- the digits of byte i are written behind those of the bytes before it
pub hex-more : (d text : List ℕ) (i a b : ℕ) → i < length d → length text ≡ 2 * length d → take (2 * i) text ≡ hexadecimal (take i d)
    → a ≡ hex_digit (get_or d i 0 / 16) → b ≡ hex_digit (get_or d i 0 % 16)
    → take (2 * (i + 1)) (set (set text (2 * i) a) (2 * i + 1) b) ≡ hexadecimal (take (i + 1) d)
hex-more d text i a b h n e f g =
    let once = set text (2 * i) a in
    let p : 2 * (i + 1) ≡ 2 * i + 1 + 1 = omega arith in
    ap (λ (k : ℕ). take k (set once (2 * i + 1) b)) (p ∙ add-one (2 * i + 1))
    ∙ take-suc-set once (2 * i + 1) b (omega (arith, length-set text (2 * i) a))
    ∙ ap (λ (l : List ℕ). l ++ (b ∷ [])) (ap (λ (k : ℕ). take k once) (add-one (2 * i)) ∙ take-suc-set text (2 * i) a (omega arith))
    ∙ append_assoc (take (2 * i) text) (a ∷ []) (b ∷ [])
    ∙ (λ t. e t ++ (f t ∷ g t ∷ []))
    ∙ sym (hexadecimal-more (take i d) (get_or d i 0))
    ∙ ap hexadecimal (sym (ap (λ (k : ℕ). take k d) (add-one i) ∙ take-suc d i 0 h))
