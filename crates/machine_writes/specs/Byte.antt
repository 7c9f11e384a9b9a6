-- Single bytes: the first of a part, the others behind a write of one, and one that is written right before a write. Assumes nothing.
use Rattle.std.specs.Prelude.{ℕ, ◌+◌, ◌≤◌, ◌<◌, ◌≡◌, List, [], ◌∷◌, ◌++◌, length, get_or, take, drop}
use Rattle.std.proofs.Common.{add-zero, arith, sym, ap, ◌∙◌, append_assoc, drop_at, take-take, length-take-le}
use Rattle.std.proofs.Math.Decide.{dec_lt}
use Rattle.std.proofs.Math.Seq.{append_snoc}
use Rattle.std.proofs.lemmas.List.{take-append-le}
use Rattle.octets.specs.Octets.{part, put}
use Rattle.octets.specs.PartsLaws.{get_or-part, get_or-put-before, get_or-put-after}

pub first_byte : (b : List ℕ) (o n : ℕ) → 0 < n → get_or b o 0 ≡ get_or (part b o n) 0 0
first_byte b o n h = ap (λ (x : ℕ). get_or b x 0) (sym (add-zero o)) ∙ sym (get_or-part b o n 0 h)

-- a byte that is written leaves the others
pub byte-other : (b : List ℕ) (o x j : ℕ) → o < length b → (o ≡ j → ⊥) → get_or (put b o (x ∷ [])) j 0 ≡ get_or b j 0
byte-other b o x j h n = elim (dec_lt j o) [
  | yes l ↦ get_or-put-before b o (x ∷ []) (omega arith) j l
  | no l ↦ get_or-put-after b o (x ∷ []) (omega arith) j (omega (arith, n))
]

-- a byte written right before a write is one write with it
pub put-before : (b : List ℕ) (o x : ℕ) (v : List ℕ) → o + 1 + length v ≤ length b → put (put b (o + 1) v) o (x ∷ []) ≡ put b o (x ∷ v)
unfolding put
put-before b o x v h =
    let l : length (take (o + 1) b) ≡ o + 1 = length-take-le (o + 1) b (omega arith) in
    let e : put b (o + 1) v ≡ take (o + 1) b ++ (v ++ drop (o + 1 + length v) b) = append_assoc (take (o + 1) b) v (drop (o + 1 + length v) b) in
    let f : take o (put b (o + 1) v) ≡ take o b =
    ap (take o) e ∙ take-append-le o (take (o + 1) b) (v ++ drop (o + 1 + length v) b) (omega arith) ∙ take-take o (o + 1) b (omega arith) in
    let n : o + 1 + length v ≡ o + length (x ∷ v) = omega arith in
    let g : drop (o + 1) (put b (o + 1) v) ≡ v ++ drop (o + length (x ∷ v)) b =
    ap (drop (o + 1)) e ∙ drop_at (take (o + 1) b) (v ++ drop (o + 1 + length v) b) (o + 1) l ∙ ap (λ (j : ℕ). v ++ drop j b) n in
    (λ i. f i ++ (x ∷ []) ++ g i)
    ∙ append_snoc (take o b) x (v ++ drop (o + length (x ∷ v)) b)
    ∙ sym (append_assoc (take o b) (x ∷ v) (drop (o + length (x ∷ v)) b))
