-- Sizes as bytes: how many, and what one more size adds. For the code that writes them. Assumes nothing.
use Rattle.std.specs.Prelude.{ℕ, zero, suc, ◌+◌, ◌*◌, ◌-◌, ◌≤◌, min, ◌≡◌, refl, List, [], ◌∷◌, ◌++◌, length}
use Rattle.std.proofs.Common.{arith, sym, ap, ◌∙◌, append_assoc, append-nil, length-append}
use Rattle.octets.specs.Octets.{put, be}
use Rattle.octets.specs.PartsLaws.{more}
use Rattle.octets.specs.NumbersLaws.{length-be}
use Rattle.packet.specs.Frame.{largest_piece}
use Rattle.planner.specs.Plan.{words}
use Rattle.planner.proofs.FormLaws.{length-planned}
use Rattle.planner.specs.Form.{planned}

pub length-words : (l : List ℕ) → length (words l) ≡ 2 * length l
unfolding words
length-words [] = refl
length-words (x ∷ l) = omega (arith, length-append (be 2 x) (words l), length-be 2 x, length-words l)

words_more : (l : List ℕ) (x : ℕ) → words (l ++ (x ∷ [])) ≡ words l ++ be 2 x
unfolding words
words_more [] x = append-nil (be 2 x)
words_more (y ∷ l) x = ap (λ (m : List ℕ). be 2 y ++ m) (words_more l x) ∙ sym (append_assoc (be 2 y) (words l) (be 2 x))

-- the size behind k others
planned-more : (k n : ℕ) → planned (suc k) n ≡ planned k n ++ (min largest_piece (n - largest_piece * k) ∷ [])
unfolding planned
planned-more zero n = ap (λ (x : ℕ). min largest_piece x ∷ []) (omega arith)
planned-more (suc k) n =
    ap (λ (l : List ℕ). min largest_piece n ∷ l)
    (planned-more k (n - largest_piece) ∙ ap (λ (x : ℕ). planned k (n - largest_piece) ++ (min largest_piece x ∷ [])) (omega arith))

-- where k sizes are written, one more is
pub write-more : (k n size : ℕ) (b m l : List ℕ) → size ≡ min largest_piece (n - largest_piece * k) → 2 * k + 2 ≤ length b
    → m ≡ put b 0 (words (planned k n)) → l ≡ put m (2 * k) (be 2 size) → l ≡ put b 0 (words (planned (suc k) n))
write-more k n size b m l s h e f =
    let w : length (words (planned k n)) ≡ 2 * k = length-words (planned k n) ∙ ap (λ (x : ℕ). 2 * x) (length-planned k n) in
    let next = min largest_piece (n - largest_piece * k) in
    more b m l 0 (2 * k) (words (planned k n)) (be 2 size) e f (omega arith) (omega arith)
    ∙ ap (put b 0)
    (ap (λ (x : ℕ). words (planned k n) ++ be 2 x) s ∙ sym (words_more (planned k n) next) ∙ ap words (sym (planned-more k n)))
