-- Laws of a run's entries: one after the other, how many there are, and what they are together. Assumes nothing.
use Rattle.std.specs.Prelude.{ℕ, zero, suc, ◌+◌, ◌*◌, ◌≤◌, ◌<◌, ◌≡◌, refl, List, [], ◌∷◌, length, drop}
use Rattle.std.proofs.Common.{arith, ap, ◌∙◌, length-drop, take_all}
use Rattle.std.proofs.Math.Seq.{drop-length}
use Rattle.link.specs.Entries.{entry_end, first_of, rest_of, entries, entries_of}

-- fuel past the number of bytes changes nothing
enough : (n m : ℕ) (run : List ℕ) → length run ≤ n → length run ≤ m → entries n run ≡ entries m run
unfolding entries entry_end
enough zero zero run h k = refl
enough zero (suc m) [] h k = refl
enough zero (suc m) (x ∷ l) h k = absurd (omega arith)
enough (suc n) zero [] h k = refl
enough (suc n) zero (x ∷ l) h k = absurd (omega arith)
enough (suc n) (suc m) [] h k = refl
enough (suc n) (suc m) (x ∷ l) h k =
    ap (λ (es : List (List ℕ)). first_of (x ∷ l) ∷ es)
    (enough n m (rest_of (x ∷ l)) (omega (arith, length-drop (entry_end (x ∷ l)) (x ∷ l))) (omega (arith, length-drop (entry_end (x ∷ l)) (x ∷ l))))

-- the first entry, then those of the rest
pub entries-more : (run : List ℕ) → 0 < length run → entries_of run ≡ first_of run ∷ entries_of (rest_of run)
unfolding entries entry_end
entries-more [] h = absurd (omega arith)
entries-more (x ∷ l) h =
    ap (λ (es : List (List ℕ)). first_of (x ∷ l) ∷ es)
    (enough (length l) (length (rest_of (x ∷ l))) (rest_of (x ∷ l)) (omega (arith, length-drop (entry_end (x ∷ l)) (x ∷ l))) (omega arith))

pub entries_none : (run : List ℕ) → length run ≡ 0 → entries_of run ≡ []
unfolding entries
entries_none [] h = refl
entries_none (x ∷ l) h = absurd (omega (arith, h))

-- an entry takes 34 bytes at least, but for the last
count : (n : ℕ) (run : List ℕ) → 34 * length (entries n run) ≤ length run + 33
unfolding entries entry_end
count zero run = omega arith
count (suc n) [] = omega arith
count (suc n) (x ∷ l) = omega (arith, count n (rest_of (x ∷ l)), length-drop (entry_end (x ∷ l)) (x ∷ l))

pub entries-count : (run : List ℕ) → 34 * length (entries_of run) ≤ length run + 33
entries-count run = count (length run) run

-- a run that is one entry
pub entries-one : (run : List ℕ) → 0 < length run → entry_end run ≡ length run → entries_of run ≡ run ∷ []
entries-one run h e =
    entries-more run h
    ∙ (λ i. take_all (entry_end run) run (omega (arith, e)) i ∷ entries_of ((ap (λ (n : ℕ). drop n run) e ∙ drop-length run) i))
    ∙ ap (λ (es : List (List ℕ)). run ∷ es) (entries_none [] refl)
