-- Laws of bytes that are cut at their end. Assumes nothing.
use Rattle.std.proofs.Common.{ℕ, ◌+◌, ◌-◌, ◌*◌, ◌<◌, ◌≡◌, sym, ap, ◌∙◌, List, ◌∷◌, length, get_or, take, drop, leb, min, arith, length-drop}
use Rattle.std.proofs.lemmas.List.{take_all}
use Rattle.std.proofs.lemmas.Bool.{leb-true, leb-false}
use lib.ListN.{drop_of_length-le}
use Rattle.octets.specs.BoolsLaws.{cases}
use Rattle.octets.specs.Octets.{part, num}
use Rattle.link.specs.Entries.{entry_end, entries_of}
use Rattle.link.specs.EntriesLaws.{entries-more, entries_none}
use Rattle.link.specs.Stored.{Ends}

-- a place past the end is the end
drop-min : (s : List ℕ) (a m : ℕ) → m ≡ min a (length s) → drop m s ≡ drop a s
drop-min s a m h =
    cases (leb a (length s))
    (λ e. ap (λ (k : ℕ). drop k s) (let le = leb-true _ _ e in omega (arith, h)))
    (λ e. let gt = leb-false _ _ e in drop_of_length-le s (omega (arith, h)) ∙ sym (drop_of_length-le s (omega arith)))

take-min : (s : List ℕ) (a m : ℕ) → m ≡ min a (length s) → take m s ≡ take a s
take-min s a m h =
    cases (leb a (length s))
    (λ e. ap (λ (k : ℕ). take k s) (let le = leb-true _ _ e in omega (arith, h)))
    (λ e. let gt = leb-false _ _ e in take_all m s (omega (arith, h)) ∙ sym (take_all a s (omega arith)))

-- ---- where the first entry ends

pub ends-min : (s : List ℕ) (x r : ℕ) → x ≡ entry_end s → r ≡ min x (length s) → Ends s r
unfolding entry_end
ends-min s x r e h = record {
  first = take-min s x r h ∙ ap (λ (k : ℕ). take k s) e;
  rest = drop-min s x r h ∙ ap (λ (k : ℕ). drop k s) e;
  within = omega (arith, h);
}

pub entry-end : (s : List ℕ) (x y : ℕ) → x ≡ get_or s 0 0 → y ≡ get_or s 1 0 → 34 + (256 * x + y) ≡ entry_end s
unfolding entry_end num
entry-end s x y e f = omega (arith, e, f)

-- the first entry, and those behind it
pub next-entry : (s : List ℕ) (r : ℕ) → 0 < length s → Ends s r → entries_of s ≡ take r s ∷ entries_of (drop r s)
next-entry s r h d = entries-more s h ∙ (λ i. sym d.first i ∷ entries_of (sym d.rest i))

-- what a step over the entries cites
pub ruleset steps = (next-entry, entries_none)

-- ---- a part, cut at the end

pub behind_place : (s : List ℕ) (a m : ℕ) → m ≡ min a (length s) → take (length s - m) (drop m s) ≡ drop a s
behind_place s a m h = take_all (length s - m) (drop m s) (omega (arith, length-drop m s)) ∙ drop-min s a m h

pub part_between : (s : List ℕ) (a n m k : ℕ) → m ≡ min a (length s) → k ≡ min (a + n) (length s) → take (k - m) (drop m s) ≡ part s a n
unfolding part
part_between s a n m k h e =
    ap (take (k - m)) (drop-min s a m h)
    ∙ cases (leb (a + n) (length s))
    (λ t. let le = leb-true _ _ t in ap (λ (i : ℕ). take i (drop a s)) (omega (arith, h, e)))
    (λ t.
    let gt = leb-false _ _ t in
    take_all (k - m) (drop a s) (omega (arith, h, e, length-drop a s)) ∙ sym (take_all n (drop a s) (omega (arith, length-drop a s))))
