-- The tests of the definitions, over what an iterator gives, and the code's `==`; and what the iterator of entries gives. Assumes nothing.
use Rattle.std.proofs.Common.{ℕ, zero, suc, ◌+◌, ◌-◌, ◌<◌, ◌≡◌, refl, sym, ap, ◌∙◌, subst, map-id, Bool, true, false, ◌&&◌, ◌||◌, eqb, List, [], ◌∷◌, ◌++◌, map}
use Rattle.std.proofs.Common.{length, get_or, take, drop, arith, eq-eqb}
use native.Mathlib.Numerals.{add-one}
use lib.ListN.{length-drop}
use lib.Seq.{take-suc, take_all}
use Rattle.octets.specs.CompareLaws.{same-eq}
use Rattle.std.specs.Cmp.Lexicographic.{pointwise}
use Rattle.std.specs.List.{list_all, list_any}
use Rattle.octets.specs.Lists.{all}
use Rattle.octets.specs.Octets.{same}
use Rattle.std.proofs.lemmas.Iterator.{YieldsList}
use Rattle.std.proofs.lemmas.Iterator.Consumers.{YieldsList-from_first}
use Rattle.std.specs.Iterator.{YieldsFirstBy}
use Rattle.topic.specs.Book.{any}
use Rattle.topic.specs.Held.{held_entry, held_entries}
use Rattle.topic.specs.declared.entry.Entries.{Entries}

module _ {A B : Type 0} (g : A → B) (f : B → Bool) where
  pub all-map : (l : List A) → list_all (λ x. f (g x)) l ≡ all f (map g l)
  all-map [] = refl
  all-map (x ∷ l) = ap (λ (b : Bool). f (g x) && b) (all-map l)

  pub any-map : (l : List A) → list_any (λ x. f (g x)) l ≡ any f (map g l)
  any-map [] = refl
  any-map (x ∷ l) = ap (λ (b : Bool). f (g x) || b) (any-map l)

module _ {A : Type 0} (f : A → Bool) (l : List A) where
  pub all-is : list_all f l ≡ all f l
  all-is = all-map (λ (x : A). x) f l ∙ ap (all f) (map-id l)

  pub any-is : list_any f l ≡ any f l
  any-is = any-map (λ (x : A). x) f l ∙ ap (any f) (map-id l)

pub same-is : (x y : List ℕ) → pointwise eqb x y ≡ same x y
unfolding same
same-is [] [] = refl
same-is [] (b ∷ y) = refl
same-is (a ∷ x) [] = refl
same-is (a ∷ x) (b ∷ y) = ap (λ (c : Bool). eqb a b && c) (same-is x y)

-- the first i elements agree: so do the first i + 1, where the next ones are equal
pub same_more : (l m : List ℕ) (i : ℕ) → length l ≡ length m → i < length l → take i l ≡ take i m → get_or l i 0 ≡ get_or m i 0 → take (i + 1) l
    ≡ take (i + 1) m
same_more l m i e h f g =
    ap (λ (n : ℕ). take n l) (add-one i) ∙ take-suc l i 0 h
    ∙ (λ j. f j ++ (g j ∷ []))
    ∙ sym (take-suc m i 0 (omega (arith, e))) ∙ ap (λ (n : ℕ). take n m) (sym (add-one i))

-- lists that differ at a place are not the same
pub same_not : (l m : List ℕ) (i : ℕ) → (get_or l i 0 ≡ get_or m i 0 → ⊥) → same l m ≡ false
same_not l m i h = go (same l m) refl
  where
    go : (p : Bool) → same l m ≡ p → p ≡ false
    go true e = absurd (h (ap (λ (x : List ℕ). get_or x i 0) (same-eq l m e)))
    go false e = refl

-- behind elements that agree, the rest decides
same_behind : (l m : List ℕ) (n : ℕ) → length l ≡ length m → take n l ≡ take n m → same (drop n l) (drop n m) ≡ same l m
unfolding same
same_behind l m zero e f = refl
same_behind [] [] (suc n) e f = refl
same_behind [] (y ∷ m) (suc n) e f = absurd (omega (arith, e))
same_behind (x ∷ l) [] (suc n) e f = absurd (omega (arith, e))
same_behind (x ∷ l) (y ∷ m) (suc n) e f =
    let first : x ≡ y = ap (λ (k : List ℕ). get_or k 0 0) f in
    let rest : take n l ≡ take n m = ap (drop 1) f in
    same_behind l m n (omega (arith, e)) rest ∙ sym (rw (eq-eqb x y first))

-- .. as the code has it: n elements were compared, i at the end of the loop
pub same_rest : (l m : List ℕ) (i n : ℕ) → i ≡ n → length l ≡ length m → take i l ≡ take i m
    → same (take (length l - n) (drop n l)) (take (length m - n) (drop n m)) ≡ same l m
same_rest l m i n q e f =
    let left = take_all (length l - n) (drop n l) (omega (arith, length-drop n l)) in
    let right = take_all (length m - n) (drop n m) (omega (arith, length-drop n m)) in
    (λ j. same (left j) (right j)) ∙ same_behind l m n e (subst (λ (k : ℕ). take k l ≡ take k m) q f)

pub yields-entries : (s : Entries) → YieldsList (YieldsFirstBy held_entry held_entries) held_entry s (held_entries s)
yields-entries s = YieldsList-from_first held_entry held_entries (held_entries s) refl
