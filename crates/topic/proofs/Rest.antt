-- What the definitions say of a book from a place on, they say of the bytes from there on, read from their front: of the first entry and of what
-- stands behind it. And what they say of byte 0 and the entries behind it. Assumes nothing.
use Rattle.std.proofs.Common.{ℕ, zero, suc, ◌+◌, ◌≤◌, ◌<◌, ◌≡◌, refl, sym, ap, ap₂, ◌∙◌, Bool, true, false, ◌&&◌, eqb, ltb, leb}
use Rattle.std.proofs.Common.{List, [], ◌∷◌, map, length, get_or, drop, length-drop, get_or-drop, drop-drop, Option, Some, None, option_map}
use Rattle.std.proofs.Common.{arith, eqb-true, lt-ltb, le-ltb, ltb-true, ltb-false, le-leb, leb-true, leb-false}
use Rattle.std.proofs.lemmas.Bool.{lt-leb}
use borrow.Author.Tests.{eqb-false}
use Rattle.std.proofs.lemmas.Bool.Decides.{nat_tests}
use Rattle.std.specs.Bool.{then_some}
use Rattle.octets.specs.BoolsLaws.{cases}
use Rattle.octets.specs.Octets.{part}
use Rattle.octets.specs.Lists.{all}
use Rattle.topic.specs.Book.{well_formed, all_fit, distinct, book_of, Entry, subnets_at, count_at, end_at, entry_at, starts, entries_from, uncut}

-- ---- the places where entries start

starts_none : (n : ℕ) (b : List ℕ) (at : ℕ) → length b ≤ at → starts n b at ≡ []
unfolding starts
starts_none zero b at h = refl
starts_none (suc n) b at h = rw (le-ltb at (length b) h)

-- any two counts that are enough give the same
starts-enough : (n m : ℕ) (b : List ℕ) (at : ℕ) → length b ≤ at + n → length b ≤ at + m → starts n b at ≡ starts m b at
unfolding starts
starts-enough zero m b at h k = sym (starts_none m b at (omega arith))
starts-enough (suc n) zero b at h k = starts_none (suc n) b at (omega arith)
starts-enough (suc n) (suc m) b at h k =
    cases (ltb at (length b))
    (λ e. rw e (ap (λ (l : List ℕ). at ∷ l) (starts-enough n m b (end_at b at) (omega arith) (omega arith))))
    (λ e. rw e)

-- ---- the bytes from k on

along : {A : Type 0} (f g : ℕ → A) (h : ℕ → ℕ) → ((i : ℕ) → f (h i) ≡ g i) → (l : List ℕ) → map f (map h l) ≡ map g l
along f g h e [] = refl
along f g h e (i ∷ l) = ap₂ ◌∷◌ (e i) (along f g h e l)

all-along : (f g : ℕ → Bool) (h : ℕ → ℕ) → ((i : ℕ) → f (h i) ≡ g i) → (l : List ℕ) → all f (map h l) ≡ all g l
all-along f g h e [] = refl
all-along f g h e (i ∷ l) = ap₂ ◌&&◌ (e i) (all-along f g h e l)

module _ (b : List ℕ) (k : ℕ) where
  byte-drop : (i j : ℕ) → j ≡ k + i → get_or b j 0 ≡ get_or (drop k b) i 0
  byte-drop i j e = ap (λ (n : ℕ). get_or b n 0) e ∙ sym (get_or-drop k b i 0)

  part-drop : (o j n m : ℕ) → j ≡ k + o → n ≡ m → part b j n ≡ part (drop k b) o m
  unfolding part
  part-drop o j n m e f = rw (e, f, drop-drop)

  count-drop : (at : ℕ) → count_at b (k + at) ≡ k + count_at (drop k b) at
  count-drop at = omega (arith, byte-drop at (k + at) refl)

  end-drop : (at : ℕ) → end_at b (k + at) ≡ k + end_at (drop k b) at
  end-drop at = omega (arith, count-drop at, byte-drop (count_at (drop k b) at) (count_at b (k + at)) (count-drop at))

  subnets-drop : (o j n : ℕ) → j ≡ k + o → subnets_at b j n ≡ subnets_at (drop k b) o n
  unfolding subnets_at
  subnets-drop o j zero e = refl
  subnets-drop o j (suc n) e =
      ap₂ ◌∷◌ (λ i. record { net = part-drop o j 16 16 e refl i; bits = byte-drop (o + 16) (j + 16) (omega arith) i })
      (subnets-drop (o + 17) (j + 17) n (omega arith))

  entry-drop : (at : ℕ) → entry_at b (k + at) ≡ entry_at (drop k b) at
  entry-drop at =
      let c = count-drop at in
      let n : get_or b (count_at b (k + at)) 0 ≡ get_or (drop k b) (count_at (drop k b) at) 0 = byte-drop _ _ c in
      λ i. record {
        topic = part-drop (at + 1) (k + at + 1) _ _ (omega arith) (byte-drop at (k + at) refl) i;
        subnets = (subnets-drop (count_at (drop k b) at + 1) (count_at b (k + at) + 1) _ (omega arith)
            ∙ ap (subnets_at (drop k b) (count_at (drop k b) at + 1)) n) i;
      }

  starts-drop : (n at : ℕ) → starts n b (k + at) ≡ map (λ i. k + i) (starts n (drop k b) at)
  unfolding starts
  starts-drop zero at = refl
  starts-drop (suc n) at =
      cases (ltb at (length (drop k b)))
      (λ e. rw (e, lt-ltb (k + at) (length b) (omega (arith, ltb-true at (length (drop k b)) e, length-drop k b)))
      (ap (λ (l : List ℕ). (k + at) ∷ l) (ap (starts n b) (end-drop at) ∙ starts-drop n (end_at (drop k b) at))))
      (λ e. rw (e, le-ltb (k + at) (length b) (omega (arith, ltb-false at (length (drop k b)) e, length-drop k b))))

  starts-behind : starts (length b) b k ≡ map (λ i. k + i) (starts (length (drop k b)) (drop k b) 0)
  starts-behind =
      let e : k ≡ k + 0 = omega arith in
      ap (starts (length b) b) e ∙ starts-drop (length b) 0
      ∙ ap (map (λ i. k + i)) (starts-enough (length b) (length (drop k b)) (drop k b) 0 (omega (arith, length-drop k b)) (omega arith))

  pub entries-behind : entries_from b k ≡ entries_from (drop k b) 0
  entries-behind = ap (map (entry_at b)) starts-behind ∙ along (entry_at b) (entry_at (drop k b)) (λ i. k + i) entry-drop _

  pub uncut-behind : k ≤ length b → uncut b k ≡ uncut (drop k b) 0
  uncut-behind h =
      ap (all (λ i. leb (end_at b i) (length b))) starts-behind
      ∙ all-along (λ i. leb (end_at b i) (length b)) (λ i. leb (end_at (drop k b) i) (length (drop k b))) (λ i. k + i)
      (λ i. let e = end-drop i in let d = length-drop k b in grind (arith, nat_tests)) _

-- ---- the first entry

module _ (b : List ℕ) (h : 0 < length b) where
  starts-first : starts (length b) b 0 ≡ 0 ∷ starts (length b) b (end_at b 0)
  unfolding starts
  starts-first =
      starts-enough (length b) (suc (length b)) b 0 (omega arith) (omega arith) ∙ rw (lt-ltb 0 (length b) h)

  entries-first : entries_from b 0 ≡ entry_at b 0 ∷ entries_from (drop (end_at b 0) b) 0
  entries-first = ap (map (entry_at b)) starts-first ∙ ap (λ (l : List Entry). entry_at b 0 ∷ l) (entries-behind b (end_at b 0))

  uncut-first : end_at b 0 ≤ length b → uncut b 0 ≡ uncut (drop (end_at b 0) b) 0
  uncut-first k = ap (all (λ i. leb (end_at b i) (length b))) starts-first ∙ rw (le-leb (end_at b 0) (length b) k) (uncut-behind b (end_at b 0) k)

  uncut-cut : length b < end_at b 0 → uncut b 0 ≡ false
  uncut-cut k = ap (all (λ i. leb (end_at b i) (length b))) starts-first ∙ rw (lt-leb (end_at b 0) (length b) k)

-- no bytes
module _ (b : List ℕ) (h : length b ≡ 0) where
  pub entries-none : entries_from b 0 ≡ []
  entries-none = ap (map (entry_at b)) (starts_none (length b) b 0 (omega arith))

  uncut-none : uncut b 0 ≡ true
  uncut-none = ap (all (λ i. leb (end_at b i) (length b))) (starts_none (length b) b 0 (omega arith))

-- ---- what `Entry::split` gives: the first entry and the bytes behind it, where the bytes hold it

pub some-then : {A : Type 0} (q : Bool) (x y : A) → Some x ≡ then_some q y → (q ≡ true) × (x ≡ y)
some-then true x y e = (refl, cc)
some-then false x y e = cc

pub none-then : {A : Type 0} (q : Bool) (y : A) → None ≡ then_some q y → q ≡ false
none-then true y e = cc
none-then false y e = refl

abbrev pub Split : List ℕ → Option (Entry × List ℕ) → Type 0
Split b r = r ≡ then_some (leb (end_at b 0) (length b)) (entry_at b 0, drop (end_at b 0) b)

module _ (b : List ℕ) (e : Entry) (rest : List ℕ) (h : Split b (Some (e, rest))) where
  split-end : end_at b 0 ≤ length b
  split-end = leb-true _ _ (some-then _ _ _ h).0

  split-fits : 0 < length b
  split-fits = omega (arith, split-end)

  pub split-entries : entries_from b 0 ≡ e ∷ entries_from rest 0
  split-entries =
      let d = some-then _ _ _ h in
      entries-first b split-fits ∙ sym (λ i. (d.1 i).0 ∷ entries_from (d.1 i).1 0)

  pub split-uncut : uncut b 0 ≡ uncut rest 0
  split-uncut = uncut-first b split-fits split-end ∙ sym (λ i. uncut ((some-then _ _ _ h).1 i).1 0)

-- where there is none, the bytes are whole only if there are none
pub split-none : (b : List ℕ) → Split b None → uncut b 0 ≡ eqb (length b) 0
split-none b h =
    cases (eqb (length b) 0)
    (λ e. rw e (uncut-none b (eqb-true (length b) 0 e)))
    (λ e. rw e (uncut-cut b (omega (arith, eqb-false (length b) 0 e)) (omega (arith, leb-false (end_at b 0) (length b) (none-then _ _ h)))))

-- what a step of the iterator cites
pub ruleset splits = (split-entries, split-uncut, split-none, entries-none)

-- ---- byte 0, and the entries behind it

module _ (first : ℕ) (rest : List ℕ) where
  pub formed-is : well_formed (first ∷ rest) ≡ (ltb first 2 && uncut rest 0 && all_fit (entries_from rest 0) && distinct (entries_from rest 0))
  unfolding well_formed
  formed-is = rw (entries-behind (first ∷ rest) 1, uncut-behind (first ∷ rest) 1 (omega arith), lt-ltb 0 (length (first ∷ rest)) (omega arith))

  pub book-is : book_of (first ∷ rest) ≡ record { accepts = eqb first 0; entries = entries_from rest 0 }
  book-is = rw (entries-behind (first ∷ rest) 1)

pub formed-none : (b : List ℕ) → length b ≡ 0 → well_formed b ≡ false
unfolding well_formed
formed-none b h = rw (le-ltb 0 (length b) (omega arith))

pub map-then : {A B : Type 0} (f : A → B) (q : Bool) (x : A) → option_map f (then_some q x) ≡ then_some q (f x)
map-then f true x = refl
map-then f false x = refl

-- what reading a book cites
pub ruleset books = (some-then, none-then, formed-is, book-is, formed-none, map-then, nat_tests)
