-- Laws of `find`, `swap` and `without`, for elements of any kind by keys of any kind. `same` tests keys; where a law needs them, it takes the two
-- laws of that test: keys that test the same are equal, and a key tests the same as itself. Assumes nothing.
use Rattle.std.specs.Prelude.{ℕ, ◌+◌, ◌≡◌, Bool, true}
use Rattle.std.proofs.Common.{arith, ◌∙◌}
use Rattle.std.proofs.Math.Path.{refl, ap}
use Rattle.std.proofs.Math.Bool.{false}
use mathlib.Core.List.{List, [], ◌∷◌, ◌++◌}
use Rattle.std.proofs.Math.Option.{Option, none, some, none-ne-some, some-ne-none, some-injective}
use Rattle.octets.specs.BoolsLaws.{cases, clash}
use Rattle.octets.specs.Lists.{All}
use Rattle.machine.specs.Counting.{total}
use Rattle.machine.specs.Find.{find, swap, without, is_some}

-- nothing is found where the test says so
pub is_none : {A : Type 0} (o : Option A) → is_some o ≡ false → o ≡ none
is_none none e = refl
is_none (some a) e = clash refl e

module _ {A K : Type 0} (same : K → K → Bool) (key : A → K) where
  -- an element has another key, and no element of a list has the key
  abbrev pub Differs : K → A → Type 0
  Differs k a = same k (key a) ≡ false

  abbrev pub Absent : K → List A → Type 0
  Absent k l = All (Differs k) l

  -- ---- found or not

  pub absent_none : (k : K) (l : List A) → Absent k l → find same key k l ≡ none
  unfolding find
  absent_none k [] h = refl
  absent_none k (a ∷ l) h = rw h.0 (absent_none k l h.1)

  pub none-absent : (k : K) (l : List A) → find same key k l ≡ none → Absent k l
  unfolding find
  none-absent k [] h = tt
  none-absent k (a ∷ l) h = cases (same k (key a)) (λ e. absurd (some-ne-none a (rw e at h))) (λ e. (e, none-absent k l (rw e at h)))

  pub find-first-other : (k : K) (a : A) (l : List A) → Differs k a → find same key k (a ∷ l) ≡ find same key k l
  unfolding find
  find-first-other k a l h = rw h

  pub find-append : (k : K) (a : A) (l m : List A) → find same key k l ≡ some a → find same key k (l ++ m) ≡ some a
  unfolding find
  find-append k a [] m h = absurd (none-ne-some a h)
  find-append k a (b ∷ l) m h = cases (same k (key b)) (λ e. rw e (rw e at h)) (λ e. rw e (find-append k a l m (rw e at h)))

  pub find-append-none : (k : K) (l m : List A) → find same key k l ≡ none → find same key k (l ++ m) ≡ find same key k m
  unfolding find
  find-append-none k [] m h = refl
  find-append-none k (b ∷ l) m h = cases (same k (key b)) (λ e. absurd (some-ne-none b (rw e at h))) (λ e. rw e (find-append-none k l m (rw e at h)))

  -- ---- what is so of each element

  -- is so of the one that is found
  pub all_found : (P : A → Type 0) (k : K) (a : A) (l : List A) → find same key k l ≡ some a → All P l → P a
  unfolding find
  all_found P k a [] h p = absurd (none-ne-some a h)
  all_found P k a (b ∷ l) h p =
      cases (same k (key b))
      (λ e. rw (← some-injective b a (rw e at h)) p.0)
      (λ e. all_found P k a l (rw e at h) p.1)

  pub all-swap : (P : A → Type 0) (a : A) (l : List A) → P a → All P l → All P (swap same key a l)
  unfolding swap
  all-swap P a [] q p = tt
  all-swap P a (b ∷ l) q p = cases (same (key a) (key b)) (λ e. rw e (q, p.1)) (λ e. rw e (p.0, all-swap P a l q p.1))

  pub all_without : (P : A → Type 0) (k : K) (l : List A) → All P l → All P (without same key k l)
  unfolding without
  all_without P k [] p = tt
  all_without P k (b ∷ l) p = cases (same k (key b)) (λ e. rw e p.1) (λ e. rw e (p.0, all_without P k l p.1))

  -- ---- totals

  pub total-swap : (f : A → ℕ) (a b : A) (l : List A) → find same key (key a) l ≡ some b → total f (swap same key a l) + f b ≡ total f l + f a
  unfolding find swap
  total-swap f a b [] h = absurd (none-ne-some b h)
  total-swap f a b (c ∷ l) h =
      cases (same (key a) (key c))
      (λ e. let q : f c ≡ f b = ap f (some-injective c b (rw e at h)) in rw e (omega arith))
      (λ e. let q = total-swap f a b l (rw e at h) in rw e (omega arith))

  pub total-without : (f : A → ℕ) (k : K) (b : A) (l : List A) → find same key k l ≡ some b → total f (without same key k l) + f b ≡ total f l
  unfolding find without
  total-without f k b [] h = absurd (none-ne-some b h)
  total-without f k b (c ∷ l) h =
      cases (same k (key c))
      (λ e. let q : f c ≡ f b = ap f (some-injective c b (rw e at h)) in rw e (omega arith))
      (λ e. let q = total-without f k b l (rw e at h) in rw e (omega arith))

  -- ---- a part of a longer list

  pub swap-append : (a b : A) (l m : List A) → find same key (key a) l ≡ some b → swap same key a (l ++ m) ≡ swap same key a l ++ m
  unfolding find swap
  swap-append a b [] m h = absurd (none-ne-some b h)
  swap-append a b (c ∷ l) m h = cases (same (key a) (key c)) (λ e. rw e) (λ e. rw e (ap (λ (x : List A). c ∷ x) (swap-append a b l m (rw e at h))))

  pub without-append : (k : K) (b : A) (l m : List A) → find same key k l ≡ some b → without same key k (l ++ m) ≡ without same key k l ++ m
  unfolding find without
  without-append k b [] m h = absurd (none-ne-some b h)
  without-append k b (c ∷ l) m h = cases (same k (key c)) (λ e. rw e) (λ e. rw e (ap (λ (x : List A). c ∷ x) (without-append k b l m (rw e at h))))

module _ {A K : Type 0} (same : K → K → Bool) (key : A → K) (same-eq : (j k : K) → same j k ≡ true → j ≡ k)
    (same_refl : (k : K) → same k k ≡ true) where
  -- ---- keys

  pub same-flip : (j k : K) → same j k ≡ false → same k j ≡ false
  same-flip j k h = cases (same k j) (λ e. clash (rw (same-eq k j e) (same_refl j)) h) (λ e. e)

  -- what is found has the key
  pub find-key : (k : K) (a : A) (l : List A) → find same key k l ≡ some a → k ≡ key a
  unfolding find
  find-key k a [] h = absurd (none-ne-some a h)
  find-key k a (b ∷ l) h =
      cases (same k (key b))
      (λ e. same-eq k (key b) e ∙ ap key (some-injective b a (rw e at h)))
      (λ e. find-key k a l (rw e at h))

  -- so it is found by its own key
  pub find-own : (k : K) (a : A) (l : List A) → find same key k l ≡ some a → find same key (key a) l ≡ some a
  find-own k a l h = rw (← find-key k a l h) h

  pub find-first-same : (a : A) (l : List A) → find same key (key a) (a ∷ l) ≡ some a
  unfolding find
  find-first-same a l = rw same_refl

  -- ---- found after a swap

  pub find-swap-same : (a b : A) (l : List A) → find same key (key a) l ≡ some b → find same key (key a) (swap same key a l) ≡ some a
  unfolding find swap
  find-swap-same a b [] h = absurd (none-ne-some b h)
  find-swap-same a b (c ∷ l) h =
      cases (same (key a) (key c))
      (λ e. rw (e, same_refl))
      (λ e. rw (e, e) (find-swap-same a b l (rw e at h)))

  pub find-swap-other : (k : K) (a : A) (l : List A) → Differs same key k a → find same key k (swap same key a l) ≡ find same key k l
  unfolding find swap
  find-swap-other k a [] h = refl
  find-swap-other k a (b ∷ l) h =
      cases (same (key a) (key b))
      (λ e. let f : same k (key b) ≡ false = rw (← same-eq (key a) (key b) e) h in rw (e, h, f))
      (λ e. rw (e, find-swap-other k a l h))

  -- ---- found after a removal: another key here, the same key in Unique

  pub find-without-other : (k j : K) (l : List A) → same k j ≡ false → find same key k (without same key j l) ≡ find same key k l
  unfolding find without
  find-without-other k j [] h = refl
  find-without-other k j (b ∷ l) h =
      cases (same j (key b))
      (λ e. let f : same k (key b) ≡ false = rw (← same-eq j (key b) e) h in rw (e, f))
      (λ e. rw (e, find-without-other k j l h))
