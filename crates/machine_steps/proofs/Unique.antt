-- Keys that are unique in a list, and stay so in its parts, after a swap and after a removal. Assumes nothing.
use Rattle.std.specs.Prelude.{◌≡◌, Bool, true}
use mathlib.Core.List.{List, [], ◌∷◌, ◌++◌}
use Rattle.std.proofs.Math.Option.{none, some, none-ne-some}
use Rattle.octets.specs.BoolsLaws.{cases}
use Rattle.octets.specs.Lists.{All}
use Rattle.octets.specs.ListsLaws.{all_left, all_right, all_join}
use Rattle.machine.specs.Find.{find, swap, without}
use Rattle.machine_steps.proofs.Find.{Differs, Absent, absent_none, all-swap, all_without, same-flip}

-- what is so of each element is so without one of them
pub all-skip : {A : Type 0} (P : A → Type 0) (a : A) (l m : List A) → All P (l ++ (a ∷ m)) → All P (l ++ m)
all-skip P a l m p = all_join P l m (all_left P l (a ∷ m) p) (all_right P l (a ∷ m) p).1

module _ {A K : Type 0} (same : K → K → Bool) (key : A → K) where
  -- no two elements have one key
  abbrev pub Unique : List A → Type 0
  Unique [] = Unit {0}
  Unique (a ∷ l) = Absent same key (key a) l × Unique l

  -- ---- in a part

  pub unique-left : (l m : List A) → Unique (l ++ m) → Unique l
  unique-left [] m u = tt
  unique-left (b ∷ l) m u = (all_left (Differs same key (key b)) l m u.0, unique-left l m u.1)

  pub unique-right : (l m : List A) → Unique (l ++ m) → Unique m
  unique-right [] m u = u
  unique-right (b ∷ l) m u = unique-right l m u.1

  -- ---- without one element

  pub unique-skip : (a : A) (l m : List A) → Unique (l ++ (a ∷ m)) → Unique (l ++ m)
  unique-skip a [] m u = u.1
  unique-skip a (b ∷ l) m u = (all-skip (Differs same key (key b)) a l m u.0, unique-skip a l m u.1)

module _ {A K : Type 0} (same : K → K → Bool) (key : A → K) (same-eq : (j k : K) → same j k ≡ true → j ≡ k)
    (same_refl : (k : K) → same k k ≡ true) where
  -- ---- after a removal the key is gone

  pub absent-without : (k : K) (l : List A) → Unique same key l → Absent same key k (without same key k l)
  unfolding without
  absent-without k [] u = tt
  absent-without k (b ∷ l) u =
      cases (same k (key b))
      (λ e. rw (e, same-eq k (key b) e) u.0)
      (λ e. rw e (e, absent-without k l u.1))

  pub find-without-same : (k : K) (l : List A) → Unique same key l → find same key k (without same key k l) ≡ none
  find-without-same k l u = absent_none same key k (without same key k l) (absent-without k l u)

  -- ---- keys stay unique

  pub unique-swap : (a : A) (l : List A) → Unique same key l → Unique same key (swap same key a l)
  unfolding swap
  unique-swap a [] u = tt
  unique-swap a (b ∷ l) u =
      cases (same (key a) (key b))
      (λ e. rw e (rw (same-eq (key a) (key b) e) u.0, u.1))
      (λ e. rw e (all-swap same key (Differs same key (key b)) a l (same-flip same key same-eq same_refl (key a) (key b) e) u.0, unique-swap a l u.1))

  pub unique-without : (k : K) (l : List A) → Unique same key l → Unique same key (without same key k l)
  unfolding without
  unique-without k [] u = tt
  unique-without k (b ∷ l) u =
      cases (same k (key b))
      (λ e. rw e u.1)
      (λ e. rw e (all_without same key (Differs same key (key b)) k l u.0, unique-without k l u.1))

  -- an element with a key of its own may stand last
  pub unique-last : (a : A) (l : List A) → Absent same key (key a) l → Unique same key l → Unique same key (l ++ (a ∷ []))
  unique-last a [] h u = (tt, tt)
  unique-last a (b ∷ l) h u = (
    all_join (Differs same key (key b)) l (a ∷ []) u.0 (same-flip same key same-eq same_refl (key a) (key b) h.0, tt),
    unique-last a l h.1 u.1,
  )

  -- what is found in one part is not in the other
  pub unique-apart : (k : K) (a : A) (l m : List A) → Unique same key (l ++ m) → find same key k l ≡ some a → find same key k m ≡ none
  unfolding find
  unique-apart k a [] m u h = absurd (none-ne-some a h)
  unique-apart k a (b ∷ l) m u h =
      cases (same k (key b))
      (λ e. rw (same-eq k (key b) e) (absent_none same key (key b) m (all_right (Differs same key (key b)) l m u.0)))
      (λ e. unique-apart k a l m u.1 (rw e at h))
