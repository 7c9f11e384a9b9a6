-- A list around the element that is found by key: what stands before it and what stands behind, and what is left when it is replaced or removed.
-- Assumes nothing.
use Rattle.std.specs.Prelude.{◌≡◌, refl, Bool}
use Rattle.std.proofs.Math.Path.{ap}
use mathlib.Core.List.{List, [], ◌∷◌, ◌++◌}
use Rattle.std.proofs.Math.Option.{none, some, none-ne-some, some-injective}
use Rattle.octets.specs.BoolsLaws.{cases}
use Rattle.machine.specs.Find.{find, swap, without}

module _ {A K : Type 0} (same : K → K → Bool) (key : A → K) where
  -- l has r, the first with key k, between `before` and `behind`
  pub record Split (k : K) (r : A) (l : List A) : Type 0 where
    pub before : List A
    pub behind : List A
    pub is : l ≡ before ++ (r ∷ behind)
    pub none_before : find same key k before ≡ none
    pub removed : without same key k l ≡ before ++ behind
    pub swapped : (a : A) → key a ≡ k → swap same key a l ≡ before ++ (a ∷ behind)

  pub found-split : (k : K) (r : A) (l : List A) → find same key k l ≡ some r → Split k r l
  unfolding find swap without
  found-split k r [] h = absurd (none-ne-some r h)
  found-split k r (c ∷ l) h =
      cases (same k (key c))
      (λ e. let q : c ≡ r = some-injective c r (rw e at h) in
      record {
        before = [];
        behind = l;
        is = ap (λ (x : A). x ∷ l) q;
        none_before = refl;
        removed = rw e;
        swapped = λ a f. rw (f, e);
      })
      (λ e. let s = found-split k r l (rw e at h) in
      record {
        before = c ∷ s.before;
        behind = s.behind;
        is = ap (λ (x : List A). c ∷ x) s.is;
        none_before = rw e s.none_before;
        removed = rw e (ap (λ (x : List A). c ∷ x) s.removed);
        swapped = λ a f. rw (f, e) (ap (λ (x : List A). c ∷ x) (s.swapped a f));
      })
