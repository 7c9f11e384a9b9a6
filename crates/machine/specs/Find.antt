-- Lists read by key, in general: the first element with a key, that element replaced where it stands, and the list without it.
use Rattle.std.specs.Prelude.{Bool, true, false, cond, List, [], ◌∷◌}
use Rattle.std.proofs.Math.Option.{Option, none, some}

module _ {A K : Type 0} (same : K → K → Bool) (key : A → K) where
  -- the first element with the key
  unfoldable pub find : K → List A → Option A
  find k [] = none
  find k (a ∷ l) = cond (same k (key a)) (some a) (find k l)

  -- the first element with the key of a, replaced by a
  unfoldable pub swap : A → List A → List A
  swap a [] = []
  swap a (b ∷ l) = cond (same (key a) (key b)) (a ∷ l) (b ∷ swap a l)

  -- the list without the first element with the key
  unfoldable pub without : K → List A → List A
  without k [] = []
  without k (b ∷ l) = cond (same k (key b)) l (b ∷ without k l)

-- there is one
abbrev pub is_some : {A : Type 0} → Option A → Bool
is_some none = false
is_some (some a) = true
