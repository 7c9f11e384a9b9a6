-- Walks along links, a step at a time. Assumes nothing.
use Prim.Native.Nat.{ℕ, zero, suc, ◌-◌, ◌≤◌, ◌<◌}
use native.Mathlib.Omega.{arith}
use mathlib.Core.Path.{◌≡◌, refl, sym, ap, ◌∙◌}
use mathlib.Core.Bool.{Bool, true}
use mathlib.Core.List.{[], ◌∷◌}
use lib.ListN.{length, length-map}
use lib.Dec.{eqb}
use borrow.Author.Tests.{ne_eqb}
use Rattle.octets.specs.BoolsLaws.{cases, split}
use Rattle.octets.specs.Lists.{all}
use Rattle.machine.specs.Chains.{link, walk}
use Rattle.machine.specs.Layout.{rec_at, cell_at, read_cell}
use Rattle.machine.specs.Counting.{inside}
use Rattle.machine_laws.specs.Counting.{inside_is}
use Rattle.soundness.specs.declared.records.Records.{Records}
use Rattle.soundness.specs.declared.pieces.Pieces.{Pieces}
use Rattle.soundness.specs.Places.{places, pieces_left}

module _ (next : ℕ → ℕ) where
  -- a walk that stands at 0, or has no steps left, meets no more
  pub walk_none : (n : ℕ) → walk next n 0 ≡ []
  unfolding walk
  walk_none zero = refl
  walk_none (suc n) = refl

  pub walk_out : (x : ℕ) → walk next 0 x ≡ []
  unfolding walk
  walk_out x = refl

  -- it meets no more places than it has steps
  walk_short : (n x : ℕ) → length (walk next n x) ≤ n
  unfolding walk
  walk_short zero x = omega arith
  walk_short (suc n) x =
      cases (eqb x 0) (λ e. rw e (omega arith)) (λ e. rw e (let h = walk_short n (next x) in omega arith))

  -- else it meets x, and goes on
  module _ (n x : ℕ) (h : n ≡ 0 → ⊥) (s : x ≡ 0 → ⊥) where
    pub walk_on : walk next n x ≡ x ∷ walk next (n - 1) (next x)
    unfolding walk
    walk_on = let q : n ≡ suc (n - 1) = omega arith in ap (λ (m : ℕ). walk next m x) q ∙ rw (ne_eqb x 0 s)

    -- what is so of all places that it meets is so of x, and of all the others
    pub walk_all : (test : ℕ → Bool) → all test (walk next n x) ≡ true → (test x ≡ true) × (all test (walk next (n - 1) (next x)) ≡ true)
    walk_all test a = split (test x) (all test (walk next (n - 1) (next x))) (sym (ap (all test) walk_on) ∙ a)

    pub walk_in : (k : ℕ) → all (inside k) (walk next n x) ≡ true → (0 < x) × (x ≤ k)
    walk_in k a = inside_is k x (walk_all (inside k) a).0

-- no more pieces are left than steps
pub pieces_few : (p : Pieces) → length (pieces_left p) ≤ p.left
pieces_few p =
    let next = link (cell_at p.store.bytes.now) in
    omega (arith, length-map (walk next p.left p.next) (read_cell p.store.bytes.now), walk_short next p.left p.next)

-- nor more records
pub places_few : (r : Records) → length (places r) ≤ r.left
places_few r = walk_short (link (rec_at r.store.bytes.now)) r.left r.next

pub ruleset walks = (walk_none, walk_out, walk_on, walk_in, walk_all)
