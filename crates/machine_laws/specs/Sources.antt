-- No source above the limit: `fair` as a fact, and back. Assumes nothing.
use Prim.Native.Nat.{ℕ, ◌+◌, ◌≤◌}
use native.Mathlib.Omega.{arith}
use Rattle.std.specs.Prelude.{◌≡◌, true, ◌||◌, not, eqb, leb}
use Rattle.std.proofs.Math.Path.{refl, sym, subst}
use mathlib.Core.List.{List, [], ◌∷◌}
use Rattle.std.proofs.Math.ListN.{length}
use Rattle.std.proofs.Common.{eqb-true, eq-eqb, leb-true, le-leb}
use Rattle.octets.specs.Octets.{same}
use Rattle.octets.specs.BoolsLaws.{cases, split, both}
use Rattle.octets.specs.CompareLaws.{same-eq, same_refl}
use Rattle.machine.specs.Codes.{role_receive}
use Rattle.machine.specs.Values.{Rec}
use Rattle.machine.specs.Sources.{cells_from, held_by, fair}
use Rattle.machine.specs.Valid.{Fair}

module _ (most : ℕ) where
  fair-is : (l : List Rec) → fair most l ≡ true → Fair most l
  unfolding fair cells_from
  fair-is [] h source = omega arith
  fair-is (r ∷ l) h source =
      let n : ℕ = length r.cells + held_by r.label.source l in
      let s = split (leb n most) (fair most l) h in
      cases (same source r.label.source)
      (λ e. rw e (subst (λ (x : List ℕ). length r.cells + held_by x l ≤ most) (sym (same-eq source r.label.source e)) (leb-true n most s.0)))
      (λ e. rw e (omega (arith, fair-is l s.1 source)))

  is-fair : (l : List Rec) → Fair most l → fair most l ≡ true
  unfolding fair cells_from
  is-fair [] f = refl
  is-fair (r ∷ l) f =
      let n : ℕ = length r.cells + held_by r.label.source l in
      let own : n ≤ most = rw (same_refl r.label.source) at (f r.label.source) in
      both (leb n most) (fair most l) (le-leb n most own) (is-fair l (λ source. omega (arith, f source)))

  -- in a store to receive
  pub sources-is : (role : ℕ) (l : List Rec) → (not (eqb role role_receive) || fair most l) ≡ true → role ≡ role_receive → Fair most l
  sources-is role l t e = fair-is l (rw (eq-eqb role role_receive e) at t)

  pub is-sources : (role : ℕ) (l : List Rec) → (role ≡ role_receive → Fair most l) → (not (eqb role role_receive) || fair most l) ≡ true
  is-sources role l f = cases (eqb role role_receive) (λ e. rw e (is-fair l (f (eqb-true role role_receive e)))) (λ e. rw e)
