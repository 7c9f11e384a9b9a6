-- The kind of the first flag that fits, found in a table of flags and kinds. Assumes nothing.
use Rattle.std.specs.Prelude.{ℕ, ◌≡◌, refl, Bool, cond, Option, Some, None, List, [], ◌∷◌, find}
use Rattle.std.proofs.Common.{ap, ◌∙◌}
use Rattle.std.specs.Option.{MatchOption, option_map}
use Rattle.octets.specs.BoolsLaws.{cases}
use Rattle.packet.specs.declared.header.Kind.{Kind}
use Rattle.packet.specs.declared.header.Kind.TheVariants.{Nothing}
use denote.Ref.{Bor}

-- the kind of the first row whose flag passes the test
abbrev pub first : (ℕ → Bool) → List (ℕ × Kind) → Kind
first t [] = Nothing
first t (p ∷ l) = cond (t p.0) p.1 (first t l)

abbrev kind_in : Option (ℕ × Kind) → Kind
kind_in None = Nothing
kind_in (Some p) = p.1

in-found : (t : ℕ → Bool) (l : List (ℕ × Kind)) → kind_in (find (λ p. t p.0) l) ≡ first t l
in-found t [] = refl
in-found t (p ∷ l) = cases (t p.0) (λ e. rw e refl) (λ e. rw e (in-found t l))

told : (r : Option (Bor (ℕ × Kind))) (k : Kind) → MatchOption r (k ≡ Nothing) (λ x. k ≡ x.now.1) → k ≡ kind_in (option_map (λ (x : Bor (ℕ × Kind)). x.now) r)
told None k e = e
told (Some x) k e = e

pub first-found : (t : ℕ → Bool) (l : List (ℕ × Kind)) (r : Option (Bor (ℕ × Kind))) (k : Kind)
    → option_map (λ (x : Bor (ℕ × Kind)). x.now) r ≡ find (λ p. t p.0) l
    → MatchOption r (k ≡ Nothing) (λ x. k ≡ x.now.1) → k ≡ first t l
first-found t l r k f e = told r k e ∙ ap kind_in f ∙ in-found t l
