-- Laws of `every`, and of tests of a list: from a test to facts and back. Assumes nothing.
use Rattle.std.specs.Prelude.{◌≡◌, refl, Bool, true, ◌&&◌, List, [], ◌∷◌, ◌++◌}
use Rattle.octets.specs.BoolsLaws.{split, both}
use Rattle.octets.specs.Lists.{all, All}
use Rattle.octets.specs.ListsLaws.{all_true, true-all, all_left, all_right, all_join}
use Rattle.machine.specs.Tests.{also, every}

also-true : (p : Bool) (l : List Bool) → also p l ≡ true → (p ≡ true) × All (λ q. q ≡ true) l
also-true p [] h = (h, tt)
also-true p (q ∷ l) h =
    let a = also-true (p && q) l h in
    let s = split p q a.0 in
    (s.0, (s.1, a.1))

true-also : (p : Bool) (l : List Bool) → p ≡ true → All (λ q. q ≡ true) l → also p l ≡ true
true-also p [] e h = e
true-also p (q ∷ l) e h = true-also (p && q) l (both p q e h.0) h.1

pub every_true : (l : List Bool) → every l ≡ true → All (λ q. q ≡ true) l
every_true [] h = tt
every_true (p ∷ l) h = also-true p l h

pub true-every : (l : List Bool) → All (λ q. q ≡ true) l → every l ≡ true
true-every [] h = refl
true-every (p ∷ l) h = true-also p l h.0 h.1

-- a test of two lists, one behind the other
pub all-parts : {A : Type 0} (f : A → Bool) (l m : List A) → all f (l ++ m) ≡ true → (all f l ≡ true) × (all f m ≡ true)
all-parts f l m h =
    let a = all_true f (l ++ m) h in
    (true-all f l (all_left (λ x. f x ≡ true) l m a), true-all f m (all_right (λ x. f x ≡ true) l m a))

pub all_append : {A : Type 0} (f : A → Bool) (l m : List A) → all f l ≡ true → all f m ≡ true → all f (l ++ m) ≡ true
all_append f l m h k = true-all f (l ++ m) (all_join (λ x. f x ≡ true) l m (all_true f l h) (all_true f m k))
