-- Laws of `all` and `All`: from one to the other, and over `++` and `map`. Assumes nothing.
use Rattle.std.specs.Prelude.{◌≡◌, refl, Bool, true, List, [], ◌∷◌, ◌++◌, map}
use Rattle.octets.specs.BoolsLaws.{split, both}
use Rattle.octets.specs.Lists.{all, All}

-- facts one behind the other, as `All` of a list has them
infixr 5 ◌&◌
abbrev pub ◌&◌ : {A B : Type 0} → A → B → A × B
a & b = (a, b)

module _ {A : Type 0} where
  pub all_true : (f : A → Bool) (l : List A) → all f l ≡ true → All (λ a. f a ≡ true) l
  all_true f [] h = tt
  all_true f (a ∷ l) h = let s = split (f a) (all f l) h in (s.0, all_true f l s.1)

  pub true-all : (f : A → Bool) (l : List A) → All (λ a. f a ≡ true) l → all f l ≡ true
  true-all f [] h = refl
  true-all f (a ∷ l) h = both (f a) (all f l) h.0 (true-all f l h.1)

  pub all-to : (P Q : A → Type 0) (l : List A) → ((a : A) → P a → Q a) → All P l → All Q l
  all-to P Q [] f h = tt
  all-to P Q (a ∷ l) f h = (f a h.0, all-to P Q l f h.1)

  pub all_of : (P : A → Type 0) (l : List A) → ((a : A) → P a) → All P l
  all_of P [] h = tt
  all_of P (a ∷ l) h = (h a, all_of P l h)

  pub all-zip : (P Q : A → Type 0) (l : List A) → All P l → All Q l → All (λ a. P a × Q a) l
  all-zip P Q [] h k = tt
  all-zip P Q (a ∷ l) h k = ((h.0, k.0), all-zip P Q l h.1 k.1)

  pub all_left : (P : A → Type 0) (l m : List A) → All P (l ++ m) → All P l
  all_left P [] m h = tt
  all_left P (a ∷ l) m h = (h.0, all_left P l m h.1)

  pub all_right : (P : A → Type 0) (l m : List A) → All P (l ++ m) → All P m
  all_right P [] m h = h
  all_right P (a ∷ l) m h = all_right P l m h.1

  pub all_join : (P : A → Type 0) (l m : List A) → All P l → All P m → All P (l ++ m)
  all_join P [] m h k = k
  all_join P (a ∷ l) m h k = (h.0, all_join P l m h.1 k)

module _ {A B : Type 0} where
  pub all_map : (f : A → B) (P : B → Type 0) (l : List A) → All (λ a. P (f a)) l → All P (map f l)
  all_map f P [] h = tt
  all_map f P (a ∷ l) h = (h.0, all_map f P l h.1)

  pub map-all : (f : A → B) (P : B → Type 0) (l : List A) → All P (map f l) → All (λ a. P (f a)) l
  map-all f P [] h = tt
  map-all f P (a ∷ l) h = (h.0, map-all f P l h.1)
