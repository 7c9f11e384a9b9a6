-- The first list of `lists_of` that passes a test is the greatest that does. Assumes nothing.
use Rattle.std.specs.Prelude.{ℕ, zero, suc, ◌≤◌, ◌<◌, ◌≡◌, Bool, true, false, length, eqb}
use Rattle.std.proofs.Common.{arith, sym, ap, ◌∙◌, eqb-true, eq-eqb, lt-ltb, le-ltb}
use Rattle.std.proofs.Math.Path.{refl}
use mathlib.Core.List.{List, [], ◌∷◌, ◌++◌, map}
use Rattle.std.proofs.Math.Option
use Rattle.std.proofs.Math.Option.{none, some, none-ne-some}
use Rattle.std.proofs.lemmas.Bool.{eqb-false}
use Rattle.octets.specs.BoolsLaws.{cases, clash}
use Rattle.octets.specs.Lists.{All}
use Rattle.octets.specs.ListsLaws.{all-to, all_join, all_map}
use Rattle.packet.specs.Frame.{largest_piece}
use Rattle.kept.specs.Sizes.{less}
use Rattle.planner.specs.Plan.{first_from, lists_of, first_that}

-- each size is to 1,364
abbrev pub Sized : List ℕ → Type 0
Sized l = All (λ x. x ≤ largest_piece) l

-- ---- which lists there are

-- k sizes
abbrev pub Listed : ℕ → List ℕ → Type 0
Listed k l = (length l ≡ k) × Sized l

first-listed : (k n : ℕ) (g : List (List ℕ)) → n ≤ largest_piece → All (Listed k) g → All (Listed (suc k)) (first_from n g)
unfolding first_from
first-listed k n g h a = go n h
  where
    begun : (x : ℕ) → x ≤ largest_piece → All (Listed (suc k)) (map (λ (t : List ℕ). x ∷ t) g)
    begun x b = all_map (λ (t : List ℕ). x ∷ t) (Listed (suc k)) g (all-to (Listed k) (λ t. Listed (suc k) (x ∷ t)) g (λ t s. (ap suc s.0, (b, s.1))) a)

    go : (n : ℕ) → n ≤ largest_piece → All (Listed (suc k)) (first_from n g)
    go zero b = begun 0 b
    go (suc n) b = all_join (Listed (suc k)) (map (λ (t : List ℕ). suc n ∷ t) g) (first_from n g) (begun (suc n) b) (go n (omega arith))

pub lists-listed : (k : ℕ) → All (Listed k) (lists_of k)
unfolding lists_of
lists-listed zero = ((refl, tt), tt)
lists-listed (suc k) = first-listed k largest_piece (lists_of k) (omega arith) (lists-listed k)

-- ---- the first that passes

module _ (test : List ℕ → Bool) where
  pub first-none : (g : List (List ℕ)) → All (λ l. test l ≡ false) g → first_that test g ≡ none
  unfolding first_that
  first-none [] a = refl
  first-none (l ∷ g) a = rw a.0 (first-none g a.1)

  first-behind : (g h : List (List ℕ)) → All (λ l. test l ≡ false) g → first_that test (g ++ h) ≡ first_that test h
  unfolding first_that
  first-behind [] h a = refl
  first-behind (l ∷ g) h a = rw a.0 (first-behind g h a.1)

  first-before : (g h : List (List ℕ)) (l : List ℕ) → first_that test g ≡ some l → first_that test (g ++ h) ≡ some l
  unfolding first_that
  first-before [] h l e = absurd (none-ne-some l e)
  first-before (m ∷ g) h l e = cases (test m) (λ t. rw t (rw t at e)) (λ t. rw t (first-before g h l (rw t at e)))

first-map : (test : List ℕ → Bool) (x : ℕ) (g : List (List ℕ))
    → first_that test (map (λ (t : List ℕ). x ∷ t) g) ≡ Option.map (λ (t : List ℕ). x ∷ t) (first_that (λ t. test (x ∷ t)) g)
unfolding first_that
first-map test x [] = refl
first-map test x (l ∷ g) = cases (test (x ∷ l)) (λ e. rw e) (λ e. rw e (first-map test x g))

-- ---- the greatest

-- no list of k sizes that passes is greater
abbrev pub Greatest : (List ℕ → Bool) → ℕ → List ℕ → Type 0
Greatest test k l = (m : List ℕ) → Listed k m → test m ≡ true → less l m ≡ false

-- .. with the same first size, of the sizes behind it
greatest-tail : (test : List ℕ → Bool) (k y : ℕ) (t : List ℕ) → y ≤ largest_piece → Greatest test (suc k) (y ∷ t) → Greatest (λ m. test (y ∷ m)) k t
unfolding less
greatest-tail test k y t b g m s e =
    rw (le-ltb y y (omega arith), eq-eqb y y refl) at (g (y ∷ m) (ap suc s.0, (b, s.1)) e)

-- .. with a greater first size none passes
greater-fails : (test : List ℕ → Bool) (k y x : ℕ) (t : List ℕ) → y < x → x ≤ largest_piece → Greatest test (suc k) (y ∷ t)
    → (m : List ℕ) → Listed k m → test (x ∷ m) ≡ false
unfolding less
greater-fails test k y x t a b g m s =
    cases (test (x ∷ m)) (λ e. clash (rw (lt-ltb y x a)) (g (x ∷ m) (ap suc s.0, (b, s.1)) e)) (λ e. e)

-- a first size from n down: of the greater ones none passes, and behind y the sizes are those of t
first-from : (test : List ℕ → Bool) (k y : ℕ) (t : List ℕ) → Greatest test (suc k) (y ∷ t) → first_that test (map (λ (m : List ℕ). y ∷ m) (lists_of k))
    ≡ some (y ∷ t)
    → (n : ℕ) → y ≤ n → n ≤ largest_piece → first_that test (first_from n (lists_of k)) ≡ some (y ∷ t)
unfolding first_from
first-from test k y t g here zero a b = let z : y ≡ 0 = omega arith in ap (λ (x : ℕ). first_that test (map (λ (m : List ℕ). x ∷ m) (lists_of k))) (sym z) ∙ here
first-from test k y t g here (suc n) a b =
    let begun : List (List ℕ) = map (λ (m : List ℕ). suc n ∷ m) (lists_of k) in
    cases (eqb y (suc n))
    (λ q. let z : y ≡ suc n = eqb-true y (suc n) q in
    first-before test begun (first_from n (lists_of k)) (y ∷ t) (ap (λ (x : ℕ). first_that test (map (λ (m : List ℕ). x ∷ m) (lists_of k))) (sym z) ∙ here))
    (λ q. let l : y < suc n = omega (arith, eqb-false y (suc n) q) in
    first-behind test begun (first_from n (lists_of k))
    (all_map (λ (m : List ℕ). suc n ∷ m) (λ m. test m ≡ false) (lists_of k)
    (all-to (Listed k) (λ m. test (suc n ∷ m) ≡ false) (lists_of k) (greater-fails test k y (suc n) t l b g) (lists-listed k)))
    ∙ first-from test k y t g here n (omega arith) (omega arith))

pub first-greatest : (k : ℕ) (test : List ℕ → Bool) (l : List ℕ) → Listed k l → test l ≡ true → Greatest test k l → first_that test (lists_of k) ≡ some l
unfolding first_that lists_of
first-greatest zero test [] s e g = rw e
first-greatest zero test (y ∷ t) s e g = absurd (omega (arith, s.0))
first-greatest (suc k) test [] s e g = absurd (omega (arith, s.0))
first-greatest (suc k) test (y ∷ t) s e g =
    first-from test k y t g
    (first-map test y (lists_of k)
    ∙ ap (Option.map (λ (m : List ℕ). y ∷ m))
    (first-greatest k (λ m. test (y ∷ m)) t (omega (arith, s.0), s.1.1) e (greatest-tail test k y t s.1.0 g)))
    largest_piece s.1.0 (omega arith)
