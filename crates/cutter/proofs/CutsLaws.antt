-- The list of cuts: every list of sizes stands in it once where it is a cut and else not at all, and the lists rise. Assumes nothing.
use Rattle.std.specs.Prelude.{ℕ, zero, suc, ◌+◌, ◌*◌, ◌%◌, ◌≤◌, ◌<◌, ◌≡◌, refl, Bool, true, false, cond, ◌&&◌, List, [], ◌∷◌, ◌++◌, map, length, eqb, leb, ltb}
use Rattle.std.proofs.Common.{arith, sym, ap, ◌∙◌, eqb-true, eq-eqb, ne_eqb, leb-true, le-leb, ltb-true, lt-ltb, le-ltb}
use Rattle.std.proofs.lemmas.Bool.{eqb-false, lt-leb}
use Rattle.octets.specs.Octets.{same}
use Rattle.octets.specs.CompareLaws.{same_refl, same-eq}
use Rattle.octets.specs.Bools.{one}
use Rattle.octets.specs.BoolsLaws.{cases, clash, iff, split, both}
use Rattle.octets.specs.Lists.{all, All}
use Rattle.octets.specs.ListsLaws.{all-to, all_join, all_map, all_of}
use Rattle.kept.specs.Sizes.{sum, less}
use Rattle.cutter.specs.Cuts.{unit, largest_cut, is_size, is_cut, most_units, grow, cuts, stands, Rises}

-- document 02's example, and how many there are
cuts-750 : cuts 3 ≡ (250 ∷ 250 ∷ 250 ∷ []) ∷ (250 ∷ 500 ∷ []) ∷ (500 ∷ 250 ∷ []) ∷ (750 ∷ []) ∷ []
unfolding cuts grow
cuts-750 = refl

cuts-3000 : length (cuts most_units) ≡ 1793
unfolding cuts grow
cuts-3000 = refl

-- a size before each list, and the lists that begin with a larger one
abbrev before : ℕ → List (List ℕ) → List (List ℕ)
before s g = map (λ (l : List ℕ). s ∷ l) g

abbrev larger : ℕ → ℕ → List (List ℕ)
larger s n = cond (ltb s largest_cut) (grow (s + unit) n) []

-- ---- each stands once

and-false : (p : Bool) → (p && false) ≡ false
and-false true = refl
and-false false = refl

stands-append : (l : List ℕ) (g h : List (List ℕ)) → stands l (g ++ h) ≡ stands l g + stands l h
stands-append l [] h = omega arith
stands-append l (m ∷ g) h = omega (arith, stands-append l g h)

stands-none : (s : ℕ) (g : List (List ℕ)) → stands [] (before s g) ≡ 0
unfolding same
stands-none s [] = refl
stands-none s (m ∷ g) = omega (arith, stands-none s g)

stands-map : (x s : ℕ) (t : List ℕ) (g : List (List ℕ)) → stands (x ∷ t) (before s g) ≡ cond (eqb x s) (stands t g) 0
unfolding same
stands-map x s t [] = cases (eqb x s) (λ e. rw e) (λ e. rw e)
stands-map x s t (m ∷ g) =
    let q = stands-map x s t g in
    cases (eqb x s) (λ e. rw e (omega (arith, rw e at q))) (λ e. rw e (omega (arith, rw e at q)))

-- a cut whose first size is s or more
abbrev starts : ℕ → ℕ → List ℕ → Bool
starts s n [] = false
starts s n (x ∷ t) = leb s x && is_cut (s + unit * n) (x ∷ t)

pub size-facts : (x : ℕ) → is_size x ≡ true → (x % unit ≡ 0) × (unit ≤ x) × (x ≤ largest_cut)
size-facts x h =
    let a = split (eqb (x % unit) 0) (leb unit x && leb x largest_cut) h in
    let b = split (leb unit x) (leb x largest_cut) a.1 in
    (eqb-true (x % unit) 0 a.0, leb-true unit x b.0, leb-true x largest_cut b.1)

facts-size : (x : ℕ) → x % unit ≡ 0 → unit ≤ x → x ≤ largest_cut → is_size x ≡ true
facts-size x a b c = rw (eq-eqb (x % unit) 0 a, le-leb unit x b, le-leb x largest_cut c)

starts-facts : (s n x : ℕ) (t : List ℕ) → starts s n (x ∷ t) ≡ true
    → (s ≤ x) × (is_size x ≡ true) × (all is_size t ≡ true) × (x + sum t ≡ s + unit * n)
starts-facts s n x t h =
    let a = split (leb s x) (is_cut (s + unit * n) (x ∷ t)) h in
    let b = split (all is_size (x ∷ t)) (eqb (x + sum t) (s + unit * n)) a.1 in
    let d = split (is_size x) (all is_size t) b.0 in
    (leb-true s x a.0, d.0, d.1, eqb-true (x + sum t) (s + unit * n) b.1)

facts-starts : (s n x : ℕ) (t : List ℕ) → s ≤ x → is_size x ≡ true → all is_size t ≡ true → x + sum t ≡ s + unit * n → starts s n (x ∷ t) ≡ true
facts-starts s n x t a b c d = rw (le-leb s x a, b, c, eq-eqb (x + sum t) (s + unit * n) d)

-- sizes that add up to nothing are none
no-sizes : (t : List ℕ) → all is_size t ≡ true → sum t ≡ 0 → t ≡ []
no-sizes [] h e = refl
no-sizes (x ∷ t) h e = absurd (omega (arith, (size-facts x (split (is_size x) (all is_size t) h).0).1))

-- a first size of 250 or more is no condition
starts-unit : (n : ℕ) (t : List ℕ) → starts unit n t ≡ is_cut (unit + unit * n) t
starts-unit n [] = sym (ne_eqb 0 (unit + unit * n) (λ e. omega arith))
starts-unit n (y ∷ t) =
    cases (is_size y)
    (λ e. rw (le-leb unit y (size-facts y e).1))
    (λ e. rw e (cases (leb unit y) (λ q. rw q) (λ q. rw q)))

starts-zero : (s x : ℕ) (t : List ℕ) → is_size s ≡ true → (eqb x s && same t []) ≡ starts s 0 (x ∷ t)
unfolding same
starts-zero s x t h =
    iff (eqb x s && same t []) (starts s 0 (x ∷ t))
    (λ e. let a = split (eqb x s) (same t []) e in
    let q : x ≡ s = eqb-true x s a.0 in
    let r : t ≡ [] = same-eq t [] a.1 in
    facts-starts s 0 x t (omega arith) (rw q h) (rw r refl) (rw r (omega arith)))
    (λ e. let f = starts-facts s 0 x t e in
    let r : t ≡ [] = no-sizes t f.2 (omega (arith, f.0, f.3)) in
    both (eqb x s) (same t []) (eq-eqb x s (omega (arith, f.0, f.3))) (rw r refl))

-- the first piece ends
starts-here : (s n x : ℕ) (t : List ℕ) → is_size s ≡ true → x ≡ s → starts unit n t ≡ starts s (suc n) (x ∷ t)
starts-here s n x t h q =
    starts-unit n t
    ∙ iff (is_cut (unit + unit * n) t) (starts s (suc n) (x ∷ t))
    (λ e. let a = split (all is_size t) (eqb (sum t) (unit + unit * n)) e in
    let b = eqb-true (sum t) (unit + unit * n) a.1 in
    facts-starts s (suc n) x t (omega arith) (rw q h) a.0 (omega arith))
    (λ e. let f = starts-facts s (suc n) x t e in
    both (all is_size t) (eqb (sum t) (unit + unit * n)) f.2 (eq-eqb (sum t) (unit + unit * n) (omega (arith, f.3))))

-- .. or grows
starts-later : (s n x : ℕ) (t : List ℕ) → is_size s ≡ true → (x ≡ s → ⊥) → (ltb s largest_cut && starts (s + unit) n (x ∷ t)) ≡ starts s (suc n) (x ∷ t)
starts-later s n x t h q =
    let z = size-facts s h in
    iff (ltb s largest_cut && starts (s + unit) n (x ∷ t)) (starts s (suc n) (x ∷ t))
    (λ e. let f = starts-facts (s + unit) n x t (split (ltb s largest_cut) (starts (s + unit) n (x ∷ t)) e).1 in
    facts-starts s (suc n) x t (omega (arith, f.0)) f.1 f.2 (omega (arith, f.3)))
    (λ e. let f = starts-facts s (suc n) x t e in
    let y = size-facts x f.1 in
    let w : s + unit ≤ x = omega (arith, q, f.0, y.0, z.0) in
    both (ltb s largest_cut) (starts (s + unit) n (x ∷ t)) (lt-ltb s largest_cut (omega (arith, y.2)))
    (facts-starts (s + unit) n x t w f.1 f.2 (omega (arith, f.3))))

-- a unit more is a size too
pub size-next : (s : ℕ) → is_size s ≡ true → ltb s largest_cut ≡ true → is_size (s + unit) ≡ true
size-next s h e =
    let z = size-facts s h in
    let q : s < largest_cut = ltb-true s largest_cut e in
    facts-size (s + unit) (omega (arith, z.0)) (omega arith) (omega (arith, z.0))

stands-grow : (n s : ℕ) → is_size s ≡ true → (l : List ℕ) → stands l (grow s n) ≡ one (starts s n l)
unfolding grow same
stands-grow zero s h [] = refl
stands-grow zero s h (x ∷ t) = omega (arith, ap one (starts-zero s x t h))
stands-grow (suc n) s h [] =
    let a = stands-append [] (before s (grow unit n)) (larger s n) in
    let b = stands-none s (grow unit n) in
    let d : stands [] (larger s n) ≡ 0 =
    cases (ltb s largest_cut) (λ e. rw e (stands-grow n (s + unit) (size-next s h e) [])) (λ e. rw e) in
    omega arith
stands-grow (suc n) s h (x ∷ t) =
    let a = stands-append (x ∷ t) (before s (grow unit n)) (larger s n) in
    let b = stands-map x s t (grow unit n) in
    let d : stands (x ∷ t) (larger s n) ≡ one (ltb s largest_cut && starts (s + unit) n (x ∷ t)) =
    cases (ltb s largest_cut) (λ e. rw e (stands-grow n (s + unit) (size-next s h e) (x ∷ t))) (λ e. rw e) in
    cases (eqb x s)
    (λ e. let q : x ≡ s = eqb-true x s e in
    let w : (ltb s largest_cut && starts (s + unit) n (x ∷ t)) ≡ false = rw (lt-leb (s + unit) x (omega arith)) (and-false (ltb s largest_cut)) in
    omega (arith, a, rw e at b, stands-grow n unit refl t, ap one (starts-here s n x t h q), d, ap one w))
    (λ e. omega (arith, a, rw e at b, d, ap one (starts-later s n x t h (eqb-false x s e))))

-- every list of sizes stands among the cuts of n units once where it is one, and else not at all
pub each-once : (n : ℕ) (l : List ℕ) → stands l (cuts n) ≡ one (is_cut (unit * n) l)
unfolding cuts
each-once zero l =
    omega (
      arith,
      ap one
          (iff (same l []) (is_cut 0 l) (λ e. rw (same-eq l [] e))
          (λ e. let a = split (all is_size l) (eqb (sum l) 0) e in rw (no-sizes l a.0 (eqb-true (sum l) 0 a.1)) (same_refl []))),
    )
each-once (suc n) l = stands-grow n unit refl l ∙ ap one (starts-unit n l) ∙ ap (λ (k : ℕ). one (is_cut k l)) (omega arith)

-- ---- smaller first size first, then smaller second, and so on

-- the first size of a list is k or more
abbrev pub heads : ℕ → List ℕ → Bool
heads k [] = false
heads k (x ∷ t) = leb k x

heads-wider : (s : ℕ) (l : List ℕ) → heads (s + unit) l ≡ true → heads s l ≡ true
heads-wider s [] h = h
heads-wider s (x ∷ l) h = le-leb s x (omega (arith, leb-true (s + unit) x h))

pub heads-grow : (n s : ℕ) → All (λ l. heads s l ≡ true) (grow s n)
unfolding grow
heads-grow zero s = (le-leb s s (omega arith), tt)
heads-grow (suc n) s =
    let here = all_of (λ l. leb s s ≡ true) (grow unit n) (λ l. le-leb s s (omega arith)) in
    all_join (λ l. heads s l ≡ true) (before s (grow unit n)) (larger s n)
    (all_map (λ (l : List ℕ). s ∷ l) (λ l. heads s l ≡ true) (grow unit n) here)
    (cases (ltb s largest_cut)
    (λ e. rw e (all-to (λ l. heads (s + unit) l ≡ true) (λ l. heads s l ≡ true) (grow (s + unit) n) (heads-wider s) (heads-grow n (s + unit))))
    (λ e. rw e tt))

-- a list that begins with s is less than one that begins with more
less-heads : (s : ℕ) (l m : List ℕ) → heads (s + unit) m ≡ true → less (s ∷ l) m ≡ true
unfolding less
less-heads s l [] h = clash h refl
less-heads s l (x ∷ m) h = rw (lt-ltb s x (omega (arith, leb-true (s + unit) x h)))

rises-map : (s : ℕ) (g : List (List ℕ)) → Rises g → Rises (before s g)
unfolding less
rises-map s [] r = tt
rises-map s (a ∷ g) r = (
  all_map (λ (l : List ℕ). s ∷ l) (λ b. less (s ∷ a) b ≡ true) g
      (all-to (λ b. less a b ≡ true) (λ b. less (s ∷ a) (s ∷ b) ≡ true) g (λ b h. rw (le-ltb s s (omega arith), eq-eqb s s refl) h) r.0),
  rises-map s g r.1,
)

rises-append : (g h : List (List ℕ)) → Rises g → Rises h → All (λ a. All (λ b. less a b ≡ true) h) g → Rises (g ++ h)
rises-append [] h r q c = q
rises-append (a ∷ g) h r q c = (all_join (λ b. less a b ≡ true) g h r.0 c.0, rises-append g h r.1 q c.1)

less-larger : (n s : ℕ) (l : List ℕ) → All (λ m. less (s ∷ l) m ≡ true) (larger s n)
less-larger n s l =
    cases (ltb s largest_cut)
    (λ e.
    rw e (all-to (λ m. heads (s + unit) m ≡ true) (λ m. less (s ∷ l) m ≡ true) (grow (s + unit) n) (less-heads s l) (heads-grow n (s + unit))))
    (λ e. rw e tt)

rises-grow : (n s : ℕ) → Rises (grow s n)
unfolding grow
rises-grow zero s = (tt, tt)
rises-grow (suc n) s =
    rises-append (before s (grow unit n)) (larger s n) (rises-map s (grow unit n) (rises-grow n unit))
    (cases (ltb s largest_cut) (λ e. rw e (rises-grow n (s + unit))) (λ e. rw e tt))
    (all_map (λ (l : List ℕ). s ∷ l) (λ l. All (λ m. less l m ≡ true) (larger s n)) (grow unit n)
    (all_of (λ l. All (λ m. less (s ∷ l) m ≡ true) (larger s n)) (grow unit n) (less-larger n s)))

pub rises-cuts : (n : ℕ) → Rises (cuts n)
unfolding cuts
rises-cuts zero = (tt, tt)
rises-cuts (suc n) = rises-grow n unit
