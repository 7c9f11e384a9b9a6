-- Pieces read by index: cells whose indices rise are joined, added up and counted as what stands at each index. Assumes nothing.
use Rattle.std.specs.Prelude.{ℕ, zero, suc, ◌+◌, ◌≤◌, ◌<◌, ◌≡◌, refl, true, List, [], ◌∷◌, ◌++◌, length, eqb}
use Rattle.std.proofs.Common.{arith, sym, ap, ◌∙◌, length-append, eqb-true, ne_eqb}
use Rattle.std.proofs.Math.Decide.{dec_lt}
use Rattle.std.proofs.Math.Option.{Option, none, some}
use Rattle.std.proofs.lemmas.Bool.{eqb-false}
use Rattle.octets.specs.BoolsLaws.{cases, clash}
use Rattle.machine.specs.Values.{Cell}
use Rattle.machine.specs.Sound.{rising, sizes}
use Rattle.machine.specs.Find.{find, is_some}
use Rattle.machine.specs.Pieces.{piece_at, piece_bytes, joined}
use Rattle.machine_steps.proofs.Pieces.{rising-parts, parts-rising, rising-wider, piece-below}

-- ---- joined by index

-- bytes that may be missing: none
abbrev pub or_empty : Option (List ℕ) → List ℕ
or_empty none = []
or_empty (some b) = b

-- the bytes of n indices from i on, in index order
unfoldable pub join_from : ℕ → ℕ → (ℕ → Option (List ℕ)) → List ℕ
join_from i zero f = []
join_from i (suc n) f = or_empty (f i) ++ join_from (suc i) n f

-- it depends on those indices only
pub join-alike : (f g : ℕ → Option (List ℕ)) (i n : ℕ) → ((j : ℕ) → i ≤ j → j < i + n → f j ≡ g j) → join_from i n f ≡ join_from i n g
unfolding join_from
join-alike f g i zero h = refl
join-alike f g i (suc n) h = rw (h i (omega arith) (omega arith), join-alike f g (suc i) n (λ j a b. h j (omega arith) (omega arith)))

joined-from : (low n : ℕ) (l : List Cell) → rising low (low + n) l ≡ true → join_from low n (λ j. piece_bytes j l) ≡ joined l
unfolding rising join_from joined find
joined-from low zero [] h = refl
joined-from low zero (c ∷ l) h = let r = rising-parts low (low + 0) c l h in absurd (omega (arith, r.0, r.1))
joined-from low (suc n) [] h = joined-from (suc low) n [] refl
joined-from low (suc n) (c ∷ l) h =
    let r = rising-parts low (low + suc n) c l h in
    let alike : (i : ℕ) → c.index < i → join_from i n (λ j. piece_bytes j (c ∷ l)) ≡ join_from i n (λ j. piece_bytes j l) =
    λ i a. join-alike (λ j. piece_bytes j (c ∷ l)) (λ j. piece_bytes j l) i n (λ j b d. rw (ne_eqb j c.index (λ t. omega arith))) in
    cases (eqb low c.index)
    (λ e. let q : low ≡ c.index = eqb-true low c.index e in
    rw e (ap (λ (x : List ℕ). c.bytes ++ x)
    (alike (suc low) (omega arith)
    ∙ joined-from (suc low) n l (rising-wider (suc c.index) (low + suc n) (suc low) (suc low + n) l (omega arith) (omega arith) r.2))))
    (λ e. let q : low < c.index = omega (arith, r.0, eqb-false low c.index e) in
    rw (e, piece-below low (suc c.index) (low + suc n) l (omega arith) r.2)
    (joined-from (suc low) n (c ∷ l) (parts-rising (suc low) (suc low + n) c l q (omega (arith, r.1))
    (rising-wider (suc c.index) (low + suc n) (suc c.index) (suc low + n) l (omega arith) (omega arith) r.2))))

-- cells that rise below n are joined by index
pub joined-by-index : (n : ℕ) (l : List Cell) → rising 0 n l ≡ true → join_from 0 n (λ j. piece_bytes j l) ≡ joined l
joined-by-index n l h = joined-from 0 n l (rising-wider 0 n 0 (0 + n) l (omega arith) (omega arith) h)

pub length-joined : (l : List Cell) → length (joined l) ≡ sizes l
unfolding joined sizes
length-joined [] = refl
length-joined (c ∷ l) = rw (length-append, length-joined l)

-- ---- a piece at every index

rising-length : (low high : ℕ) (l : List Cell) → low ≤ high → rising low high l ≡ true → low + length l ≤ high
rising-length low high [] a h = omega arith
rising-length low high (c ∷ l) a h =
    let r = rising-parts low high c l h in
    omega (arith, r.0, rising-length (suc c.index) high l r.1 r.2)

full-some : (low high : ℕ) (l : List Cell) → rising low high l ≡ true → low + length l ≡ high
    → (i : ℕ) → low ≤ i → i < high → is_some (piece_at i l) ≡ true
unfolding find
full-some low high [] h e i a b = absurd (omega arith)
full-some low high (c ∷ l) h e i a b =
    let r = rising-parts low high c l h in
    let q : c.index ≡ low = omega (arith, r.0, rising-length (suc c.index) high l r.1 r.2) in
    cases (eqb i c.index)
    (λ t. rw t)
    (λ t. rw t (full-some (suc c.index) high l r.2 (omega arith) i (omega (arith, eqb-false i c.index t)) b))

some-full : (low high : ℕ) (l : List Cell) → rising low high l ≡ true → low ≤ high
    → ((i : ℕ) → low ≤ i → i < high → is_some (piece_at i l) ≡ true) → low + length l ≡ high
unfolding find
some-full low high [] h a f = elim (dec_lt low high) [ yes b ↦ clash (f low (omega arith) b) refl | no b ↦ omega (arith, b) ]
some-full low high (c ∷ l) h a f =
    let r = rising-parts low high c l h in
    let q : c.index ≡ low =
    cases (eqb low c.index)
    (λ t. sym (eqb-true low c.index t))
    (λ t. let n : piece_at low (c ∷ l) ≡ none = rw t (piece-below low (suc c.index) high l (omega (arith, r.0)) r.2) in
    clash (f low (omega arith) (omega (arith, r.0, r.1))) (ap is_some n)) in
    let s : suc c.index + length l ≡ high =
    some-full (suc c.index) high l r.2 r.1 (λ i x y. rw (ne_eqb i c.index (λ t. omega arith)) at (f i (omega arith) y)) in
    omega arith

-- cells that rise below n have a piece at every index below n exactly where there are n of them
pub complete-some : (n : ℕ) (l : List Cell) → rising 0 n l ≡ true → length l ≡ n → (i : ℕ) → i < n → is_some (piece_at i l) ≡ true
complete-some n l h e i b = full-some 0 n l h (omega arith) i (omega arith) b

pub some-complete : (n : ℕ) (l : List Cell) → rising 0 n l ≡ true → ((i : ℕ) → i < n → is_some (piece_at i l) ≡ true) → length l ≡ n
some-complete n l h f = let q = some-full 0 n l h (omega arith) (λ i a b. f i b) in omega arith
