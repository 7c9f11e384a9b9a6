-- Laws of a record's pieces: what `put_piece` keeps of any list of cells, and of one whose indices rise. The bounds are parameters. Assumes nothing.
use Prim.Native.Nat.{ℕ, suc, ◌+◌, ◌≤◌, ◌<◌}
use native.Mathlib.Omega.{arith}
use Rattle.std.specs.Prelude.{◌≡◌, cond, ◌&&◌, ◌||◌, length, leb, ltb}
use Rattle.std.proofs.Math.Path.{refl}
use Rattle.std.proofs.Common.{sym, ap, ◌∙◌}
use Rattle.std.proofs.Math.Bool.{true, false}
use mathlib.Core.List.{List, [], ◌∷◌, map}
use Rattle.std.proofs.Math.Option
use Rattle.std.proofs.Math.Option.{Option, none, some, some-ne-none}
use Rattle.std.proofs.lemmas.List.{length-map}
use Rattle.std.proofs.Math.Dec.{eqb}
use borrow.Author.Tests.{eqb-true, eqb-false, eq-eqb, ne_eqb, leb-true, le-leb, ltb-true, ltb-false, lt-ltb}
use Rattle.octets.specs.Bools.{one}
use Rattle.octets.specs.BoolsLaws.{cases, clash, split, both}
use Rattle.octets.specs.Lists.{All}
use Rattle.machine.specs.Values.{Cell}
use Rattle.machine.specs.Counting.{occurs}
use Rattle.machine.specs.Layout.{cell_place}
use Rattle.machine.specs.Sound.{rising}
use Rattle.machine.specs.Find.{find, is_some}
use Rattle.machine.specs.Pieces.{new_cell, piece_at, piece_bytes, put_piece}

-- ---- indices that rise

-- of one cell and the rest, as facts
pub rising-parts : (low high : ℕ) (c : Cell) (l : List Cell) → rising low high (c ∷ l) ≡ true
    → (low ≤ c.index) × (c.index < high) × (rising (suc c.index) high l ≡ true)
unfolding rising
rising-parts low high c l h =
    let s = split (leb low c.index) (ltb c.index high && rising (suc c.index) high l) h in
    let t = split (ltb c.index high) (rising (suc c.index) high l) s.1 in
    (leb-true low c.index s.0, ltb-true c.index high t.0, t.1)

pub parts-rising : (low high : ℕ) (c : Cell) (l : List Cell) → low ≤ c.index → c.index < high → rising (suc c.index) high l ≡ true
    → rising low high (c ∷ l) ≡ true
unfolding rising
parts-rising low high c l a b r =
    both (leb low c.index) (ltb c.index high && rising (suc c.index) high l) (le-leb low c.index a)
    (both (ltb c.index high) (rising (suc c.index) high l) (lt-ltb c.index high b) r)

-- wider bounds
pub rising-wider : (low high m n : ℕ) (l : List Cell) → m ≤ low → high ≤ n → rising low high l ≡ true → rising m n l ≡ true
unfolding rising
rising-wider low high m n [] a b h = refl
rising-wider low high m n (c ∷ l) a b h =
    let r = rising-parts low high c l h in
    parts-rising m n c l (omega (arith, r.0)) (omega (arith, r.1)) (rising-wider (suc c.index) high (suc c.index) n l (omega arith) b r.2)

-- below the first index there is no piece
pub piece-below : (i low high : ℕ) (l : List Cell) → i < low → rising low high l ≡ true → piece_at i l ≡ none
unfolding find
piece-below i low high [] a h = refl
piece-below i low high (c ∷ l) a h =
    let r = rising-parts low high c l h in
    rw (ne_eqb i c.index (λ e. omega (arith, r.0))) (piece-below i (suc c.index) high l (omega (arith, r.0)) r.2)

-- ---- the bytes at an index

-- there are bytes where there is a piece
pub some_bytes : (i : ℕ) (l : List Cell) → is_some (piece_bytes i l) ≡ is_some (piece_at i l)
some_bytes i l = go (piece_at i l)
  where
    go : (o : Option Cell) → is_some (Option.map (λ (c : Cell). c.bytes) o) ≡ is_some o
    go none = refl
    go (some c) = refl

-- ---- a piece put in its place

module _ (place index : ℕ) (bytes : List ℕ) where
  pub rising-put : (low high : ℕ) (l : List Cell) → low ≤ index → index < high → rising low high l ≡ true
      → rising low high (put_piece place index bytes l) ≡ true
  unfolding rising put_piece
  rising-put low high [] a b h = parts-rising low high (new_cell place index bytes) [] a b h
  rising-put low high (c ∷ l) a b h =
      let r = rising-parts low high c l h in
      cases (ltb index c.index)
      (λ e. rw e (parts-rising low high (new_cell place index bytes) (c ∷ l) a b (parts-rising (suc index) high c l (ltb-true index c.index e) r.1 r.2)))
      (λ e. cases (eqb index c.index)
      (λ g. rw (e, g) (parts-rising low high (new_cell c.place index bytes) l a b (rw (eqb-true index c.index g) r.2)))
      (λ g. let n : suc c.index ≤ index = omega (arith, ltb-false index c.index e, eqb-false index c.index g) in
      rw (e, g) (parts-rising low high c (put_piece place index bytes l) r.0 r.1 (rising-put (suc c.index) high l n b r.2))))

  -- what is so of the new piece in any cell, and of each piece before, is so of each piece after
  pub all-put : (P : Cell → Type 0) (l : List Cell) → ((p : ℕ) → P (new_cell p index bytes)) → All P l → All P (put_piece place index bytes l)
  unfolding put_piece
  all-put P [] n p = (n place, tt)
  all-put P (c ∷ l) n p =
      cases (ltb index c.index)
      (λ e. rw e (n place, p))
      (λ e. cases (eqb index c.index) (λ g. rw (e, g) (n c.place, p.1)) (λ g. rw (e, g) (p.0, all-put P l n p.1)))

  -- at a new index it takes one more place
  pub occurs-put-new : (k : ℕ) (l : List Cell) → piece_at index l ≡ none
      → occurs k (map cell_place (put_piece place index bytes l)) ≡ one (eqb k place) + occurs k (map cell_place l)
  unfolding find put_piece
  occurs-put-new k [] h = refl
  occurs-put-new k (c ∷ l) h =
      cases (ltb index c.index)
      (λ e. rw e)
      (λ e. cases (eqb index c.index)
      (λ g. absurd (some-ne-none c (rw g at h)))
      (λ g. let q = occurs-put-new k l (rw g at h) in rw (e, g) (omega arith)))

  -- at a held index it stays in its own cell
  pub places-put-held : (low high : ℕ) (l : List Cell) → rising low high l ≡ true → is_some (piece_at index l) ≡ true
      → map cell_place (put_piece place index bytes l) ≡ map cell_place l
  unfolding find put_piece
  places-put-held low high [] r h = clash h refl
  places-put-held low high (c ∷ l) r h =
      let s = rising-parts low high c l r in
      cases (ltb index c.index)
      (λ e. let b : rising c.index high (c ∷ l) ≡ true = parts-rising c.index high c l (omega arith) s.1 s.2 in
      clash h (ap is_some (piece-below index c.index high (c ∷ l) (ltb-true index c.index e) b)))
      (λ e. cases (eqb index c.index)
      (λ g. rw (e, g))
      (λ g. rw (e, g) (ap (λ (x : List ℕ). c.place ∷ x) (places-put-held (suc c.index) high l s.2 (rw g at h)))))

  -- so there is one more at most, and none at a held index
  pub length-put : (l : List Cell) → length (put_piece place index bytes l) ≤ suc (length l)
  unfolding put_piece
  length-put [] = omega arith
  length-put (c ∷ l) =
      cases (ltb index c.index)
      (λ e. rw e (omega arith))
      (λ e. cases (eqb index c.index) (λ g. rw (e, g) (omega arith)) (λ g. rw (e, g) (omega (arith, length-put l))))

  pub length-put-held : (low high : ℕ) (l : List Cell) → rising low high l ≡ true → is_some (piece_at index l) ≡ true
      → length (put_piece place index bytes l) ≡ length l
  length-put-held low high l r h =
      sym (length-map (put_piece place index bytes l) cell_place) ∙ ap length (places-put-held low high l r h) ∙ length-map l cell_place

  -- the new piece at its index, what was there at every other
  pub bytes-put : (j : ℕ) (l : List Cell) → piece_bytes j (put_piece place index bytes l) ≡ cond (eqb j index) (some bytes) (piece_bytes j l)
  unfolding find put_piece
  bytes-put j [] = cases (eqb j index) (λ h. rw h) (λ h. rw h)
  bytes-put j (c ∷ l) =
      cases (ltb index c.index)
      (λ e. rw e (cases (eqb j index) (λ h. rw h) (λ h. rw h)))
      (λ e. cases (eqb index c.index)
      (λ g. cases (eqb j index)
      (λ h. rw (e, g, h))
      (λ h. let f : eqb j c.index ≡ false = rw (← eqb-true index c.index g) h in rw (e, g, h, f)))
      (λ g. rw (e, g)
      (cases (eqb j c.index)
      (λ h. let f : eqb j index ≡ false = ne_eqb j index (λ t. eqb-false index c.index g (sym t ∙ eqb-true j c.index h)) in rw (h, f))
      (λ h. rw h (bytes-put j l)))))

  pub bytes-put-same : (l : List Cell) → piece_bytes index (put_piece place index bytes l) ≡ some bytes
  bytes-put-same l = bytes-put index l ∙ rw (eq-eqb index index refl)

  pub bytes-put-other : (j : ℕ) (l : List Cell) → (j ≡ index → ⊥) → piece_bytes j (put_piece place index bytes l) ≡ piece_bytes j l
  bytes-put-other j l h = bytes-put j l ∙ rw (ne_eqb j index h)

  -- there is a piece at its index, and where there was one
  pub some-put : (j : ℕ) (l : List Cell) → is_some (piece_at j (put_piece place index bytes l)) ≡ (eqb j index || is_some (piece_at j l))
  some-put j l =
      sym (some_bytes j (put_piece place index bytes l)) ∙ ap is_some (bytes-put j l)
      ∙ cases (eqb j index) (λ h. rw h) (λ h. rw h (some_bytes j l))
