-- The cells of sources: two sources compared as numbers, the turns of the loops over them, and that what these find is `fair`. Assumes nothing.
use Prim.Native.Nat.{ℕ, suc, ◌+◌, ◌<◌}
use native.Mathlib.Omega.{arith}
use native.Mathlib.Decide.{ℕ_discrete}
use native.Mathlib.Nat.{add-zero}
use mathlib.Core.Path.{◌≡◌, refl, sym, ap, ◌∙◌, subst}
use mathlib.Core.Bool.{true, cond, ◌&&◌, and_assoc}
use mathlib.Core.List.{List, [], ◌∷◌, ◌++◌, map}
use lib.ListN.{length, get_or, set, length-set, length-map}
use lib.Seq.{get_or-set_same, get_or-set_other}
use lib.Dec.{leb}
use Rattle.octets.specs.Octets.{same}
use Rattle.octets.specs.BoolsLaws.{split}
use Rattle.octets.specs.Lists.{all, All}
use Rattle.machine.specs.Limits.{rec_count}
use Rattle.machine.specs.Counting.{inside, total}
use Rattle.machine.specs.Sources.{cells_from, held_by, fair}
use Rattle.machine.specs.Layout.{rec_of, read_cell, read_rec}
use Rattle.machine_laws.specs.Counting.{inside_is, total-append}
use Rattle.soundness.specs.Walked.{pieces_at, counted, no_counts, source_of, share_at, fair_on}

-- ---- all records

module _ (b : List ℕ) where
  -- m has the number of pieces of the record at p
  abbrev Known : List ℕ → ℕ → Type 0
  Known m p = get_or m p 0 ≡ length (pieces_at b p)

  set_known : (m : List ℕ) (q p : ℕ) → p < length m → Known m p → Known (set m q (length (pieces_at b q))) p
  set_known m q p h k =
      elim (ℕ_discrete p q) [
        | yes e ↦ subst (λ (x : ℕ). Known (set m x (length (pieces_at b x))) p) e (get_or-set_same m p (length (pieces_at b p)) 0 h)
        | no e ↦ get_or-set_other m q p (length (pieces_at b q)) 0 e ∙ k
      ]

  counted-long : (ps m : List ℕ) → length (counted b ps m) ≡ length m
  unfolding counted
  counted-long [] m = refl
  counted-long (q ∷ ps) m = counted-long ps (set m q (length (pieces_at b q))) ∙ length-set m q (length (pieces_at b q))

  counted-keeps : (ps m : List ℕ) (p : ℕ) → p < length m → Known m p → Known (counted b ps m) p
  unfolding counted
  counted-keeps [] m p h k = k
  counted-keeps (q ∷ ps) m p h k =
      counted-keeps ps (set m q (length (pieces_at b q))) p (omega (arith, length-set m q (length (pieces_at b q)))) (set_known m q p h k)

  counted-kept : (ps m l : List ℕ) → length m ≡ suc rec_count → all (inside rec_count) l ≡ true → All (Known m) l → All (Known (counted b ps m)) l
  counted-kept ps m [] h a k = tt
  counted-kept ps m (p ∷ l) h a k =
      let s = split (inside rec_count p) (all (inside rec_count) l) a in
      (counted-keeps ps m p (omega (arith, (inside_is rec_count p s.0).1)) k.0, counted-kept ps m l h s.1 k.1)

  counted-all : (ps m : List ℕ) → length m ≡ suc rec_count → all (inside rec_count) ps ≡ true → All (Known (counted b ps m)) ps
  unfolding counted
  counted-all [] m h a = tt
  counted-all (p ∷ ps) m h a =
      let s = split (inside rec_count p) (all (inside rec_count) ps) a in
      let n : ℕ = length (pieces_at b p) in
      let i : p < length m = omega (arith, (inside_is rec_count p s.0).1) in
      (counted-keeps ps (set m p n) p (omega (arith, length-set m p n)) (get_or-set_same m p n 0 i), counted-all ps (set m p n) (length-set m p n ∙ h) s.1)

  -- the records at two lists of places are counted, one list after the other
  abbrev both-counted : List ℕ → List ℕ → List ℕ
  both-counted l o = counted b o (counted b l no_counts)

  module _ (l o : List ℕ) (h : all (inside rec_count) l ≡ true) (g : all (inside rec_count) o ≡ true) where
    first-known : All (Known (both-counted l o)) l
    first-known = counted-kept o (counted b l no_counts) l (counted-long l no_counts) h (counted-all l no_counts refl h)

    second-known : All (Known (both-counted l o)) o
    second-known = counted-all o (counted b l no_counts) (counted-long l no_counts) g

  -- what is found by the counts is what the records hold
  share-is : (m : List ℕ) (p q : ℕ) → Known m q → share_at b m p q ≡ cells_from (read_rec b p).label.source (read_rec b q)
  unfolding share_at cells_from rec_of
  share-is m p q k = ap (λ (n : ℕ). cond (same (source_of b p) (source_of b q)) n 0) (k ∙ sym (length-map (pieces_at b q) (read_cell b)))

  shares-is : (m : List ℕ) (p : ℕ) (ps : List ℕ) → All (Known m) ps → total (share_at b m p) ps ≡ held_by (read_rec b p).label.source (map (read_rec b) ps)
  shares-is m p [] k = refl
  shares-is m p (q ∷ ps) k = λ i. share-is m p q k.0 i + shares-is m p ps k.1 i

  own_is : (m : List ℕ) (p : ℕ) → Known m p → length (read_rec b p).cells ≡ get_or m p 0
  unfolding rec_of
  own_is m p k = length-map (pieces_at b p) (read_cell b) ∙ sym k

  module _ (most : ℕ) (m : List ℕ) where
    fair-one : (l : List ℕ) → All (Known m) l → fair most (map (read_rec b) l) ≡ fair_on most b m l []
    unfolding fair fair_on
    fair-one [] k = refl
    fair-one (p ∷ l) k =
        λ i. leb (own_is m p k.0 i + (sym (shares-is m p l k.1) ∙ sym (add-zero (total (share_at b m p) l))) i) most && fair-one l k.1 i

    fair-both : (l o : List ℕ) → All (Known m) l → All (Known m) o
        → fair most (map (read_rec b) l ++ map (read_rec b) o) ≡ (fair_on most b m l o && fair_on most b m o [])
    unfolding fair fair_on
    fair-both [] o k j = fair-one o j
    fair-both (p ∷ l) o k j =
        let a : List ℕ = (read_rec b p).label.source in
        let sums : held_by a (map (read_rec b) l ++ map (read_rec b) o) ≡ total (share_at b m p) l + total (share_at b m p) o =
        total-append (cells_from a) (map (read_rec b) l) (map (read_rec b) o) ∙ (λ i. sym (shares-is m p l k.1) i + sym (shares-is m p o j) i) in
        (λ i. leb (own_is m p k.0 i + sums i) most && fair-both l o k.1 j i)
        ∙ sym (and_assoc (leb (get_or m p 0 + (total (share_at b m p) l + total (share_at b m p) o)) most) (fair_on most b m l o) (fair_on most b m o []))

  pub fair-two : (most : ℕ) (l o : List ℕ) → all (inside rec_count) l ≡ true → all (inside rec_count) o ≡ true → (m : List ℕ) → m ≡ both-counted l o
      → fair most (map (read_rec b) l ++ map (read_rec b) o) ≡ (fair_on most b m l o && fair_on most b m o [])
  fair-two most l o h g m e =
      rw e (fair-both most (both-counted l o) l o (first-known l o h g) (second-known l o h g))
