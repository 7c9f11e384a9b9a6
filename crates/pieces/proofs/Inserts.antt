-- What the calls of an insertion together make of the bytes. Assumes nothing.
use Prim.Native.Nat.{ℕ, suc, ◌+◌, max}
use native.Mathlib.Numerals.{add-one}
use native.Mathlib.Omega.{arith}
use mathlib.Core.Path.{◌≡◌, refl, sym, ap, ◌∙◌}
use mathlib.Core.Bool.{Bool, true, false, cond}
use mathlib.Core.List.{List, [], ◌∷◌}
use lib.ListN.{get_or}
use lib.Dec.{eqb}
use borrow.Author.Tests.{eqb-false, ne_eqb}
use Rattle.octets.specs.Octets.{put}
use Rattle.octets.specs.BoolsLaws.{cases, clash}
use Rattle.machine.specs.Layout.{rec_off, cell_off, cell_row}
use Rattle.machine.specs.Pieces.{new_cell}
use Rattle.machine_writes.specs.Links.{Links}
use Rattle.pieces.specs.InPlace.{spot_in, index_behind, holds_index, rewritten, grown, inserted, chunked, LinkIn, CellIn}
use Rattle.pieces.specs.ReadLaws.{cell_in}

pub grow-written : (b b1 : List ℕ) (at k i x slots : ℕ) → at ≡ rec_off k → x ≡ get_or b (at + 7) 0
    → slots ≡ max x (i + 1) → b1 ≡ put b (at + 7) (slots ∷ []) → b1 ≡ grown b k i
grow-written b b1 at k i x slots q y n e =
    e ∙ ap (λ (m : ℕ). put b (at + 7) (m ∷ [])) (n ∙ (λ t. max (y t) (add-one i t)))
    ∙ ap (λ (o : ℕ). put b (o + 7) (max (get_or b (o + 7) 0) (suc i) ∷ [])) q

-- ---- a piece at a link

pub holds-none : (b : List ℕ) (at i x : ℕ) → x ≡ get_or b at 0 → x ≡ 0 → false ≡ holds_index b at i
holds-none b at i x q z = rw (sym q ∙ z)

pub holds-some : (b : List ℕ) (at i x cell y : ℕ) → x ≡ get_or b at 0 → (x ≡ 0 → ⊥) → cell ≡ cell_off x → y ≡ get_or b (cell + 1) 0 → eqb i y
    ≡ holds_index b at i
holds-some b at i x cell y q z c e =
    let none : eqb (get_or b at 0) 0 ≡ false = ne_eqb (get_or b at 0) 0 (λ o. z (q ∙ o)) in
    ap (eqb i) (e ∙ (λ t. get_or b (c t + 1) 0) ∙ ap (λ (k : ℕ). get_or b (cell_off k + 1) 0) q)
    ∙ ap (λ (t : Bool). cond t false (eqb i (index_behind b at))) (sym none)

-- it is in a cell
pub holds-cell : (b : List ℕ) (at i : ℕ) → Links b → LinkIn b at → holds_index b at i ≡ true → CellIn b (get_or b at 0)
holds-cell b at i l k h =
    cases (eqb (get_or b at 0) 0)
    (λ e. let z : false ≡ true = rw e at h in clash z refl)
    (λ e. cell_in b l (get_or b at 0) (omega (arith, eqb-false (get_or b at 0) 0 e)) k.leads)

-- ---- a new piece

pub insert-written : (b b1 b2 b3 b4 : List ℕ) (cell at k link i : ℕ) (bytes : List ℕ) → cell ≡ get_or b 3 0 → at ≡ cell_off cell → b1 ≡ grown b k i
    → b2 ≡ put b1 (cell_off cell) (cell_row (get_or b link 0) (new_cell cell i bytes)) → b3 ≡ put b2 3 (get_or b at 0 ∷ []) → b4
    ≡ put b3 link (get_or b 3 0 ∷ [])
    → b4 ≡ inserted b k link i bytes
unfolding inserted
insert-written b b1 b2 b3 b4 cell at k link i bytes q a e1 e2 e3 e4 =
    e4 ∙ ap (λ (x : List ℕ). put x link (get_or b 3 0 ∷ []))
    (e3 ∙ ap (λ (x : List ℕ). put x 3 (get_or b at 0 ∷ []))
    (e2 ∙ ap (λ (x : List ℕ). put x (cell_off cell) (cell_row (get_or b link 0) (new_cell cell i bytes))) e1))
    ∙ (λ t. put (put (put (grown b k i) (cell_off (q t)) (cell_row (get_or b link 0) (new_cell (q t) i bytes))) 3 (get_or b ((a ∙ ap cell_off q) t) 0 ∷ []))
    link (get_or b 3 0 ∷ []))

-- ---- a piece of a record

module _ (b e : List ℕ) (link k i : ℕ) (bytes : List ℕ) (q : link ≡ spot_in b k i) where
  pub chunk-held : (cell : ℕ) → true ≡ holds_index b link i → cell ≡ get_or b link 0 → e ≡ rewritten b cell bytes → e ≡ chunked b k i bytes
  unfolding chunked
  chunk-held cell h c w =
      w ∙ ap (λ (p : ℕ). rewritten b p bytes) (c ∙ ap (λ (o : ℕ). get_or b o 0) q)
      ∙ ap (λ (t : Bool). cond t (rewritten b (get_or b (spot_in b k i) 0) bytes) (inserted b k (spot_in b k i) i bytes))
      (h ∙ ap (λ (o : ℕ). holds_index b o i) q)

  pub chunk-new : false ≡ holds_index b link i → e ≡ inserted b k link i bytes → e ≡ chunked b k i bytes
  unfolding chunked
  chunk-new h w =
      w ∙ ap (λ (o : ℕ). inserted b k o i bytes) q
      ∙ ap (λ (t : Bool). cond t (rewritten b (get_or b (spot_in b k i) 0) bytes) (inserted b k (spot_in b k i) i bytes))
      (h ∙ ap (λ (o : ℕ). holds_index b o i) q)

pub ruleset inserts = (grow-written, holds-none, holds-some, insert-written, holds-cell, chunk-held, chunk-new)
