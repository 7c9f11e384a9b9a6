-- Laws of the spot of an index: in the bytes of a chain it is the link behind the pieces below the index; it tells whether there is a piece at the
-- index; and there a piece is put. Assumes nothing.
use Prim.Native.Nat.{ℕ, zero, suc, ◌+◌, ◌≤◌, ◌<◌}
use Rattle.std.proofs.Common.{arith, ◌∙◌}
use Rattle.std.specs.Prelude.{◌≡◌, cond, length, eqb, ltb}
use Rattle.std.proofs.Math.Path.{refl, sym, ap}
use Rattle.std.proofs.Math.Bool.{true, false}
use mathlib.Core.List.{List, [], ◌∷◌, ◌++◌, map}
use Rattle.std.proofs.Math.ListN.{get_or}
use Rattle.std.proofs.Math.Dec.{leb}
use borrow.Author.Tests.{eqb-true, eqb-false, ne_eqb, leb-true, leb-false, le-leb, lt-leb, ltb-true, ltb-false, le-ltb, lt-ltb}
use Rattle.octets.specs.BoolsLaws.{cases, clash}
use Rattle.octets.specs.Lists.{All}
use Rattle.machine.specs.Limits.{cell_bytes, store_bytes}
use Rattle.machine.specs.Values.{Cell}
use Rattle.machine.specs.Chains.{first, chain_rows}
use Rattle.machine.specs.Layout.{index_at, cell_place, cell_row, cell_off, cell_at}
use Rattle.machine.specs.Sound.{rising}
use Rattle.machine.specs.Find.{find, is_some}
use Rattle.machine.specs.Pieces.{new_cell, piece_at, put_piece}
use Rattle.machine_laws.specs.Rows.{Held}
use Rattle.machine_writes.specs.Link.{link_at}
use Rattle.machine_steps.proofs.Pieces.{rising-parts, piece-below}
use Rattle.pieces.specs.ReadLaws.{cell-byte, cell-next}
use Rattle.pieces.specs.InPlace.{index_behind, spot_from, holds_index}

-- ---- the pieces in two parts

-- the pieces below an index, and those from the first that is not below it
unfoldable pub below : ℕ → List Cell → List Cell
below i [] = []
below i (c ∷ l) = cond (leb i c.index) [] (c ∷ below i l)

unfoldable pub onward : ℕ → List Cell → List Cell
onward i [] = []
onward i (c ∷ l) = cond (leb i c.index) (c ∷ l) (onward i l)

pub below-onward : (i : ℕ) (l : List Cell) → l ≡ below i l ++ onward i l
unfolding below onward
below-onward i [] = refl
below-onward i (c ∷ l) = cases (leb i c.index) (λ e. rw e) (λ e. rw e (ap (λ (x : List Cell). c ∷ x) (below-onward i l)))

-- ---- the spot in bytes

-- where the link behind pieces stands, if the link to the first of them stands at q
abbrev pub link_behind : ℕ → List Cell → ℕ
link_behind q l = link_at cell_place cell_row (store_bytes 0) cell_bytes q l

module _ (b : List ℕ) where
  -- the pieces l stand in b as a chain, and the link to the first of them at `at`
  pub record Chained (at : ℕ) (l : List Cell) : Type 0 where
    pub leads : get_or b at 0 ≡ first (map cell_place l)
    pub rows : Held (cell_at b) (chain_rows cell_place cell_row l)
    pub places : All (λ p. 0 < p) (map cell_place l)

  pub row-index : (next : ℕ) (c : Cell) → cell_at b c.place ≡ cell_row next c → get_or b (cell_off c.place + index_at) 0 ≡ c.index
  unfolding cell_row
  row-index next c e = sym (cell-byte b c.place index_at (omega arith)) ∙ ap (λ (l : List ℕ). get_or l index_at 0) e

  pub row_next : (next : ℕ) (c : Cell) → cell_at b c.place ≡ cell_row next c → get_or b (cell_off c.place) 0 ≡ next
  unfolding cell_row
  row_next next c e = sym (cell-next b c.place) ∙ ap (λ (l : List ℕ). get_or l 0 0) e

  -- the index behind the link to a chain is that of its first piece; the rest is chained from that piece on
  pub chained-index : (at : ℕ) (c : Cell) (l : List Cell) → Chained at (c ∷ l) → index_behind b at ≡ c.index
  chained-index at c l h = ap (λ (p : ℕ). get_or b (cell_off p + index_at) 0) h.leads ∙ row-index (first (map cell_place l)) c h.rows.0

  chained-some : (at : ℕ) (c : Cell) (l : List Cell) → Chained at (c ∷ l) → eqb (get_or b at 0) 0 ≡ false
  chained-some at c l h = ne_eqb (get_or b at 0) 0 (λ z. omega (arith, h.leads, h.places.0))

  pub chained-rest : (at : ℕ) (c : Cell) (l : List Cell) → Chained at (c ∷ l) → Chained (cell_off c.place) l
  chained-rest at c l h = record { leads = row_next (first (map cell_place l)) c h.rows.0; rows = h.rows.1; places = h.places.1 }

  pub spot_is : (n at i : ℕ) (l : List Cell) → length l ≤ n → Chained at l → spot_from b n at i ≡ link_behind at (below i l)
  unfolding spot_from below link_at
  spot_is zero at i [] g h = refl
  spot_is zero at i (c ∷ l) g h = absurd (omega arith)
  spot_is (suc n) at i [] g h = rw h.leads
  spot_is (suc n) at i (c ∷ l) g h =
      rw (chained-some at c l h, chained-index at c l h)
      (cases (leb i c.index)
      (λ e. rw e)
      (λ e. rw (e, h.leads) (spot_is n (cell_off c.place) i l (omega arith) (chained-rest at c l h))))

  -- the link there leads to the pieces that are not below the index
  pub spot-chained : (at i : ℕ) (l : List Cell) → Chained at l → Chained (link_behind at (below i l)) (onward i l)
  unfolding below onward link_at
  spot-chained at i [] h = h
  spot-chained at i (c ∷ l) h =
      cases (leb i c.index)
      (λ e. rw e h)
      (λ e. rw e (spot-chained (cell_off c.place) i l (chained-rest at c l h)))

  -- a piece at the index is the first of them
  pub spot-holds : (at i low high : ℕ) (l : List Cell) → Chained at l → rising low high l ≡ true
      → holds_index b (link_behind at (below i l)) i ≡ is_some (piece_at i l)
  unfolding below link_at find
  spot-holds at i low high [] h r = rw h.leads
  spot-holds at i low high (c ∷ l) h r =
      let s = rising-parts low high c l r in
      cases (leb i c.index)
      (λ e. rw (e, chained-some at c l h, chained-index at c l h)
      (cases (eqb i c.index)
      (λ f. rw f)
      (λ f. rw f (sym (ap is_some (piece-below i (suc c.index) high l (omega (arith, leb-true i c.index e)) s.2))))))
      (λ e. rw (e, ne_eqb i c.index (λ q. omega (arith, leb-false i c.index e)))
      (spot-holds (cell_off c.place) i (suc c.index) high l (chained-rest at c l h) s.2))

-- ---- a piece is put at the spot of its index

module _ (place i : ℕ) (bytes : List ℕ) where
  -- at a new index it comes between the two parts
  pub put-new : (l : List Cell) → is_some (piece_at i l) ≡ false → put_piece place i bytes l ≡ below i l ++ (new_cell place i bytes ∷ onward i l)
  unfolding find put_piece below onward
  put-new [] h = refl
  put-new (c ∷ l) h =
      cases (eqb i c.index)
      (λ f. let z : true ≡ false = rw f at h in clash refl z)
      (λ f. cases (leb i c.index)
      (λ e. rw (e, lt-ltb i c.index (omega (arith, leb-true i c.index e, eqb-false i c.index f))))
      (λ e. let q : c.index < i = leb-false i c.index e in
      rw (e, f, le-ltb i c.index (omega arith)) (ap (λ (x : List Cell). c ∷ x) (put-new l (rw f at h)))))

  -- a held index: the piece there, and what follows it
  pub record PieceHeld (l : List Cell) : Type 0 where
    pub piece : Cell
    pub behind : List Cell
    pub is : onward i l ≡ piece ∷ behind
    pub index : piece.index ≡ i
    pub put : put_piece place i bytes l ≡ below i l ++ (new_cell piece.place i bytes ∷ behind)

  -- a piece further on has a larger index
  above : (low high : ℕ) (c : Cell) (l : List Cell) → rising low high (c ∷ l) ≡ true → eqb i c.index ≡ false → is_some (piece_at i l) ≡ true → c.index < i
  above low high c l r f h =
      let s = rising-parts low high c l r in
      cases (ltb i c.index)
      (λ e. clash h (ap is_some (piece-below i (suc c.index) high l (omega (arith, ltb-true i c.index e)) s.2)))
      (λ e. omega (arith, ltb-false i c.index e, eqb-false i c.index f))

  pub put-held : (low high : ℕ) (l : List Cell) → rising low high l ≡ true → is_some (piece_at i l) ≡ true → PieceHeld l
  unfolding find put_piece below onward
  put-held low high [] r h = clash h refl
  put-held low high (c ∷ l) r h =
      let s = rising-parts low high c l r in
      cases (eqb i c.index)
      (λ f. let e : i ≡ c.index = eqb-true i c.index f in
      let t : leb i c.index ≡ true = le-leb i c.index (omega arith) in
      record {
        piece = c;
        behind = l;
        is = rw t;
        index = sym e;
        put = rw (t, f, le-ltb i c.index (omega arith));
      })
      (λ f. let q : c.index < i = above low high c l r f (rw f at h) in
      let t : leb i c.index ≡ false = lt-leb i c.index q in
      let k = put-held (suc c.index) high l s.2 (rw f at h) in
      record {
        piece = k.piece;
        behind = k.behind;
        is = rw t k.is;
        index = k.index;
        put = rw (t, f, le-ltb i c.index (omega arith)) (ap (λ (x : List Cell). c ∷ x) k.put);
      })
