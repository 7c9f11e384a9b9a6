-- Push: the bytes that are left are laid into the free cells, one piece after the other. What one piece makes of the bytes of a store, and that it is one
-- step of `laid` over `cut_pieces`. Assumes nothing.
use Prim.Native.Nat.{ℕ, zero, suc, ◌-◌, ◌≤◌, ◌<◌}
use native.Mathlib.Omega.{arith}
use Rattle.std.specs.Prelude.{◌≡◌, refl, true, length, drop, eqb, ltb}
use Rattle.std.proofs.Math.Path.{sym, ap}
use Rattle.std.proofs.Common.{◌∙◌, eq-eqb, lt-ltb, le-ltb}
use Rattle.std.proofs.Math.Bool.{cond}
use mathlib.Core.List.{List, [], ◌∷◌, map}
use Rattle.std.proofs.Math.ListN.{get_or, take, length-take}
use Rattle.octets.specs.Octets.{part, put, Bytes}
use Rattle.octets.specs.Bools.{one}
use Rattle.octets.specs.BoolsLaws.{one-le}
use Rattle.octets.specs.PartsLaws.{bytes-part}
use Rattle.machine.specs.Limits.{cut_by, cell_bytes, most_cells, store_bytes, slots_of}
use Rattle.machine.specs.Values.{Cell}
use Rattle.machine.specs.Chains.{first, link}
use Rattle.machine.specs.Counting.{occurs, inside}
use Rattle.machine.specs.Layout.{free_cells_at, cell_place, cell_off, cell_row, cell_at, cell_chain, decode}
use Rattle.machine.specs.Sound.{sound}
use Rattle.machine.specs.Pieces.{new_cell, rest, cut_pieces}
use Rattle.machine_laws.specs.Counting.{Few, one_inside, few-inside}
use Rattle.machine_laws.specs.Chains.{Linked, lead, Chain, walk-chain}
use Rattle.machine_laws.specs.CellRow.{cell-length}
use Rattle.machine_laws.specs.Write.{write-row}
use Rattle.machine_laws.specs.Walks.{cells-once}
use Rattle.machine_writes.specs.Laid.{laid}
use Rattle.records.specs.MetLaws.{valid}
use Rattle.records.specs.ClearedLaws.{linked-same}
use Rattle.pieces.specs.InPlace.{CellIn}
use Rattle.pieces.specs.ReadLaws.{cell-next}
use Rattle.pieces.specs.RewriteLaws.{new-sized}
use Rattle.pieces.specs.Laying.{piece_laid}

-- the rows of pieces, laid into their cells
abbrev pub pieces_laid : List Cell → List ℕ → List ℕ
pieces_laid l b = laid cell_place cell_row (store_bytes 0) cell_bytes 0 l b

-- what one piece does, where `places` are the free cells that are left and n pieces are to come
pub record One (n i : ℕ) (places bytes b : List ℕ) : Type 0 where
  pub cell : CellIn b (first places)
  pub next : get_or b (cell_off (first places)) 0 ≡ first (rest places)
  pub long : length (piece_laid b (first places) i bytes) ≡ length b
  pub chain : Linked (link (cell_at (piece_laid b (first places) i bytes))) (rest places)
  pub left : pieces_laid (cut_pieces (n - 1) (suc i) (rest places) (drop cut_by bytes)) (piece_laid b (first places) i bytes)
      ≡ pieces_laid (cut_pieces n i places bytes) b

module _ (C i : ℕ) (bytes b : List ℕ) (most : C ≤ most_cells) (y : Bytes bytes) (size : length b ≡ store_bytes C) where
  -- where its link leads
  leads : (n p : ℕ) (ps : List ℕ) → suc n ≡ slots_of (length bytes) → get_or b (cell_off p) 0 ≡ first ps
      → cond (ltb cut_by (length bytes)) (get_or b (cell_off p) 0) 0 ≡ lead 0 (map cell_place (cut_pieces n (suc i) ps (drop cut_by bytes)))
  unfolding cut_pieces
  leads zero p ps e h = rw (le-ltb cut_by (length bytes) (omega arith))
  leads (suc n) p ps e h = rw (lt-ltb cut_by (length bytes) (omega arith)) h

  -- the other free cells are elsewhere
  apart : (k p : ℕ) (ps : List ℕ) → Few C (p ∷ ps) → 0 < occurs k ps → k ≡ p → ⊥
  apart k p ps u q e = let z : one (eqb k p) ≡ 1 = ap one (eq-eqb k p e) in omega (arith, u k, one-le (inside C k))

  pub lay-one : (n : ℕ) (places : List ℕ) → n ≡ slots_of (length bytes) → 0 < length bytes → n ≤ length places → Few C places → Linked (link (cell_at b)) places
      → One n i places bytes b
  unfolding laid cut_pieces part
  lay-one zero places e h g u l = absurd (omega arith)
  lay-one (suc n) [] e h g u l = absurd (omega arith)
  lay-one (suc n) (p ∷ ps) e h g u l =
      let inside = (few-inside C (p ∷ ps) u).0 in
      let piece : List ℕ = take cut_by bytes in
      let next : get_or b (cell_off p) 0 ≡ first ps = sym (cell-next b p) ∙ l.0 in
      let to : ℕ = cond (ltb cut_by (length bytes)) (get_or b (cell_off p) 0) 0 in
      let w = write-row (store_bytes 0) cell_bytes p (cell_row to (new_cell p i piece)) b inside.0 (omega (arith, inside.0, inside.1, size))
      (cell-length to (new_cell p i piece) (new-sized p i piece (omega (arith, length-take cut_by bytes), bytes-part bytes 0 cut_by y))) in
      let less : suc n - 1 ≡ n = omega arith in
      record {
        cell = record { some = inside.0; most = omega (arith, inside.1, most); fits = omega (arith, inside.0, inside.1, size) };
        next = next;
        long = w.long;
        chain = linked-same (link (cell_at b)) (link (cell_at (piece_laid b p i bytes))) ps
            (λ k q. ap (λ (x : List ℕ). get_or x 0 0) (w.others k (one_inside C k (omega (arith, u k))).0 (λ z. apart k p ps u q z))) l.1;
        left = ap (λ (m : ℕ). pieces_laid (cut_pieces m (suc i) ps (drop cut_by bytes)) (piece_laid b p i bytes)) less
            ∙ ap (λ (k : ℕ). pieces_laid (cut_pieces n (suc i) ps (drop cut_by bytes)) (put b (cell_off p) (cell_row k (new_cell p i piece)))) (leads n p ps e next);
      }

-- ---- the free cells of sound bytes

-- how many there are
pub free-count : (b : List ℕ) → length (cell_chain b (get_or b free_cells_at 0)) ≡ length (decode b).free_cells
unfolding decode
free-count b = refl

module _ (role : ℕ) (b : List ℕ) (y : Bytes b) (t : sound role b ≡ true) where
  -- none of them stands twice
  pub free-few : Few (decode b).setup.cells (decode b).free_cells
  free-few k = omega (arith, cells-once role (decode b) (valid role b y t) k)

  -- they are a chain from the head's link on
  pub free-chain : Chain (link (cell_at b)) (decode b).setup.cells (get_or b free_cells_at 0) (decode b).free_cells
  unfolding decode
  free-chain = walk-chain (link (cell_at b)) (decode b).setup.cells (suc most_cells) (get_or b free_cells_at 0) (omega (arith, (valid role b y t).most)) free-few
