-- Writes one behind the other, as the row of a cell and as its marks. Assumes nothing.
use Prim.Native.Nat.{ℕ, ◌+◌, ◌-◌, ◌≤◌}
use native.Mathlib.Omega.{arith}
use mathlib.Core.Path.{◌≡◌, refl, sym, ap, ◌∙◌}
use mathlib.Core.List.{List, [], ◌∷◌, ◌++◌, append-nil}
use lib.ListN.{length, replicate, length-replicate}
use Rattle.octets.specs.Octets.{put, be}
use Rattle.octets.specs.NumbersLaws.{length-be}
use Rattle.octets.specs.WrittenLaws.{wrote, then}
use Rattle.machine.specs.Limits.{cell_bytes}
use Rattle.machine.specs.Layout.{cell_off, cell_row}
use Rattle.machine.specs.Pieces.{new_cell}
use Rattle.packet.specs.Frame.{largest_piece}
use Rattle.pieces.specs.InPlace.{remarked, CellIn}

-- zeros up to the largest piece are zeros up to a row's end
fields : (next index k : ℕ) (bytes : List ℕ) → length bytes ≤ largest_piece
    → ((((next ∷ index ∷ []) ++ be 2 (length bytes)) ++ replicate 12 0) ++ bytes)
    ++ replicate (largest_piece - length bytes) 0 ≡ cell_row next (new_cell k index bytes)
unfolding be cell_row
fields next index k bytes h =
    let front : List ℕ = ((next ∷ index ∷ []) ++ be 2 (length bytes)) ++ replicate 12 0 in
    let e : largest_piece - length bytes ≡ cell_bytes - length (front ++ (bytes ++ [])) = omega (arith, ap length (append-nil bytes)) in
    λ t. front ++ (sym (append-nil bytes) t ++ replicate (e t) 0)

pub row_written : (b b1 b2 b3 b4 b5 : List ℕ) (at k next index : ℕ) (bytes : List ℕ) → CellIn b k → length bytes ≤ largest_piece → at ≡ cell_off k
    → b1 ≡ put b at (next ∷ index ∷ []) → b2 ≡ put b1 (at + 2) (be 2 (length bytes)) → b3 ≡ put b2 (at + 4) (replicate 12 0) → b4 ≡ put b3 (at + 16) bytes
    → b5 ≡ put b4 (at + 16 + length bytes) (replicate (largest_piece - length bytes) 0) → b5 ≡ put b (cell_off k) (cell_row next (new_cell k index bytes))
row_written b b1 b2 b3 b4 b5 at k next index bytes i h q e1 e2 e3 e4 e5 =
    let n : ℕ = length bytes in
    let g : at + 1380 ≤ length b = omega (arith, i.fits) in
    let j : at + 16 + n ≡ at + (16 + n) = omega arith in
    let w1 = wrote {a = at} {n = 2} e1 refl (omega arith) in
    let w2 = then (be 2 n) 2 w1 e2 (length-be 2 n) (omega arith) in
    let w3 = then (replicate 12 0) 12 w2 e3 refl (omega arith) in
    let w4 = then bytes n w3 e4 refl (omega arith) in
    let w5 = then (replicate (largest_piece - n) 0) (largest_piece - n) w4 (e5 ∙ ap (λ (o : ℕ). put b4 o (replicate (largest_piece - n) 0)) j)
    (length-replicate (largest_piece - n) 0) (omega arith) in
    w5.is ∙ (λ t. put b (q t) (fields next index k bytes h t))

pub marks-written : (b b1 b2 : List ℕ) (at k stamp state : ℕ) → CellIn b k → at ≡ cell_off k
    → b1 ≡ put b (at + 4) (be 8 stamp) → b2 ≡ put b1 (at + 12) (state ∷ [])
    → b2 ≡ remarked b k stamp state
marks-written b b1 b2 at k stamp state i q e1 e2 =
    let j : at + 12 ≡ at + 4 + 8 = omega arith in
    let w1 = wrote {a = at + 4} {n = 8} e1 (length-be 8 stamp) (omega (arith, i.fits)) in
    let w2 = then (state ∷ []) 1 w1 (e2 ∙ ap (λ (o : ℕ). put b1 o (state ∷ [])) j) refl (omega (arith, i.fits)) in
    w2.is ∙ ap (λ (o : ℕ). put b (o + 4) (be 8 stamp ++ (state ∷ []))) q

pub ruleset rows = (marks-written, row_written)
