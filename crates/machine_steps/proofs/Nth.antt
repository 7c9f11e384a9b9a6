-- The i-th of cells whose indices rise: bounds of its index, and that it is the piece at its index. Assumes nothing.
use Rattle.std.specs.Prelude.{ℕ, zero, suc, ◌+◌, ◌-◌, ◌≤◌, ◌<◌, ◌≡◌, refl, true, List, [], ◌∷◌, length, get_or}
use Rattle.std.proofs.Common.{arith, eq-eqb, ne_eqb}
use Rattle.std.proofs.Math.Option.{some}
use Rattle.machine.specs.Values.{Cell}
use Rattle.machine.specs.Sound.{rising}
use Rattle.machine.specs.Find.{find}
use Rattle.machine.specs.Pieces.{piece_at}
use Rattle.machine_steps.proofs.Pieces.{rising-parts}

-- its index leaves room for those before it and those after it
pub index-between : (low high : ℕ) (l : List Cell) → rising low high l ≡ true → (i : ℕ) (d : Cell) → i < length l
    → (low + i ≤ (get_or l i d).index) × ((get_or l i d).index + (length l - i) ≤ high)
index-between low high [] h i d a = absurd (omega arith)
index-between low high (c ∷ []) h zero d a = let r = rising-parts low high c [] h in (omega (arith, r.0), omega (arith, r.1))
index-between low high (c ∷ b ∷ l) h zero d a =
    let r = rising-parts low high c (b ∷ l) h in
    let n = index-between (suc c.index) high (b ∷ l) r.2 zero d (omega arith) in
    (omega (arith, r.0), omega (arith, n.0, n.1))
index-between low high (c ∷ l) h (suc i) d a =
    let r = rising-parts low high c l h in
    let n = index-between (suc c.index) high l r.2 i d (omega arith) in
    (omega (arith, r.0, n.0), omega (arith, n.1))

-- it is the piece at its index
pub piece-nth : (low high : ℕ) (l : List Cell) → rising low high l ≡ true → (i : ℕ) (d : Cell) → i < length l
    → piece_at (get_or l i d).index l ≡ some (get_or l i d)
unfolding find
piece-nth low high [] h i d a = absurd (omega arith)
piece-nth low high (c ∷ l) h zero d a = rw (eq-eqb c.index c.index refl)
piece-nth low high (c ∷ l) h (suc i) d a =
    let r = rising-parts low high c l h in
    let n = index-between (suc c.index) high l r.2 i d (omega arith) in
    rw (ne_eqb (get_or l i d).index c.index (λ e. omega (arith, n.0))) (piece-nth (suc c.index) high l r.2 i d (omega arith))
