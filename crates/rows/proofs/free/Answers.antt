use Prim.Native.Nat.{ℕ, ◌+◌, ◌-◌}
use mathlib.Core.Path.{◌≡◌, sym, ap, ◌∙◌}
use mathlib.Core.Bool.{◌&&◌}
use mathlib.Core.List.{List}
use lib.ListN.{length}
use Rattle.octets.specs.Octets.{part, zeros}
use Rattle.octets.specs.PartsLaws.{part-add}
use Rattle.octets.specs.CompareLaws.{zeros-append}
use Rattle.rows.proofs.free.Goals as goal

-- Assumes nothing.

-- what stands behind the link of a row of 1 + n + m bytes, in two parts
in_two : (row : List ℕ) (n m : ℕ) → length row - 1 ≡ n + m → (zeros (part row 1 n) && zeros (part row (1 + n) m)) ≡ zeros (part row 1 (length row - 1))
in_two row n m e = sym (ap (λ (k : ℕ). zeros (part row 1 k)) e ∙ ap zeros (part-add row 1 n m) ∙ zeros-append (part row 1 n) (part row (1 + n) m))

pub returns-then-row-eq-BYTES : goal.returns-then-row-eq-BYTES
returns-then-row-eq-BYTES c =
    let cell = c in
    (λ i. c.zero_part.ensures i && c.zero_part-then-row-eq-BYTES.ensures i)
    ∙ in_two cell.args.row.now 3 1376 (ap (λ (n : ℕ). n - 1) cell.if-row-eq-BYTES.true)

pub returns-then-row-eq-BYTES-2 : goal.returns-then-row-eq-BYTES-2
returns-then-row-eq-BYTES-2 c =
    let record-row = c in
    (λ i. c.zero_part-then-row-eq-BYTES-2.ensures i && c.zero_part-then-row-eq-BYTES-2-2.ensures i)
    ∙ in_two record-row.args.row.now 7 320 (ap (λ (n : ℕ). n - 1) record-row.if-row-eq-BYTES-2.true)
