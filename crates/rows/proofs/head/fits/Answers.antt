-- The tests of the head, by each way out. Assumes nothing.
use native.Mathlib.Omega.{arith}
use mathlib.Core.Path.{sym, ◌∙◌}
use Rattle.rows.proofs.Laws.{head-short, head-none, head-many, head-is}
use Rattle.rows.proofs.head.fits.Goals as goal

pub returns-then-store-lt-BYTES : goal.returns-then-store-lt-BYTES
returns-then-store-lt-BYTES c = head-short _ _ c.if-store-lt-BYTES.true

pub returns-then-cells-eq0 : goal.returns-then-cells-eq0
returns-then-cells-eq0 c = head-none _ _ (sym c.from-cells.ensures ∙ c.if-cells-eq0.true)

pub returns-then-cells-gt-MOST : goal.returns-then-cells-gt-MOST
returns-then-cells-gt-MOST c = head-many _ _ (omega (arith, c.from-cells.ensures))

pub returns : goal.returns
returns c =
    let b4 = c in
    let b7 = b4 in
    let cells = b7.from-cells.ensures in
    rw (cells, c.is_role.ensures, c.from.ensures, b4.zero_part-rest.ensures)
    (head-is _ _ (λ e. b4.if-cells-eq0.false (cells ∙ e)) (omega arith))
