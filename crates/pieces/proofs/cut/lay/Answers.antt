-- Both ways one piece is laid. Assumes nothing.
use Prim.Native.Nat.{ℕ}
use native.Mathlib.Omega.{arith}
use mathlib.Core.Path.{sym, ap}
use lib.ListN.{get_or, length-take}
use lib.Seq.{length-take-le}
use Rattle.pieces.proofs.Cuts.{laid-last}
use Rattle.pieces.proofs.cut.lay.Goals as goal

pub slice_bounds-put_cell-end : goal.slice_bounds-put_cell-end
slice_bounds-put_cell-end c = sym (length-take-le 1300 c.args.bytes.now (omega (arith, c.if-bytes-gt-CUT_BYTES.true)))

pub put_cell-requires : goal.put_cell-requires
put_cell-requires c = (c.requires, omega (arith, length-take 1300 c.args.bytes.now))

pub returns-else-bytes-gt-CUT_BYTES : goal.returns-else-bytes-gt-CUT_BYTES
returns-else-bytes-gt-CUT_BYTES c =
    let a = c.args in (
      ap (λ (o : ℕ). get_or a.store.now o 0) c.cell_at-row.ensures,
      laid-last a.store.now a.place a.index a.bytes.now c.if-bytes-gt-CUT_BYTES.false c.put_cell-else-bytes-gt-CUT_BYTES.ensures,
    )
