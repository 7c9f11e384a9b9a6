-- Assumes nothing.
use Prim.Native.Nat.{ℕ}
use mathlib.Core.Path.{ap, ◌∙◌}
use lib.ListN.{get_or}
use Rattle.records.proofs.Clears.{cell-is}
use Rattle.records.proofs.clear.free_cell.Goals as goal

pub returns : goal.returns
returns c = (
  c.from.ensures ∙ ap (λ (o : ℕ). get_or c.args.store.now o 0) c.cell_at-row.ensures,
  cell-is c.requires.1 c.requires.0 c.cell_at-row.ensures c.or_else.ensures c.copy_in.ensures c.fill.ensures,
)
