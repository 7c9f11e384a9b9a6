-- Assumes nothing.
use native.Mathlib.Omega.{arith}
use Rattle.pieces.proofs.Walks.{spot-here, spot-more}
use Rattle.pieces.proofs.link.CellLink.seek.Goals as goal

pub returns-then-index-from : goal.returns-then-index-from
returns-then-index-from c =
    spot-here c.loop-n.invariant (omega arith) c.from-place.ensures c.if-place-eq0.false c.cell_at-row.ensures c.from.ensures c.if-index-from.true

pub loop-n-preserved : goal.loop-n-preserved
loop-n-preserved c =
    spot-more c.loop-n.invariant (omega arith) c.from-place.ensures c.if-place-eq0.false c.cell_at-row.ensures c.from.ensures c.if-index-from.false
    c.args.self.links
