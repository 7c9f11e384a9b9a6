-- Five writes one behind the other are a cell's row. Assumes nothing.
use Rattle.pieces.proofs.Rows.{row_written}
use Rattle.pieces.proofs.row.put_cell.Goals as goal

pub returns : goal.returns
returns c =
    let a = c.args in
    row_written a.store.now _ _ _ _ _ c.cell_at-row.result a.place a.next a.index a.bytes.now c.requires.0 c.requires.1
    c.cell_at-row.ensures c.copy_in.ensures c.write.ensures c.fill.ensures c.copy_in-2.ensures c.fill-2.ensures
