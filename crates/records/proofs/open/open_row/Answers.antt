-- Assumes nothing.
use Rattle.records.specs.OpenedLaws.{row-ready}
use Rattle.records.proofs.open.open_row.Goals as goal

pub hold-requires : goal.hold-requires
hold-requires c =
    let a = c.args in
    row-ready a.kind a.cell _ c.requires.1 a.times.created a.times.end a.store.now c.requires.0 _ _ c.start-row.ensures.0 c.put_row.ensures
