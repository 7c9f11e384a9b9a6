-- Each walk found what its definition gives. Assumes nothing.
use Rattle.std.proofs.Common.{ap, ◌∙◌}
use Rattle.machine.specs.Layout.{rec_chain}
use Rattle.soundness.proofs.Rests.{cells_are}
use Rattle.soundness.proofs.store.Store.cells_once.Goals as goal

pub returns : goal.returns
returns c =
    let b = c.args.self.bytes.now in
    cells_are _ _ _ c.cells.ensures c.head-3.ensures
    (c.records-held.ensures ∙ ap (rec_chain b) c.head.ensures) (c.records-whole.ensures ∙ ap (rec_chain b) c.head-2.ensures)
    c.marked-a.ensures c.pieces_marked-b.ensures c.pieces_marked-c.ensures c.all_marked.ensures
