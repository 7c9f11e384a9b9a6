-- The head and the two free chains, written over all bytes. Assumes nothing.
use Rattle.soundness.proofs.Rises.{fresh_written}
use Rattle.soundness.proofs.fresh.put_fresh.Goals as goal

pub returns : goal.returns
returns c =
    fresh_written c.args.role c.args.cells c.args.store.now _ _ _ _ c.requires.1 c.requires.3
    c.copy_in.ensures c.put_rising.ensures c.cells.ensures c.put_rising-2.ensures
