-- Assumes nothing.
use Rattle.std.proofs.Common.{rules}
use Rattle.records.specs.OpenedLaws.{fine-fields}
use Rattle.records.specs.RestartedLaws.{restart-chain}
use Rattle.records.proofs.restart.restart.Goals as goal

pub clear-requires : goal.clear-requires
clear-requires c =
    let a = c.args in
    restart-chain a.store.now (search rules) a.link c.requires.0 _ (fine-fields c.requires.2) _ _ _ c.start-row.ensures.0 c.put_row.ensures c.from.ensures
