-- Assumes nothing.
use Rattle.records.specs.OpenedLaws.{row_written}
use Rattle.records.proofs.open.put_row.Goals as goal

pub returns : goal.returns
returns c = row_written _ _ _ c.requires.0 _ _ _ _ _ _ c.requires.1 c.put_front.ensures c.put_rest.ensures
