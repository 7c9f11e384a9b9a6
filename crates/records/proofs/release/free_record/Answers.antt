-- Assumes nothing.
use native.Mathlib.Omega.{arith}
use Rattle.records.proofs.Releases.{record_is}
use Rattle.records.proofs.release.free_record.Goals as goal

pub returns : goal.returns
returns c = record_is _ _ c.record_at-row.ensures (omega arith) c.copy_in.ensures c.fill.ensures c.copy_in-2.ensures
