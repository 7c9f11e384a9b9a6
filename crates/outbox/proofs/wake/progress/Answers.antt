-- Every piece is acknowledged. Assumes nothing.
use mathlib.Core.Path.{sym, ◌∙◌}
use Rattle.outbox.specs.WokenLaws.{progress_done}
use Rattle.outbox.proofs.wake.progress.Goals as goal

pub returns-then-all_acked : goal.returns-then-all_acked
returns-then-all_acked c =
    let r = c.at-record.ensures in
    progress_done r.1 _ (sym (rw r.0 at c.all_acked.ensures) ∙ c.if-all_acked.true) (rw r.0 at c.put_done.ensures)
