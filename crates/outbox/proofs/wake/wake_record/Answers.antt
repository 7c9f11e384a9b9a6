-- By the kind, and for a send wake by the hours. Assumes nothing.
use mathlib.Core.Path.{sym, ◌∙◌}
use Rattle.std.proofs.Common.{rules}
use Rattle.outbox.specs.HereLaws.{here}
use Rattle.outbox.proofs.Wakes.{wake_open, wake_shut, wake_over}
use Rattle.outbox.proofs.wake.wake_record.Goals as goal

pub returns-in-Send : goal.returns-in-Send
returns-in-Send c =
    wake_open (here (search rules) c.requires.0) _ _ _ _ c.in-Send.is (sym c.is_open.ensures ∙ c.if-is_open.true) c.send_wake.ensures

pub returns-in-Send-2 : goal.returns-in-Send-2
returns-in-Send-2 c = wake_shut (here (search rules) c.requires.0) _ _ _ _ c.in-Send-2.is (sym c.is_open.ensures ∙ c.if-is_open.false)

pub returns-in-Deadline : goal.returns-in-Deadline
returns-in-Deadline c =
    wake_over (here (search rules) c.requires.0) _ _ _ _ c.in-Deadline.is c.deadline_wake.ensures.0 c.deadline_wake.ensures.1
