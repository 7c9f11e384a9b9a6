-- Assumes nothing.
use mathlib.Core.Path.{sym, ap, ◌∙◌}
use Rattle.machine.specs.Rules.{number_of}
use Rattle.inbox.proofs.init.admission.Goals as goal

pub returns-in-Malformed : goal.returns-in-Malformed
returns-in-Malformed c = ap number_of (sym c.in-Malformed.is ∙ c.admission.ensures)

pub returns-in-Closed : goal.returns-in-Closed
returns-in-Closed c = ap number_of (sym c.in-Closed.is ∙ c.admission.ensures)

pub returns-in-Open : goal.returns-in-Open
returns-in-Open c = ap number_of (sym c.in-Open.is ∙ c.admission.ensures)
