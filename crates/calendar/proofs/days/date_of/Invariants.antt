-- `calendar::days::date_of` meets its contract: the loop keeps where the day stands in the year. Assumes nothing.
use Rattle.calendar.proofs.Computed.{Spot}
use Rattle.calendar.proofs.days.date_of.Given as goal

abbrev pub invariant-loop-month : goal.invariant-loop-month
invariant-loop-month l = Spot l.day l.year l.month l.left
