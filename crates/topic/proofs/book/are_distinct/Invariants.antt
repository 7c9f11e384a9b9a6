-- `topic::book::are_distinct` meets its contract: the loop keeps that the entries left tell what all tell. Assumes nothing.
use Rattle.std.proofs.Common.{◌≡◌, length}
use Rattle.topic.specs.Book.{distinct}
use Rattle.topic.specs.Held.{held_entries}
use Rattle.topic.proofs.book.are_distinct.Given as goal

abbrev pub invariant-loop-entry : goal.invariant-loop-entry
invariant-loop-entry l = distinct (held_entries l.entries) ≡ distinct (held_entries l.fn.entries)

abbrev pub decreases-loop-entry : goal.decreases-loop-entry
decreases-loop-entry l = length (held_entries l.entries)
