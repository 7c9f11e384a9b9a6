use Rattle.link.specs.Entries.{entries_of}
use Rattle.link.proofs.Puts.{Putting}
use Rattle.link.proofs.queue.put_all.Given as goal

abbrev pub invariant-loop-entry : goal.invariant-loop-entry
invariant-loop-entry l =
    (goal.iterator-loop-entry).can_next l.entry-iterator × (goal.iterator-loop-entry).is_finite l.entry-iterator
    × Putting l.initial.queue l.mark.tail l.mark.letters.now (entries_of l.run) l.queue (entries_of l.entry-iterator.0.now) l.end.tail l.end.letters.now
