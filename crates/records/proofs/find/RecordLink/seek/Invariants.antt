-- The invariant: from the link that is reached, the search ends where it ends from the first. Assumes nothing.
use Rattle.records.proofs.Following.{Following}
use Rattle.records.proofs.find.RecordLink.seek.Given as goal

abbrev pub invariant-loop-n : goal.invariant-loop-n
invariant-loop-n l = Following l.id l.self.store.now l.self.at l.here l.n
