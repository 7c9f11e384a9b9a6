-- The invariant: the rest gives what all gives. Assumes nothing.
use mathlib.Core.Path.{◌≡◌}
use lib.ListN.{length}
use Rattle.machine.specs.Limits.{most_of_source}
use Rattle.soundness.specs.Places.{places}
use Rattle.soundness.specs.Walked.{fair_on}
use Rattle.soundness.proofs.store.Store.within.Given as goal

abbrev pub invariant-loop-x : goal.invariant-loop-x
invariant-loop-x l =
    let b = l.self.bytes.now in
    fair_on most_of_source b l.counts (places l.initial.records) (places l.others) ≡ fair_on most_of_source b l.counts (places l.records) (places l.others)

abbrev pub decreases-loop-x : goal.decreases-loop-x
decreases-loop-x l = length (places l.records)
