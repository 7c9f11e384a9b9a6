-- The invariant: the pieces of the records ahead can be read, and the rest gives what all gives, counts too. Assumes nothing.
use mathlib.Core.Path.{◌≡◌}
use mathlib.Core.Bool.{true}
use lib.ListN.{length}
use Rattle.octets.specs.Lists.{all}
use Rattle.soundness.specs.Places.{places}
use Rattle.soundness.specs.Walked.{pieces_of, readable, records_fit, counted}
use Rattle.soundness.proofs.store.Store.records_fit.Given as goal

abbrev pub invariant-loop-x : goal.invariant-loop-x
invariant-loop-x l =
    let b = l.self.bytes.now in
    (all (readable l.self.cells b) (pieces_of b (places l.records)) ≡ true)
    × (records_fit l.kind b (places l.initial.records) (places l.others) ≡ records_fit l.kind b (places l.records) (places l.others))
    × (counted b (places l.initial.records) l.initial.counts ≡ counted b (places l.records) l.counts)

abbrev pub decreases-loop-x : goal.decreases-loop-x
decreases-loop-x l = length (places l.records)
