-- The invariant: the rest, scanned from here on, gives what all gives. Assumes nothing.
use mathlib.Core.Path.{◌≡◌}
use Rattle.soundness.specs.Places.{places}
use Rattle.soundness.specs.Walked.{pieces_marked}
use Rattle.soundness.proofs.store.Store.pieces_marked.Given as goal

abbrev pub invariant-loop-x : goal.invariant-loop-x
invariant-loop-x l =
    (goal.iterator-loop-x).can_next l.x-iterator × (goal.iterator-loop-x).is_finite l.x-iterator
    × (pieces_marked l.self.cells l.self.role l.self.bytes.now (places l.fn.records) l.initial.marks
    ≡ pieces_marked l.self.cells l.self.role l.self.bytes.now (places l.x-iterator) l.marks)
