-- The invariant: what is left of the walk, scanned from here on, gives what the whole walk gives. Assumes nothing.
use Prim.Native.Nat.{◌-◌}
use mathlib.Core.Path.{◌≡◌}
use Rattle.machine.specs.Chains.{link, walk}
use Rattle.machine_laws.specs.Marks.{scan}
use Rattle.rows.specs.Asked.{row_fits}
use Rattle.soundness.specs.Walked.{row_of, chain_marked}
use Rattle.soundness.proofs.chain.marked.Given as goal

abbrev pub invariant-loop : goal.invariant-loop
invariant-loop l =
    let row = row_of l.t l.s in
    chain_marked l.t l.role l.holds l.s l.first l.initial.marks
    ≡ scan (λ p. row_fits l.role l.holds l.t.size (row p)) l.t.count (walk (link row) (l.t.steps - l.counter) l.x) l.marks
