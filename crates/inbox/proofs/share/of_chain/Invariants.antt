-- The invariant: the sum with what the rest holds is what all hold, and it stays small. Assumes nothing.
use Prim.Native.Nat.{suc, ◌+◌, ◌*◌, ◌≤◌}
use mathlib.Core.Path.{◌≡◌}
use mathlib.Core.List.{map}
use lib.ListN.{length}
use Rattle.machine.specs.Limits.{most_cells}
use Rattle.machine.specs.Layout.{read_rec}
use Rattle.machine.specs.Sources.{held_by}
use Rattle.soundness.specs.Places.{places}
use Rattle.inbox.proofs.share.of_chain.Given as goal

abbrev pub invariant-loop-x : goal.invariant-loop-x
invariant-loop-x g l =
    let read = read_rec l.store.bytes.now in
    let all = places l.fn.records in
    let rest = places l.x-iterator in
    (goal.iterator-loop-x g).can_next l.x-iterator × (goal.iterator-loop-x g).is_finite l.x-iterator
    × (l.sum + held_by l.source (map read rest) ≡ held_by l.source (map read all))
    × (l.sum + suc most_cells * length rest ≤ suc most_cells * length all)
