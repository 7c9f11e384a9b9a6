-- The invariant: the sum with what the rest holds is what all hold, and it stays small. Assumes nothing.
use Prim.Native.Nat.{suc, ◌+◌, ◌*◌, ◌≤◌}
use mathlib.Core.Path.{◌≡◌}
use lib.ListN.{length}
use Rattle.machine.specs.Limits.{rec_count}
use Rattle.machine.specs.Counting.{total}
use Rattle.soundness.specs.Places.{places}
use Rattle.soundness.specs.Walked.{share_at}
use Rattle.soundness.proofs.store.Store.shares.Given as goal

abbrev pub invariant-loop-y : goal.invariant-loop-y
invariant-loop-y l =
    let share = share_at l.self.bytes.now l.counts l.x.number in
    let rest = places l.y-iterator in
    (goal.iterator-loop-y).can_next l.y-iterator × (goal.iterator-loop-y).is_finite l.y-iterator
    × (l.sum + total share rest ≡ total share (places l.fn.records)) × (l.sum + 256 * length rest ≤ 256 * suc rec_count)
