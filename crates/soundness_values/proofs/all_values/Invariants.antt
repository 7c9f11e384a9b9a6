-- Each byte counts 256 times at most.
use Rattle.std.proofs.Common.{◌≡◌, ◌*◌, ◌≤◌}
use Rattle.soundness_values.proofs.all_values.Given as goal

abbrev pub invariant-loop-k : goal.invariant-loop-k
invariant-loop-k l = (l.k-iterator.end ≡ l.fn.bytes.end) × (l.n ≤ 256 * l.k-iterator.start)
