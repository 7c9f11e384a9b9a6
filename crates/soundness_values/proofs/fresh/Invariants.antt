-- Each prefix counts at most once.
use Rattle.std.proofs.Common.{◌≤◌}
use Rattle.soundness_values.proofs.fresh.Given as goal

abbrev pub invariant-loop-k : goal.invariant-loop-k
invariant-loop-k l = l.n ≤ l.k
