-- Each value counts at most once.
use Rattle.std.proofs.Common.{◌≤◌}
use Rattle.soundness_values.proofs.values.Given as goal

abbrev pub invariant-loop-v : goal.invariant-loop-v
invariant-loop-v l = l.n ≤ l.v
