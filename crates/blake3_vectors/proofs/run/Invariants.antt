-- No more vectors are right than were run.
use Rattle.std.proofs.Common.{◌≤◌}
use Rattle.blake3_vectors.proofs.run.Given as goal

abbrev pub invariant-loop-line : goal.invariant-loop-line
invariant-loop-line g l = l.right ≤ l.line-index
