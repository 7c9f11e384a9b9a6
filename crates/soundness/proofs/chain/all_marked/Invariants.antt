-- The invariant: whether as many places as were read are all marked. Assumes nothing.
use mathlib.Core.Path.{◌≡◌}
use Rattle.machine_laws.specs.Marks.{all_marked}
use Rattle.soundness.proofs.chain.all_marked.Given as goal

abbrev pub invariant-loop-mark : goal.invariant-loop-mark
invariant-loop-mark l = l.all ≡ all_marked l.marks l.mark-index
