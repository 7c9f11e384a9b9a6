-- The invariant: the first i rows are written. Assumes nothing.
use mathlib.Core.Path.{◌≡◌}
use lib.ListN.{length}
use Rattle.octets.specs.Octets.{put}
use Rattle.soundness.specs.Rising.{free_table}
use Rattle.soundness.proofs.fresh.put_rising.Given as goal

abbrev pub invariant-loop-i : goal.invariant-loop-i
invariant-loop-i l =
    (length l.store ≡ length l.initial.store) × (l.store ≡ put l.initial.store l.t.start (free_table l.t.size l.t.count l.i))
