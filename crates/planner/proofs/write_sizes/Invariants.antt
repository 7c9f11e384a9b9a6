-- The invariant: i sizes are written, and what they leave is left. Assumes nothing.
use Prim.Native.Nat.{◌*◌, ◌-◌, ◌≤◌}
use mathlib.Core.Path.{◌≡◌}
use lib.ListN.{length}
use Rattle.octets.specs.Octets.{put}
use Rattle.packet.specs.Frame.{largest_piece}
use Rattle.planner.specs.Plan.{words}
use Rattle.planner.specs.Form.{planned}
use Rattle.planner.proofs.write_sizes.Given as goal

abbrev pub invariant-loop-i : goal.invariant-loop-i
invariant-loop-i l =
    (l.i ≤ l.count) × (length l.out ≡ length l.initial.out) × (l.left ≡ l.total - largest_piece * l.i) ×
    (l.out ≡ put l.initial.out 0 (words (planned l.i l.total)))
