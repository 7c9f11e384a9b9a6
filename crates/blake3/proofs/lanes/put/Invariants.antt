-- `blake3::lanes::put` meets its contract: the words so far are put. Assumes nothing.
use Rattle.std.proofs.Common.{◌≡◌}
use Rattle.blake3.specs.Lanes.{put_lane}
use Rattle.blake3.proofs.lanes.put.Given as goal

abbrev pub invariant-loop-k : goal.invariant-loop-k
invariant-loop-k l = l.v ≡ put_lane l.k l.j l.w l.initial.v
