-- The invariant: the first i bytes of src stand in d from a on. Assumes nothing.
use mathlib.Core.Path.{◌≡◌}
use lib.ListN.{length, take}
use Rattle.octets.specs.Octets.{put}
use Rattle.octets.proofs.copy_in.Given as goal

abbrev pub invariant-loop-i : goal.invariant-loop-i
invariant-loop-i l = (length l.d ≡ length l.initial.d) × (l.d ≡ put l.initial.d l.a (take l.i l.src))
