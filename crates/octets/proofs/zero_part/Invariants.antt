-- The or of the bytes read is zero just where they are. Assumes nothing.
use Rattle.std.proofs.Common.{◌≡◌, take, nat_eq}
use Rattle.octets.specs.Octets.{zeros}
use Rattle.octets.proofs.zero_part.Given as goal

abbrev pub invariant-loop-x : goal.invariant-loop-x
invariant-loop-x l = nat_eq l.acc 0 ≡ zeros (take l.x-index l.x-items)
