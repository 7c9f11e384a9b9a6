-- The digits so far are those of the first i bytes. Assumes nothing.
use mathlib.Core.Path.{◌≡◌}
use Prim.Native.Nat.{◌*◌}
use lib.ListN.{length, take}
use Rattle.sums.specs.Line.{hexadecimal}
use Rattle.sums.proofs.line.hexadecimal.Given as goal

abbrev pub invariant-loop-i : goal.invariant-loop-i
invariant-loop-i l = (length l.text ≡ 64) × (take (2 * l.i) l.text ≡ hexadecimal (take l.i l.sum))
