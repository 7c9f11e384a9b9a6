-- `blake3::output::fill` meets its contract: the first i blocks are written, then what is left of the next.
-- Assumes nothing.
use Rattle.blake3.proofs.FillLaws.{Filled}
use Rattle.blake3.proofs.output.fill.Given as goal

abbrev pub invariant-loop-i : goal.invariant-loop-i
invariant-loop-i l = Filled l.n l.initial.out l.i l.out
