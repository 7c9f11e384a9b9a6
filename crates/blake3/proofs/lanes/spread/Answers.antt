use Rattle.std.proofs.Common.{refl, arith, rules}
use Rattle.blake3.proofs.LaneLaws.{more}
use Rattle.blake3.proofs.lanes.spread.Goals as goal

pub loop-j-preserved : goal.loop-j-preserved
loop-j-preserved c = more c.loop-j.invariant (omega arith) (search rules) refl c.put.ensures
