-- `blake3::lanes::spread` meets its contract: the lanes below j have the key. Assumes nothing.
use Rattle.blake3.specs.Lanes.{lane}
use Rattle.blake3.proofs.LaneLaws.{Until}
use Rattle.blake3.proofs.lanes.spread.Given as goal

abbrev pub invariant-loop-j : goal.invariant-loop-j
invariant-loop-j l = Until 8 (λ i. l.key) (λ i. lane 8 i l.initial.h) l.h l.j
