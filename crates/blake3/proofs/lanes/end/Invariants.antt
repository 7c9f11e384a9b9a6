-- `blake3::lanes::end` meets its contract: the lanes below j are those of the end. Assumes nothing.
use Rattle.blake3.specs.Words.{first}
use Rattle.blake3.specs.Compression.{finish}
use Rattle.blake3.specs.Lanes.{lane}
use Rattle.blake3.proofs.LaneLaws.{Until}
use Rattle.blake3.proofs.lanes.end.Given as goal

abbrev pub invariant-loop-j : goal.invariant-loop-j
invariant-loop-j l =
    Until 8 (λ i. first 8 (finish (lane 16 i l.v) (lane 8 i l.initial.h))) (λ i. lane 8 i l.initial.h) l.h l.j
