-- `blake3::lanes::round` meets its contract: the lanes below j are rounded, the others as they were.
-- Assumes nothing.
use Rattle.blake3.specs.Rounds.{round, permute}
use Rattle.blake3.specs.Lanes.{lane}
use Rattle.blake3.proofs.LaneLaws.{Until}
use Rattle.blake3.proofs.lanes.round.Given as goal

abbrev pub invariant-loop-j : goal.invariant-loop-j
invariant-loop-j l =
    Until 16 (λ i. round (lane 16 i l.initial.v) (lane 16 i l.initial.m)) (λ i. lane 16 i l.initial.v) l.v l.j
    × Until 16 (λ i. permute (lane 16 i l.initial.m)) (λ i. lane 16 i l.initial.m) l.m l.j
