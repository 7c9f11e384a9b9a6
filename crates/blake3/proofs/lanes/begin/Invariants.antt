-- `blake3::lanes::begin` meets its contract: the lanes below j have begun. Assumes nothing.
use Rattle.blake3.specs.Compression.{start}
use Rattle.blake3.specs.Lanes.{lane}
use Rattle.blake3.specs.FourChunks.{lane_node}
use Rattle.blake3.proofs.LaneLaws.{Until}
use Rattle.blake3.proofs.lanes.begin.Given as goal

abbrev pub invariant-loop-j : goal.invariant-loop-j
invariant-loop-j l =
    Until 16 (λ k. start (lane_node l.s l.c l.i l.f l.h k)) (λ k. lane 16 k l.initial.v) l.v l.j
    × Until 16 (λ k. (lane_node l.s l.c l.i l.f l.h k).block) (λ k. lane 16 k l.initial.m) l.m l.j
