-- `blake3::lanes::blocks` meets its contract: each lane is carried to where the loop is. Assumes nothing.
use Rattle.blake3.specs.FourChunks.{Carried}
use Rattle.blake3.proofs.lanes.blocks.Given as goal

abbrev pub invariant-loop-i : goal.invariant-loop-i
invariant-loop-i l = Carried l.s l.c l.a l.i l.initial.h l.h
