use Rattle.std.proofs.Common.{◌+◌, refl}
use Rattle.blake3.specs.FourChunks.{from}
use Rattle.blake3.proofs.Laws.{next}
use Rattle.blake3.proofs.lanes.blocks.Goals as goal

pub loop-i-preserved : goal.loop-i-preserved
loop-i-preserved c =
    let l = c.loop-i in
    let g = c.args in
    let r = c.step.ensures in (
      r.0,
      λ j q key y. next key g.c.mode (from g.s.now g.c j) (g.c.first + j) l.i
          (l.invariant.1 j q key y) refl c.flags_at.ensures (r.1 j q),
    )
