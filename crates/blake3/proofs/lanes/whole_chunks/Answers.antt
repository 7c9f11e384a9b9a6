-- `blake3::lanes::whole_chunks` meets its contract: each lane is carried to its chunk's last block, and over it.
-- Assumes nothing.
use Rattle.std.proofs.Common.{◌+◌, ◌∙◌, arith, length-drop}
use Rattle.blake3.specs.Words.{word}
use Rattle.blake3.specs.FourChunks.{from}
use Rattle.blake3.proofs.FourLaws.{whole}
use Rattle.blake3.proofs.lanes.whole_chunks.Goals as goal

pub returns : goal.returns
returns c =
    let g = c.args in
    let p = c.requires in
    let s = g.s.now in
    let r = c.step.ensures in (
      r.0,
      λ j q key y. r.1 j q
          ∙ whole key g.c.mode (from s g.c j) (g.c.first + j)
          (omega (arith, p.1.0 j q, length-drop (word g.c.at j) s))
          (c.blocks-2.ensures.1 j q key y),
    )
