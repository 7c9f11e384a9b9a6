use Rattle.std.proofs.Common.{◌+◌, ◌<◌, ap, ◌∙◌, arith, rules}
use Rattle.blake3.specs.Compression.{start}
use Rattle.blake3.specs.Words.{word}
use Rattle.blake3.specs.FourChunks.{block_node}
use Rattle.blake3.specs.declared.node.Node.{Node}
use Rattle.blake3.proofs.LaneLaws.{more}
use Rattle.blake3.proofs.lanes.begin.Goals as goal

pub loop-j-preserved : goal.loop-j-preserved
loop-j-preserved c =
    let l = c.loop-j in
    let u = l.invariant in
    let g = c.args in
    let h : l.j < 4 = omega arith in
    let node = c.node_at-n.ensures
    ∙ ap (block_node g.s.now (word g.c.at l.j) g.i (g.c.first + l.j) g.f) c.lane.ensures in (
      more u.0 h (search rules) (c.start.ensures ∙ ap start node) c.put.ensures,
      more u.1 h (search rules) (ap (λ (n : Node). n.block) node) c.put-in-loop-j.ensures,
    )
