-- `blake3::tree::four_chunks` meets its contract: the parents of four chunks. Assumes nothing.
use Rattle.std.proofs.Common.{sym, ap, ◌∙◌, arith}
use Rattle.blake3.specs.Compression.{chaining}
use Rattle.blake3.specs.Tree.{parent_node}
use Rattle.blake3.proofs.FourLaws.{four_is}
use Rattle.blake3.proofs.tree.four_chunks.Goals as goal

pub returns : goal.returns
returns c =
    let g = c.args in
    let m = g.mode.now in
    let parent = parent_node m.key m.flags in
    let value = c.chunk_values-h.ensures.1 in
    let x0 = c.lane.ensures ∙ value 0 (omega arith) in
    let x1 = c.lane-2.ensures ∙ value 1 (omega arith) in
    let x2 = c.lane-3.ensures ∙ value 2 (omega arith) in
    let x3 = c.lane-4.ensures ∙ value 3 (omega arith) in
    let l = c.chaining-l.ensures ∙ ap chaining (c.parent_node.ensures ∙ (λ z. parent (x0 z) (x1 z))) in
    let r = c.chaining-r.ensures ∙ ap chaining (c.parent_node-2.ensures ∙ (λ z. parent (x2 z) (x3 z))) in
    c.parent_node-3.ensures ∙ (λ z. parent (l z) (r z))
    ∙ sym (four_is m.key m.flags g.s.now g.t c.requires.0 c.requires.1)
