-- `blake3::tree::subtree` meets its contract: a chunk, or the two subtrees that the definition splits into.
-- Assumes nothing.
use Rattle.std.proofs.Common.{ℕ, ◌+◌, ◌/◌, List, sym, ap, ◌∙◌}
use Rattle.std.proofs.lemmas.List.{take_rest}
use Rattle.blake3.specs.Compression.{chaining}
use Rattle.blake3.specs.Tree.{parent_node, node}
use Rattle.blake3.specs.Laws.{node-chunk, node-parent}
use Rattle.blake3.proofs.tree.+subtree.Goals as goal

pub returns-then-n-le-CHUNK : goal.returns-then-n-le-CHUNK
returns-then-n-le-CHUNK t c =
    let g = c.args in
    let m = g.mode.now in
    c.chunk_node.ensures ∙ sym (node-chunk m.key m.flags g.s.now g.t c.if-n-le-CHUNK.true)

pub returns : goal.returns
returns t c =
    let g = c.args in
    let m = g.mode.now in
    let s = g.s.now in
    let p = c.left-p.result in
    let l = c.chaining-l.ensures ∙ ap chaining c.subtree.ensures in
    let back = ap (λ (x : List ℕ). node m.key m.flags x (g.t + p / 1024)) (take_rest s p) in
    let r = c.chaining-r.ensures ∙ ap chaining (c.subtree-2.ensures ∙ back) in
    c.parent_node.ensures ∙ (λ i. parent_node m.key m.flags (l i) (r i))
    ∙ sym (node-parent m.key m.flags s g.t p c.left-p.ensures)
