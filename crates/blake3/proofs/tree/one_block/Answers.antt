-- `blake3::tree::one_block` meets its contract: a chunk of one block has the key before it. Assumes nothing.
use Rattle.std.proofs.Common.{sym, refl, ◌∙◌, arith}
use Rattle.blake3.specs.Tree.{before}
use Rattle.blake3.specs.Laws.{node-chunk}
use Rattle.blake3.proofs.Laws.{ended}
use Rattle.blake3.proofs.tree.one_block.Goals as goal

pub returns : goal.returns
unfolding before
returns c =
    let g = c.args in
    let m = g.mode.now in
    let s = g.s.now in
    c.last_node.ensures ∙ ended m.key m.flags s 0 0 (omega arith) (omega arith) refl
    ∙ sym (node-chunk m.key m.flags s 0 (omega arith))
