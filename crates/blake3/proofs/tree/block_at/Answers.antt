-- `blake3::tree::block_at` meets its contract: a block that is cut is filled up with zeros. Assumes nothing.
use Rattle.std.proofs.Common.{◌+◌, ◌*◌, ◌∙◌, get_or, rules}
use Rattle.blake3.specs.Tree.{block_len}
use Rattle.blake3.proofs.BlockLaws.{block_padded}
use Rattle.blake3.proofs.TableLaws.{tabled}
use Rattle.blake3.proofs.tree.block_at.Goals as goal

pub returns : goal.returns
returns c =
    let s = c.args.s.now in
    c.whole_block-2.ensures
    ∙ block_padded s c.args.i (tabled (λ k. get_or s (block_len * c.args.i + k) 0) c.from_fn-padded.ensures.items (λ i y q k. search rules))
