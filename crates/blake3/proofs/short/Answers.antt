-- `blake3::short` meets its contract: the first half of the root's first block. Assumes nothing.
use Rattle.blake3.specs.Compression.{compress, root_block}
use Rattle.blake3.specs.Tree.{bytes, output_blocks, output, sum_by}
use Rattle.blake3.proofs.short.Goals as goal

pub returns : goal.returns
unfolding sum_by output output_blocks bytes root_block compress
returns c = rw (c.bytes.ensures, c.root_block.ensures, c.root.ensures)
