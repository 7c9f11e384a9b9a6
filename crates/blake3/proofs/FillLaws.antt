-- A buffer is filled block by block with the output of a root. Assumes nothing.
use Rattle.std.proofs.Common.{◌≡◌, ℕ, ◌+◌, ◌*◌, ◌<◌, ◌≤◌, List, length, take, sym, ap, ◌∙◌}
use Rattle.std.proofs.Common.{append-nil, arith, length-append, length-take-le}
use Rattle.octets.specs.Octets.{put}
use Rattle.octets.specs.PartsLaws.{put-nil, put_whole, more}
use Rattle.blake3.specs.Compression.{root_block}
use Rattle.blake3.specs.Tree.{block_len, bytes, output_blocks, output}
use Rattle.blake3.specs.Laws.{length-block, length-blocks, blocks_more, output-is}
use Rattle.blake3.specs.declared.node.Node.{Node}

-- m is `out` with the first i blocks of the root r
abbrev pub Filled : Node → List ℕ → ℕ → List ℕ → Type 0
Filled r out i m = m ≡ put out 0 (output_blocks r 0 i)

module _ (r : Node) (out : List ℕ) where
  pub filled_none : Filled r out 0 out
  unfolding output_blocks
  filled_none = sym (put-nil out 0)

  module _ (i : ℕ) {m : List ℕ} (so_far : Filled r out i m) where
    size : length (output_blocks r 0 i) ≡ block_len * i
    size = length-blocks r 0 i

    -- one block more
    pub filled_more : {l b : List ℕ} → b ≡ bytes block_len (root_block r i) → l ≡ put m (block_len * i) b
        → block_len * i + block_len ≤ length out → Filled r out (i + 1) l
    filled_more {l} e w h =
        more out m l 0 (block_len * i) (output_blocks r 0 i) (bytes block_len (root_block r i)) so_far
        (w ∙ ap (put m (block_len * i)) e) (omega (arith, size)) (omega (arith, size))
        ∙ ap (put out 0) (sym (blocks_more r i))

    -- no byte is left
    pub filled-all : length out ≡ block_len * i → m ≡ output r (length out)
    filled-all h =
        so_far ∙ put_whole out (output_blocks r 0 i) (omega (arith, size))
        ∙ sym (output-is r (length out) i 0 (omega arith) (omega arith) ∙ append-nil (output_blocks r 0 i))

    -- the last k bytes, of a block that is cut
    pub filled-rest : (k : ℕ) {l b : List ℕ} → b ≡ bytes block_len (root_block r i)
        → l ≡ put m (block_len * i) (take k b) → length out ≡ block_len * i + k → k < block_len
        → l ≡ output r (length out)
    filled-rest k {l} e w h g =
        let last = take k (bytes block_len (root_block r i)) in
        let n : length last ≡ k = length-take-le k _ (omega (arith, length-block r i)) in
        more out m l 0 (block_len * i) (output_blocks r 0 i) last so_far
        (w ∙ ap (λ (x : List ℕ). put m (block_len * i) (take k x)) e)
        (omega (arith, size)) (omega (arith, size))
        ∙ put_whole out _ (length-append (output_blocks r 0 i) last ∙ omega (arith, size, n, h))
        ∙ sym (output-is r (length out) i k h g)
