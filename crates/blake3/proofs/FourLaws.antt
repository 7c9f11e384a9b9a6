-- Laws of four chunks: the node over them, and the value of a chunk from the value before its last block.
-- Assumes nothing.
use Rattle.std.proofs.Common.{◌≡◌, ℕ, zero, suc, ◌+◌, ◌-◌, ◌*◌, ◌/◌, ◌<◌, ◌≤◌, List, length, take, drop, sym, refl, ap}
use Rattle.std.proofs.Common.{◌∙◌, le_of_lt, arith, length-drop, length-take-le, take_all, get_or-take, take-take, drop-drop}
use Rattle.std.proofs.lemmas.List.{drop-take}
use lib.Bits.{bit_or}
use Rattle.blake3.specs.Compression.{chaining}
use Rattle.blake3.specs.Tree.{block_len, chunk_len, chunk_end, block_at, flags_at, before, last_node}
use Rattle.blake3.specs.Tree.{chunk_node, parent_node, node}
use Rattle.blake3.specs.Split.{Left}
use Rattle.blake3.specs.Laws.{node-chunk, node-parent}
use Rattle.blake3.specs.FourChunks.{last_block, block_node, end_node, value_at}
use Rattle.blake3.proofs.Laws.{ended}
use Rattle.blake3.proofs.BlockLaws.{same_word}
use Rattle.blake3.proofs.TableLaws.{ext}

module _ (key : List ℕ) (mode : ℕ) where
  -- two chunks, the second of which may be short
  pair : (s : List ℕ) (t : ℕ) → chunk_len < length s → length s ≤ 2 * chunk_len
      → node key mode s t
      ≡ parent_node key mode (chaining (chunk_node key mode (take chunk_len s) t))
      (chaining (chunk_node key mode (drop chunk_len s) (t + 1)))
  pair s t lo hi =
      let l : Left (length s) chunk_len = record { height = 0; chunks = refl; below = lo; most = hi } in
      node-parent key mode s t chunk_len l
      ∙ (λ i. parent_node key mode
      (chaining (node-chunk key mode (take chunk_len s) t (omega (arith, length-take-le chunk_len s (le_of_lt lo))) i))
      (chaining (node-chunk key mode (drop chunk_len s) (t + 1) (omega (arith, length-drop chunk_len s)) i)))

  -- three whole chunks and a last one
  pub four_is : (s : List ℕ) (t : ℕ) → 3 * chunk_len < length s → length s ≤ 4 * chunk_len
      → let v = value_at key mode s t in node key mode s t
      ≡ parent_node key mode (chaining (parent_node key mode (v 0) (v 1))) (chaining (parent_node key mode (v 2) (v 3)))
  four_is s t lo hi =
      let half = 2 * chunk_len in
      let l : Left (length s) half = record { height = 1; chunks = refl; below = omega arith; most = omega arith } in
      let a = length-take-le half s (omega arith) in
      let b = length-drop half s in
      let v : List ℕ → ℕ → List ℕ = λ x n. chaining (chunk_node key mode x n) in
      let e0 : take chunk_len (take half s) ≡ take chunk_len s = take-take chunk_len half s (omega arith) in
      let e1 : drop chunk_len (take half s) ≡ take chunk_len (drop chunk_len s) = drop-take chunk_len chunk_len s in
      let e3 : drop chunk_len (drop half s) ≡ take chunk_len (drop (3 * chunk_len) s) =
      drop-drop chunk_len half s
      ∙ sym (take_all chunk_len (drop (3 * chunk_len) s) (omega (arith, length-drop (3 * chunk_len) s))) in
      let q3 : t + 2 + 1 ≡ t + 3 = omega arith in
      let q0 : t ≡ t + 0 = omega arith in
      node-parent key mode s t half l
      ∙ (λ i. parent_node key mode (chaining (pair (take half s) t (omega (arith, a)) (omega (arith, a)) i))
      (chaining (pair (drop half s) (t + 2) (omega (arith, b)) (omega (arith, b)) i)))
      ∙ (λ i. parent_node key mode (chaining (parent_node key mode (v (e0 i) (q0 i)) (v (e1 i) (t + 1))))
      (chaining (parent_node key mode (v (take chunk_len (drop half s)) (t + 2)) (v (e3 i) (q3 i)))))

-- a block of a chunk is one of any list that starts with the chunk
block-take : (x : List ℕ) (i : ℕ) → i < 16 → block_at (take chunk_len x) i ≡ block_at x i
unfolding block_at
block-take x i h =
    ext _ _ 16
    (λ k q. let p = block_len * i + 4 * k in same_word _ _ p p (λ j l. get_or-take chunk_len x _ 0 (omega arith)))

module _ (key : List ℕ) (mode : ℕ) (x : List ℕ) (t : ℕ) where
  before-take : (i : ℕ) → i ≤ 16 → before key mode (take chunk_len x) t i ≡ before key mode x t i
  unfolding before
  before-take zero h = refl
  before-take (suc i) h =
      λ z. chaining (record {
        input = before-take i (omega arith) z;
        block = block-take x i (omega arith) z;
        counter = t;
        size = block_len;
        flags = flags_at mode i;
      })

  -- a whole chunk, from the value before its last block
  pub whole : chunk_len ≤ length x → {h : List ℕ} → h ≡ before key mode x t last_block
      → chaining (block_node x 0 last_block t (bit_or mode chunk_end) h)
      ≡ chaining (chunk_node key mode (take chunk_len x) t)
  unfolding chunk_node last_node flags_at
  whole l e =
      let n = length-take-le chunk_len x l in
      let q : (length (take chunk_len x) - 1) / block_len ≡ last_block = omega (arith, n) in
      let r : block_len ≡ length (take chunk_len x) - block_len * last_block = omega (arith, n) in
      (λ z. chaining (record {
        input = (e ∙ sym (before-take last_block (omega arith))) z;
        block = sym (block-take x last_block (omega arith)) z;
        counter = t;
        size = r z;
        flags = bit_or mode chunk_end;
      }))
      ∙ ap (λ (i : ℕ). chaining (last_node key mode (take chunk_len x) t i)) (sym q)

  -- a last chunk, from the value before its last block
  pub short : length x ≤ chunk_len → (i : ℕ) → block_len * i ≤ length x - 1 → length x ≤ block_len * i + block_len
      → {h : List ℕ} → h ≡ before key mode x t i
      → chaining (end_node mode x t i h) ≡ chaining (chunk_node key mode (take chunk_len x) t)
  short m i a b e =
      ap chaining (ended key mode x t i a b e)
      ∙ ap (λ (y : List ℕ). chaining (chunk_node key mode y t)) (sym (take_all chunk_len x m))

-- what holds of 0 to 3 holds below 4
pub among : (P : ℕ → Type 0) → P 0 → P 1 → P 2 → P 3 → (j : ℕ) → j < 4 → P j
among P a b c d zero h = a
among P a b c d (suc zero) h = b
among P a b c d (suc (suc zero)) h = c
among P a b c d (suc (suc (suc zero))) h = d
among P a b c d (suc (suc (suc (suc j)))) h = absurd (omega arith)
