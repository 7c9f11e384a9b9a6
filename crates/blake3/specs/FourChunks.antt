-- Four chunks of an input in four lanes, block by block. A `Chunks` says where they start, and has the counter of the first and the mode. Assumes nothing.
use Rattle.std.specs.Prelude.{◌≡◌, ℕ, ◌+◌, ◌-◌, ◌*◌, ◌^◌, ◌<◌, ◌≤◌, List, length, take, drop, bit_or}
use Rattle.blake3.specs.Words.{word}
use Rattle.blake3.specs.Compression.{start, chaining}
use Rattle.blake3.specs.Tree.{block_len, chunk_len, chunk_end, block_at, flags_at, before, chunk_node}
use Rattle.blake3.specs.Lanes.{lane, Lanes, Each}
use Rattle.blake3.specs.declared.node.Node.{Node}
use Rattle.blake3.specs.declared.lanes.Chunks.{Chunks}

-- the last block of a whole chunk
abbrev pub last_block : ℕ
last_block = 15

-- the node of block i, which is whole, of the chunk at a, which is chunk t of the input, with h before it and the flags f
abbrev pub block_node : List ℕ → ℕ → ℕ → ℕ → ℕ → List ℕ → Node
block_node s a i t f h = record { input = h; block = block_at (drop a s) i; counter = t; size = block_len; flags = f }

-- the node of block i, the last one of the chunk s, which is chunk t of the input, with h before it
abbrev pub end_node : ℕ → List ℕ → ℕ → ℕ → List ℕ → Node
end_node mode s t i h =
    record { input = h; block = block_at s i; counter = t; size = length s - block_len * i; flags = bit_or (flags_at mode i) chunk_end }

module _ (s : List ℕ) (c : Chunks) where
  -- the first n bytes of each chunk lie in s, and each chunk has a counter
  abbrev pub Inside : ℕ → Type 0
  Inside n = ((j : ℕ) → j < 4 → word c.at j + n ≤ length s) × (c.first + 4 < 2 ^ 64)

  -- s from the chunk of lane j on
  abbrev pub from : ℕ → List ℕ
  from j = drop (word c.at j) s

  -- the node of block i of lane j, with the lane's value in h before it
  abbrev pub lane_node : ℕ → ℕ → List ℕ → ℕ → Node
  lane_node i f h j = block_node s (word c.at j) i (c.first + j) f (lane 8 j h)

  -- block i of each lane before the first round: its state in v, its message words in m
  abbrev pub Begun : ℕ → ℕ → List ℕ → List ℕ → List ℕ → Type 0
  Begun i f h v m = Each 16 v (λ j. start (lane_node i f h j)) × Each 16 m (λ j. (lane_node i f h j).block)

  -- the chaining values h' after block i of each lane, from h
  abbrev pub Stepped : ℕ → ℕ → List ℕ → List ℕ → Type 0
  Stepped i f h h' = Each 8 h' (λ j. chaining (lane_node i f h j))

  -- the chaining value before block i of the chunk of lane j
  abbrev pub value_before : List ℕ → ℕ → ℕ → List ℕ
  value_before key i j = before key c.mode (from j) (c.first + j) i

  -- a lane that has its chunk's value before block a in h has, in h', its chunk's value before block e
  abbrev pub Carried : ℕ → ℕ → List ℕ → List ℕ → Type 0
  Carried a e h h' =
      Lanes 8 h' × ((j : ℕ) → j < 4 → (key : List ℕ) → lane 8 j h ≡ value_before key a j → lane 8 j h' ≡ value_before key e j)

  -- .. or, where the chunk is whole, the chaining value of all of it
  abbrev pub Ended : ℕ → List ℕ → List ℕ → Type 0
  Ended a h h' =
      Lanes 8 h'
      × ((j : ℕ) → j < 4 → (key : List ℕ) → lane 8 j h ≡ value_before key a j
      → lane 8 j h' ≡ chaining (chunk_node key c.mode (take chunk_len (from j)) (c.first + j)))

-- s is three whole chunks and a last one, the first of which is chunk t of the input
abbrev pub Four : List ℕ → ℕ → Type 0
Four s t = (3 * chunk_len < length s) × (length s ≤ 4 * chunk_len) × (t + 4 < 2 ^ 64)

-- the chaining value of chunk j of s
abbrev pub value_at : List ℕ → ℕ → List ℕ → ℕ → ℕ → List ℕ
value_at key mode s t j = chaining (chunk_node key mode (take chunk_len (drop (chunk_len * j) s)) (t + j))
