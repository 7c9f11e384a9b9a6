-- What the code's split of a subtree is: PROTOCOL, "Sums".
use Rattle.std.specs.Prelude.{◌≡◌, ℕ, ◌*◌, ◌^◌, ◌<◌, ◌≤◌}
use Rattle.blake3.specs.Tree.{chunk_len}

-- r bytes are the largest power of two of 1,024-byte chunks below n bytes
pub record Left (n r : ℕ) : Type 0 where
  pub height : ℕ
  pub chunks : r ≡ chunk_len * 2 ^ height
  pub below : r < n
  pub most : n ≤ 2 * r
