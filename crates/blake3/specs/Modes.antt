-- BLAKE3's two modes with a key: the keyed hash and key derivation. Each is the tree and the output of Tree.antt with key words and flag bits of its own.
-- Assumes nothing.
use Rattle.std.specs.Prelude.{ℕ, ◌*◌, List}
use Rattle.blake3.specs.Words.{table}
use Rattle.blake3.specs.Rounds.{iv}
use Rattle.blake3.specs.Tree.{word_at, sum_by}

-- the flag bits of the keyed hash, and of the two stages of key derivation
abbrev pub keyed_flag : ℕ
keyed_flag = 16

abbrev pub context_flag : ℕ
context_flag = 32

abbrev pub material_flag : ℕ
material_flag = 64

-- the bytes of a key
abbrev pub key_len : ℕ
key_len = 32

-- the eight words of a key
unfoldable pub key_words : List ℕ → List ℕ
key_words k = table (λ i. word_at k (4 * i)) 0 8

-- the keyed hash of s under the key k, of n bytes
unfoldable pub keyed_hash : List ℕ → List ℕ → ℕ → List ℕ
keyed_hash k s n = sum_by (key_words k) keyed_flag s n

-- the key that a context gives: its sum under the starting words
unfoldable pub context_key : List ℕ → List ℕ
context_key context = sum_by iv context_flag context key_len

-- key derivation: the sum of the key material under the context's key, of n bytes
unfoldable pub derived_key : List ℕ → List ℕ → ℕ → List ℕ
derived_key context material n = sum_by (key_words (context_key context)) material_flag material n
