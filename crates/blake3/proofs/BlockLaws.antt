-- A block that is cut, filled up with zeros, has the same words. Assumes nothing.
use Rattle.std.proofs.Common.{◌≡◌, ℕ, ◌+◌, ◌*◌, ◌<◌, List, get_or}
use Rattle.std.proofs.Common.{sym, ap, ◌∙◌, add-zero, arith}
use Rattle.blake3.specs.Words.{table}
use Rattle.blake3.specs.Laws.{table_at}
use Rattle.blake3.specs.Tree.{block_len, word_at, block_at}
use Rattle.blake3.proofs.TableLaws.{ext}

-- the same bytes make the same word
pub same_word : (x y : List ℕ) (p q : ℕ) → ((j : ℕ) → j < 4 → get_or x (p + j) 0 ≡ get_or y (q + j) 0)
    → word_at x p ≡ word_at y q
unfolding word_at
same_word x y p q h =
    let e : get_or x p 0 ≡ get_or y q 0 =
    (λ t. get_or x (sym (add-zero p) t) 0) ∙ h 0 (omega arith) ∙ (λ t. get_or y (add-zero q t) 0) in
    rw (e, h 1 (omega arith), h 2 (omega arith), h 3 (omega arith))

-- a block that is cut: its bytes one by one, and 0 past the end
pub block_padded : (s : List ℕ) (i : ℕ) {z : List ℕ} → z ≡ table (λ k. get_or s (block_len * i + k) 0) 0 block_len → block_at z 0 ≡ block_at s i
unfolding block_at
block_padded s i e =
    let h : ℕ → ℕ = λ k. get_or s (block_len * i + k) 0 in
    ext _ _ 16
    (λ k b. same_word _ _ (block_len * 0 + 4 * k) (block_len * i + 4 * k)
    (λ j d. let q : block_len * i + (block_len * 0 + 4 * k + j) ≡ block_len * i + 4 * k + j = omega arith in
    ap (λ (y : List ℕ). get_or y (block_len * 0 + 4 * k + j) 0) e
    ∙ table_at h block_len (block_len * 0 + 4 * k + j) (omega arith) ∙ ap (λ (n : ℕ). get_or s n 0) q))
