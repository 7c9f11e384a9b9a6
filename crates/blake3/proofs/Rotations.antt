-- The library's rotation is the specification's: the two shifted parts have no bit in common, so that `or` adds
-- them. Assumes nothing.
use Rattle.std.proofs.Common.{◌≡◌, ℕ, ◌+◌, ◌-◌, ◌*◌, ◌/◌, ◌%◌, ◌^◌, ◌<◌, sym, ◌∙◌, subst, add-zero, le_of_lt}
use Rattle.std.proofs.Common.{add_comm, sub-add_cancel, shr_lt, Fits, arith}
use native.Mathlib.Nat.{mul-mod_left}
use lib.Pow.{mod-pow-add, shl-shr}
use lib.Bits.{bit_or, bit_xor, or_shifted_r}
use Rattle.std.proofs.lemmas.Nat.{xor_lt}
use Rattle.std.specs.Int.{rotate_right, w32}
use Rattle.blake3.specs.Words.{rotr}

-- the bits that a shift to the left keeps
shifted : (x k j : ℕ) → (x * 2 ^ j) % 2 ^ (k + j) ≡ x % 2 ^ k * 2 ^ j
shifted x k j = mod-pow-add (x * 2 ^ j) k j ∙ rw (shl-shr x j, mul-mod_left x (2 ^ j), add-zero)

joined : (x k j : ℕ) → x < 2 ^ (j + k)
    → bit_or (x / 2 ^ k) ((x * 2 ^ j) % 2 ^ (j + k)) ≡ x % 2 ^ k * 2 ^ j + x / 2 ^ k
joined x k j h = rw (add_comm j k, shifted x k j) (or_shifted_r (x % 2 ^ k) j (x / 2 ^ k) (shr_lt j k h))

pub rotated : (x k : ℕ) → x < 2 ^ 32 → 0 < k → k < 32 → rotate_right w32 x k ≡ rotr x k
unfolding rotr
rotated x k h p l =
    let e : (32 - k) + k ≡ 32 = sub-add_cancel (le_of_lt l) in
    let a : k % 32 ≡ k = omega arith in
    let b : (32 - k) % 32 ≡ 32 - k = omega arith in
    rw (a, b)
    (subst (λ (n : ℕ). bit_or (x / 2 ^ k) ((x * 2 ^ (32 - k)) % 2 ^ n) ≡ x % 2 ^ k * 2 ^ (32 - k) + x / 2 ^ k) e
    (joined x k (32 - k) (subst (λ (n : ℕ). x < 2 ^ n) (sym e) h)))

-- .. also of two words that are joined by xor
pub mixed : (x y k : ℕ) {r : ℕ} → Fits w32 x → y < 2 ^ 32 → 0 < k → k < 32
    → r ≡ rotate_right w32 (bit_xor x y) k → r ≡ rotr (bit_xor x y) k
mixed x y k f h p l e = e ∙ rotated (bit_xor x y) k (xor_lt 32 x y f.fits h) p l
