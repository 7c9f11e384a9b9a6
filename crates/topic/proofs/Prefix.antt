-- From bits to bytes: what a mask keeps of a byte, and that the first 8 * q + j bits of two addresses agree where their first 8 * q bits do
-- and the first j bits of the next byte. Assumes nothing.
use Prim.Native.Nat.{ℕ, zero, suc, ◌+◌, ◌*◌, ◌-◌, ◌/◌, ◌%◌, ◌^◌, ◌≤◌, ◌<◌}
use native.Mathlib.Omega.{arith}
use native.Mathlib.Nat.{add-zero, add-suc}
use mathlib.Core.Path.{◌≡◌, refl, sym, ap, ◌∙◌}
use mathlib.Core.Bool.{Bool, true, false, ◌&&◌, and-true}
use mathlib.Core.List.{List, [], ◌∷◌}
use Rattle.std.specs.Cmp.Lexicographic.{pointwise}
use lib.ListN.{length, get_or, take}
use lib.Dec.{eqb}
use lib.Bits.{bit_and, and_high}
use lib.Pow.{pow_pos, pow_mono, low, shl-shr, shr-shr, shr_mod}
use borrow.Author.Tests.{eqb-true, eq-eqb}
use Rattle.octets.specs.BoolsLaws.{iff, split, both}
use Rattle.topic.specs.Subnet.{inside}

-- ---- a byte

-- the mask of the first 8 - k bits leaves those
masked : (x j k : ℕ) → j + k ≡ 8 → x < 256 → bit_and x ((255 * 2 ^ k) % 2 ^ 8) ≡ x / 2 ^ k * 2 ^ k
masked x j k e h =
    let p : 0 < 2 ^ k = pow_pos k in
    let q : 2 ^ k ≤ 2 ^ 8 = pow_mono {i = k} {j = 8} (omega arith) in
    let s : 255 * 2 ^ k ≡ (2 ^ k - 1) * 2 ^ 8 + (2 ^ 8 - 2 ^ k) = omega arith in
    let m : (255 * 2 ^ k) % 2 ^ 8 ≡ 2 ^ 8 - 2 ^ k = ap (λ (n : ℕ). n % 2 ^ 8) s ∙ low (2 ^ k - 1) 8 (omega arith) in
    let b : x < 2 ^ (j + k) = rw e h in
    ap (bit_and x) m ∙ ap (λ (n : ℕ). bit_and x (2 ^ n - 2 ^ k)) (sym e) ∙ and_high x j k ∙ ap (λ (n : ℕ). n * 2 ^ k) (shr_mod j k b)

-- two bytes agree under the mask where their first bits are one number
pub masked_alike : (x y k : ℕ) → k ≤ 8 → x < 256 → y < 256
    → eqb (bit_and x ((255 * 2 ^ k) % 2 ^ 8)) (bit_and y ((255 * 2 ^ k) % 2 ^ 8)) ≡ eqb (x / 2 ^ k) (y / 2 ^ k)
masked_alike x y k h hx hy =
    let mx = masked x (8 - k) k (omega arith) hx in
    let my = masked y (8 - k) k (omega arith) hy in
    iff _ _
    (λ t. eq-eqb _ _ (sym (shl-shr (x / 2 ^ k) k) ∙ ap (λ (n : ℕ). n / 2 ^ k) (sym mx ∙ eqb-true _ _ t ∙ my) ∙ shl-shr (y / 2 ^ k) k))
    (λ t. eq-eqb _ _ (mx ∙ ap (λ (n : ℕ). n * 2 ^ k) (eqb-true _ _ t) ∙ sym my))

-- one bit more
one_more : (p q : ℕ) → (eqb (p / 2) (q / 2) && eqb (p % 2) (q % 2)) ≡ eqb p q
one_more p q =
    iff _ _
    (λ t. let s = split (eqb (p / 2) (q / 2)) (eqb (p % 2) (q % 2)) t in eq-eqb p q
    (omega (arith, eqb-true (p / 2) (q / 2) s.0, eqb-true (p % 2) (q % 2) s.1)))
    (λ t. let e = eqb-true p q t in both _ _ (eq-eqb _ _ (ap (λ (n : ℕ). n / 2) e)) (eq-eqb _ _ (ap (λ (n : ℕ). n % 2) e)))

-- ---- an address

and_assoc : (p q r : Bool) → (p && q && r) ≡ (p && (q && r))
and_assoc true q r = refl
and_assoc false q r = refl

module _ (a net : List ℕ) (q : ℕ) (ha : get_or a q 0 < 256) (hn : get_or net q 0 < 256) where
  inside-bits : (j : ℕ) → j ≤ 8 → inside a net (8 * q + j) ≡ (inside a net (8 * q) && eqb (get_or a q 0 / 2 ^ (8 - j)) (get_or net q 0 / 2 ^ (8 - j)))
  unfolding inside
  inside-bits zero h =
      let e : eqb (get_or a q 0 / 2 ^ 8) (get_or net q 0 / 2 ^ 8) ≡ true = eq-eqb (get_or a q 0 / 2 ^ 8) (get_or net q 0 / 2 ^ 8) (omega arith) in
      ap (inside a net) (add-zero (8 * q)) ∙ sym (and-true (inside a net (8 * q))) ∙ ap (λ (b : Bool). inside a net (8 * q) && b) (sym e)
  inside-bits (suc j) h =
      let x : ℕ = get_or a q 0 in
      let y : ℕ = get_or net q 0 in
      let d : (8 * q + j) / 8 ≡ q = omega arith in
      let m : (8 * q + j) % 8 ≡ j = omega arith in
      let k : 8 - j ≡ 7 - j + 1 = omega arith in
      let l : 8 - suc j ≡ 7 - j = omega arith in
      let half : (z : ℕ) → z / 2 ^ (8 - j) ≡ z / 2 ^ (7 - j) / 2 = λ z. ap (λ (n : ℕ). z / 2 ^ n) k ∙ sym (shr-shr z (7 - j) 1) in
      ap (inside a net) (add-suc (8 * q) j)
      ∙ (λ i. inside-bits j (omega arith) i && eqb (get_or a (d i) 0 / 2 ^ (7 - m i) % 2) (get_or net (d i) 0 / 2 ^ (7 - m i) % 2))
      ∙ and_assoc (inside a net (8 * q)) (eqb (x / 2 ^ (8 - j)) (y / 2 ^ (8 - j))) (eqb (x / 2 ^ (7 - j) % 2) (y / 2 ^ (7 - j) % 2))
      ∙ (λ i. inside a net (8 * q) && (eqb (half x i) (half y i) && eqb (x / 2 ^ (7 - j) % 2) (y / 2 ^ (7 - j) % 2)))
      ∙ (λ i. inside a net (8 * q) && one_more (x / 2 ^ (7 - j)) (y / 2 ^ (7 - j)) i)
      ∙ (λ i. inside a net (8 * q) && eqb (x / 2 ^ (sym l i)) (y / 2 ^ (sym l i)))

  -- a whole byte more
  inside-byte : inside a net (8 * (q + 1)) ≡ (inside a net (8 * q) && eqb (get_or a q 0) (get_or net q 0))
  inside-byte =
      let e : 8 * (q + 1) ≡ 8 * q + 8 = omega arith in
      ap (inside a net) e ∙ inside-bits 8 (omega arith) ∙ (λ i. inside a net (8 * q) && eqb (div-one (get_or a q 0) i) (div-one (get_or net q 0) i))
    where
      div-one : (z : ℕ) → z / 1 ≡ z
      div-one z = omega arith

-- the first q + 1 elements are equal where the first q are and the next
pointwise-more : (q : ℕ) (x y : List ℕ) → q < length x → q < length y
    → pointwise eqb (take (suc q) x) (take (suc q) y) ≡ (pointwise eqb (take q x) (take q y) && eqb (get_or x q 0) (get_or y q 0))
pointwise-more zero (a ∷ x) (b ∷ y) h k = and-true (eqb a b)
pointwise-more (suc q) (a ∷ x) (b ∷ y) h k =
    ap (λ (c : Bool). eqb a b && c) (pointwise-more q x y (omega arith) (omega arith)) ∙ sym (and_assoc (eqb a b) _ _)
pointwise-more q [] y h k = absurd (omega arith)
pointwise-more q (a ∷ x) [] h k = absurd (omega arith)

module _ (a net : List ℕ) (ha : (i : ℕ) → get_or a i 0 < 256) (hn : (i : ℕ) → get_or net i 0 < 256) where
  inside-bytes : (q : ℕ) → q ≤ length a → q ≤ length net → inside a net (8 * q) ≡ pointwise eqb (take q a) (take q net)
  unfolding inside
  inside-bytes zero h k = refl
  inside-bytes (suc q) h k =
      let e : 8 * suc q ≡ 8 * (q + 1) = omega arith in
      ap (inside a net) e ∙ inside-byte a net q (ha q) (hn q)
      ∙ ap (λ (b : Bool). b && eqb (get_or a q 0) (get_or net q 0)) (inside-bytes q (omega arith) (omega arith))
      ∙ sym (pointwise-more q a net (omega arith) (omega arith))

  -- q whole bytes first, of which r tells, then the bits past them
  pub inside-is : (bits q : ℕ) (r : Bool) → q ≡ bits / 8 → q ≤ length a → q ≤ length net → r ≡ pointwise eqb (take q a) (take q net)
      → inside a net bits ≡ (r && eqb (get_or a q 0 / 2 ^ (8 - bits % 8)) (get_or net q 0 / 2 ^ (8 - bits % 8)))
  inside-is bits q r e h k f =
      let b : bits ≡ 8 * q + bits % 8 = omega arith in
      ap (inside a net) b ∙ inside-bits a net q (ha q) (hn q) (bits % 8) (omega arith)
      ∙ ap (λ (b : Bool). b && eqb (get_or a q 0 / 2 ^ (8 - bits % 8)) (get_or net q 0 / 2 ^ (8 - bits % 8))) (inside-bytes q h k ∙ sym f)
