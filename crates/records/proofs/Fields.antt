-- A field of a record's row, read from the store. Assumes nothing.
use Prim.Native.Nat.{ℕ, ◌+◌, ◌-◌, ◌≤◌, ◌<◌}
use native.Mathlib.Omega.{arith}
use mathlib.Core.Path.{◌≡◌, sym, ap, ◌∙◌}
use mathlib.Core.List.{List}
use lib.ListN.{get_or, take, drop}
use Rattle.octets.specs.Octets.{part, num}
use Rattle.octets.specs.PartsLaws.{get_or-part, part-part, part_of}
use Rattle.machine.specs.Limits.{rec_bytes}
use Rattle.machine.specs.Layout.{rec_off, rec_at, num_at, number_width}

module _ (b : List ℕ) (row p : ℕ) (e : row ≡ rec_off p) (o : ℕ) where
  pub byte_is : o < rec_bytes → get_or b (row + o) 0 ≡ get_or (rec_at b p) o 0
  byte_is h = ap (λ (x : ℕ). get_or b (x + o) 0) e ∙ sym (get_or-part b (rec_off p) rec_bytes o h)

  pub part-is : (n : ℕ) → o + n ≤ rec_bytes → part b (row + o) n ≡ part (rec_at b p) o n
  part-is n h = ap (λ (x : ℕ). part b (x + o) n) e ∙ sym (part-part b (rec_off p) rec_bytes o n h)

  pub number_is : o + number_width ≤ rec_bytes → num number_width (part b (row + o) number_width) ≡ num_at number_width (rec_at b p) o
  number_is h = ap (num number_width) (part-is number_width h)

  pub bytes_are : (n : ℕ) → o + n ≤ rec_bytes → take (row + o + n - (row + o)) (drop (row + o) b) ≡ part (rec_at b p) o n
  bytes_are n h = part_of b (row + o) (row + o + n) n (omega arith) ∙ part-is n h

pub row_is : (b : List ℕ) (row p : ℕ) → row ≡ rec_off p → take (row + rec_bytes - row) (drop row b) ≡ rec_at b p
row_is b row p e = part_of b row (row + rec_bytes) rec_bytes (omega arith) ∙ ap (λ (x : ℕ). part b x rec_bytes) e

-- a part whose length is read
pub sized_is : (row l : List ℕ) (o n x m : ℕ) → l ≡ part row o n → n ≡ x → x ≡ m → l ≡ part row o m
sized_is row l o n x m e p q = e ∙ ap (part row o) (p ∙ q)
