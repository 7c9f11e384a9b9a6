-- The writes and the turns of freeing a chain of cells. Assumes nothing.
use Prim.Native.Nat.{ℕ, suc, ◌+◌, ◌-◌, ◌≤◌, ◌<◌}
use native.Mathlib.Omega.{arith}
use mathlib.Core.Path.{◌≡◌, refl, ap, ◌∙◌}
use mathlib.Core.List.{List, [], ◌∷◌}
use lib.ListN.{length, get_or, replicate}
use borrow.Author.Tests.{eq-eqb, ne_eqb}
use Rattle.octets.specs.Octets.{put}
use Rattle.octets.specs.PartsLaws.{more}
use Rattle.machine.specs.Limits.{cell_bytes, most_cells}
use Rattle.machine.specs.Layout.{free_cells_at, cell_off, free_row}
use Rattle.records.specs.Clearing.{or_else, cell_free, free_from, clear_from, Clearable}
use Rattle.records.specs.ClearedLaws.{chain_next, cell-free-long}

-- the link is written, then zeros: the row of a free cell
pub cell-is : {b m l : List ℕ} {row to p end : ℕ} → Clearable p end b → 0 < p → row ≡ cell_off p → to ≡ or_else end (get_or b row 0)
    → m ≡ put b row (to ∷ []) → l ≡ put m (row + 1) (replicate (cell_bytes - 1) 0) → l ≡ cell_free end p b
cell-is {b} {m} {l} {row} {to} {p} {end} h z e f w1 w2 =
    more b m l row (row + 1) (to ∷ []) (replicate (cell_bytes - 1) 0) w1 w2 refl (omega (arith, h.long, h.start))
    ∙ (λ i. put b row (free_row cell_bytes (f i) p)) ∙ (λ i. put b (e i) (free_row cell_bytes (or_else end (get_or b (e i) 0)) p))

-- what holds at each turn, with n cells freed: what is left gives what the whole gives
pub record Freeing (end first : ℕ) (b₀ b : List ℕ) (p n : ℕ) : Type 0 where
  pub turns : n ≤ suc most_cells
  pub chain : Clearable p end b
  pub long : length b ≡ length b₀
  pub gives : free_from end (suc most_cells - n) p b ≡ free_from end (suc most_cells) first b₀

module _ {end first : ℕ} {b₀ b : List ℕ} {p n : ℕ} (h : Freeing end first b₀ b p n) where
  pub frees-out : suc most_cells ≤ n → b ≡ free_from end (suc most_cells) first b₀
  unfolding free_from
  frees-out g = let e : suc most_cells - n ≡ 0 = omega arith in (rw e at h.gives)

  module _ (g : n < suc most_cells) where
    left : free_from end (suc (most_cells - n)) p b ≡ free_from end (suc most_cells) first b₀
    left = let e : suc most_cells - n ≡ suc (most_cells - n) = omega arith in (rw e at h.gives)

    pub frees-end : p ≡ 0 → b ≡ free_from end (suc most_cells) first b₀
    unfolding free_from
    frees-end e = rw (eq-eqb p 0 e) at left

    pub frees-on : (m : List ℕ) (q : ℕ) → (p ≡ 0 → ⊥) → q ≡ get_or b (cell_off p) 0 → m ≡ cell_free end p b → Freeing end first b₀ m q (n + 1)
    unfolding free_from
    frees-on m q z e f =
        let some : 0 < p = omega (arith, z) in
        let fuel : suc most_cells - (n + 1) ≡ most_cells - n = omega arith in
        record {
          turns = omega arith;
          chain = rw (e, f) (chain_next p end b h.chain some);
          long = ap length f ∙ cell-free-long p end b h.chain some ∙ h.long;
          gives = (λ i. free_from end (fuel i) (e i) (f i)) ∙ (rw (ne_eqb p 0 z) at left);
        }

pub clear-is : (b : List ℕ) {m l : List ℕ} (first : ℕ) {to : ℕ} → m ≡ free_from (get_or b free_cells_at 0) (suc most_cells) first b
    → to ≡ or_else (get_or b free_cells_at 0) first → l ≡ put m free_cells_at (to ∷ []) → l ≡ clear_from first b
clear-is b first e f w = w ∙ (λ i. put (e i) free_cells_at (f i ∷ []))

pub ruleset clears = (cell-is, frees-out, frees-end, frees-on, clear-is)
