-- The writes of a record that is dropped. In each law b is the store at entry and m1, m2, .. what it is after each call. Assumes nothing.
use Prim.Native.Nat.{ℕ, ◌+◌, ◌-◌, ◌≤◌}
use native.Mathlib.Omega.{arith}
use mathlib.Core.Path.{◌≡◌, refl, ap, ◌∙◌}
use mathlib.Core.List.{List, [], ◌∷◌}
use lib.ListN.{length, get_or, replicate}
use Rattle.octets.specs.Octets.{put}
use Rattle.octets.specs.PartsLaws.{more}
use Rattle.machine.specs.Limits.{rec_bytes}
use Rattle.machine.specs.Layout.{free_at, first_cell_at, rec_off, free_row}
use Rattle.records.specs.Releasing.{rec_free, released, unlinked}

pub record_is : (b : List ℕ) {m1 m2 l : List ℕ} {row : ℕ} (p : ℕ) → row ≡ rec_off p → rec_off p + rec_bytes ≤ length b
    → m1 ≡ put b row (get_or b free_at 0 ∷ []) → m2 ≡ put m1 (row + 1) (replicate (rec_bytes - 1) 0) → l ≡ put m2 free_at (p ∷ []) → l ≡ rec_free p b
record_is b {m1} {m2} {row = row} p e h w1 w2 w3 =
    w3 ∙ (λ i. put (more b m1 m2 row (row + 1) (get_or b free_at 0 ∷ []) (replicate (rec_bytes - 1) 0) w1 w2 refl (omega arith) i) free_at (p ∷ []))
    ∙ (λ i. put (put b (e i) (free_row rec_bytes (get_or b free_at 0) p)) free_at (p ∷ []))

pub unlinked-is : (b : List ℕ) {m l : List ℕ} {row p first : ℕ} (link : ℕ) → p ≡ get_or b link 0 → row ≡ rec_off p
    → first ≡ get_or b (row + first_cell_at) 0 → m ≡ put b link (get_or b row 0 ∷ []) → l ≡ released p first m → l ≡ unlinked link b
unlinked-is b {row = row} link q e f w1 w2 =
    let starts : row ≡ rec_off (get_or b link 0) = e ∙ ap rec_off q in
    w2 ∙ (λ i. released (q i) (f i) (w1 i))
    ∙ (λ i. released (get_or b link 0) (get_or b (starts i + first_cell_at) 0) (put b link (get_or b (starts i) 0 ∷ [])))

pub ruleset freed = (record_is, unlinked-is)
