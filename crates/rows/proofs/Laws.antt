-- The tests of a head and of a record, by the way that the code goes, and of a number at most the larger of two. Assumes nothing.
use Prim.Native.Nat.{ℕ, max, ◌≤◌, ◌<◌}
use native.Mathlib.Omega.{arith}
use native.Mathlib.Decide.{dec_le}
use mathlib.Core.Path.{◌≡◌}
use mathlib.Core.Bool.{false, ◌&&◌, ◌||◌, and_assoc, and-true, and-false}
use mathlib.Core.List.{List}
use lib.ListN.{length, get_or}
use lib.Dec.{eqb, leb}
use borrow.Author.Tests.{le-leb, lt-leb, lt-ltb, ne_eqb}
use Rattle.machine.specs.Limits.{longest, head_bytes, most_cells, store_bytes, slots_of, most_slots}
use Rattle.machine.specs.Codes.{is_role}
use Rattle.machine.specs.Rows.{zero_from}
use Rattle.machine.specs.Layout.{form_at, form, count_at, role_at, rest_at, reply_at, slots_at, total_at, number_width, num_at, sending_of, decode}
use Rattle.machine.specs.Sound.{is_mark, sending_fits, rec_shape}
use Rattle.rows.specs.Asked.{head_fits, record_fits}

pub or-max : (n p q : ℕ) → (leb n p || leb n q) ≡ leb n (max p q)
or-max n p q =
    elim (dec_le n p) [
      | yes h ↦ rw (le-leb n p h, le-leb n (max p q) (omega arith))
      | no h ↦ rw (lt-leb n p (omega arith)) (elim (dec_le n q) [
        | yes g ↦ rw (le-leb n q g, le-leb n (max p q) (omega arith))
        | no g ↦ rw (lt-leb n q (omega arith), lt-leb n (max p q) (omega arith))
      ])
    ]

module _ (role : ℕ) (b : List ℕ) where
  abbrev cells : ℕ
  cells = get_or b count_at 0

  -- shorter than any store
  pub head-short : length b < head_bytes → false ≡ head_fits role b
  unfolding head_fits decode
  head-short h = rw (ne_eqb (length b) (store_bytes cells) (λ e. omega arith)) (simp and-false)

  pub head-none : cells ≡ 0 → false ≡ head_fits role b
  unfolding head_fits decode
  head-none h = rw h

  pub head-many : most_cells < cells → false ≡ head_fits role b
  unfolding head_fits decode
  head-many h = rw (lt-leb cells most_cells h) (simp and-false)

  -- with as many cells as a store may have
  pub head-is : (cells ≡ 0 → ⊥) → cells ≤ most_cells
      → ((((eqb (length b) (store_bytes cells) && is_role role) && eqb (get_or b role_at 0) role) && eqb (get_or b form_at 0) form)
      && zero_from head_bytes rest_at b) ≡ head_fits role b
  unfolding head_fits decode
  head-is n h = rw (lt-ltb 0 cells (omega (arith, n)), le-leb cells most_cells h)

-- a record whose length is in range
pub record_is : (role kind : ℕ) (row : List ℕ) (n : ℕ) → n ≡ num_at number_width row total_at → n ≤ longest
    → (((rec_shape kind row && is_mark (get_or row reply_at 0)) && sending_fits role (sending_of row))
    && (leb (slots_of n) (get_or row slots_at 0) && leb (get_or row slots_at 0) (most_slots n)))
    ≡ record_fits role kind row
unfolding record_fits
record_is role kind row n e h = rw (← e, le-leb n longest h) (simp (and_assoc, and-true))
