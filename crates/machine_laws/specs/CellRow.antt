-- A cell's row: it is the row of the cell that is read from it, and what is read from a cell's row is the cell. Assumes nothing.
use Rattle.std.specs.Prelude.{ℕ, suc, ◌+◌, ◌-◌, ◌≤◌, ◌<◌, ◌≡◌, true}
use Rattle.std.proofs.Common.{arith, ◌∙◌, leb-true, le-leb}
use Rattle.std.proofs.Math.Path.{refl, sym, ap}
use mathlib.Core.List.{List, [], ◌∷◌, ◌++◌}
use Rattle.std.proofs.Math.ListN.{length, get_or, replicate}
use Rattle.octets.specs.Octets.{part, be, num, capacity, Bytes, zeros}
use Rattle.octets.specs.PartsLaws.{length_part, get_or-part, part-add, part-part, bytes-part}
use Rattle.octets.specs.NumbersLaws.{length-be, bytes-be, num-be, be-part, num-lt}
use Rattle.machine.specs.Limits.{cell_bytes}
use Rattle.machine.specs.Values.{Cell}
use Rattle.machine.specs.Rows.{join, pad, zero_from}
use Rattle.machine.specs.Layout.{index_at, size_at, stamp_at, piece_state_at, gap_at, bytes_at, number_width, size_width, gap_width, cell_fields, cell_row, num_at, cell_of}
use Rattle.machine.specs.Chains.{next_at}
use Rattle.machine.specs.Sound.{cell_tests, cell_shape}
use Rattle.machine.specs.Valid.{CellSized}
use Rattle.packet.specs.Frame.{largest_piece}
use Rattle.octets.specs.ListsLaws.{◌&◌}
use Rattle.machine_laws.specs.Tests.{every_true, true-every}
use Rattle.machine_laws.specs.Fields.{Fit, width, start, length-join, field_at, join-cuts, gets-is, zeros-part, pad-row, pad-zero, length-pad}
use Rattle.machine_laws.specs.Fields.{bytes-pad, bytes-join, bytes_of, bytes-cons, bytes-zeros}

-- the widths of a cell's fields, with a piece of n bytes
abbrev cell_widths : ℕ → List ℕ
cell_widths n = size_at ∷ size_width ∷ number_width ∷ suc gap_width ∷ n ∷ []

cell_width : (n : ℕ) → width (cell_widths n) ≡ bytes_at + n
cell_width n = omega arith

-- ---- from a row to the cell

module _ (p : ℕ) (row : List ℕ) (e : length row ≡ cell_bytes) (y : Bytes row) (z : cell_shape row ≡ true) where
  abbrev size : ℕ
  size = num_at size_width row size_at

  record Shape : Type 0 where
    small : size ≤ largest_piece
    gap : zeros (part row gap_at gap_width) ≡ true
    rest : zero_from cell_bytes (bytes_at + size) row ≡ true

  shape : Shape
  shape =
      let t = every_true (cell_tests row) z in
      record { small = leb-true size largest_piece t.0; gap = t.1.0; rest = t.1.1.0 }

  piece-length : length (part row bytes_at size) ≡ size
  piece-length = length_part row bytes_at size (omega (arith, shape.small))

  pub cell_row_lem : row ≡ cell_row (get_or row next_at 0) (cell_of p row)
  unfolding cell_row cell_of
  cell_row_lem =
      let state : part row piece_state_at (suc gap_width) ≡ get_or row piece_state_at 0 ∷ replicate gap_width 0 =
      part-add row piece_state_at 1 gap_width ∙ (λ i. gets-is row piece_state_at 1 (omega arith) i ++ zeros-part row gap_at gap_width (omega arith) shape.gap i) in
      let count : part row size_at size_width ≡ be size_width (length (part row bytes_at size)) =
      sym (be-part row size_at size_width (omega arith) y) ∙ ap (be size_width) (sym piece-length) in
      let stamp : part row stamp_at number_width ≡ be number_width (num_at number_width row stamp_at) = sym (be-part row stamp_at number_width (omega arith) y) in
      pad-row cell_bytes (bytes_at + size) row e (omega (arith, shape.small)) shape.rest
      ∙ ap (λ (n : ℕ). pad cell_bytes (part row 0 n)) (sym (cell_width size))
      ∙ ap (pad cell_bytes) (sym (join-cuts row 0 (cell_widths size)))
      ∙ (λ i. pad cell_bytes (join (gets-is row 0 size_at (omega arith) i ∷ count i ∷ stamp i ∷ state i ∷ part row bytes_at size ∷ [])))

  pub cell-sized : CellSized (cell_of p row)
  unfolding cell_of
  cell-sized = record {
    bytes = (omega (arith, piece-length, shape.small), bytes-part row bytes_at size y);
    stamp = num-lt number_width (part row stamp_at number_width) (bytes-part row stamp_at number_width y);
  }

-- ---- from a cell to its row, and back

module _ (next : ℕ) (c : Cell) (z : CellSized c) where
  abbrev count : ℕ
  count = length c.bytes

  fields : Fit (cell_fields next c) (cell_widths count)
  fields = refl & length-be size_width count & length-be number_width c.stamp & refl & refl & tt

  long : length (join (cell_fields next c)) ≡ bytes_at + count
  long = length-join (cell_fields next c) (cell_widths count) fields ∙ cell_width count

  field : (i : ℕ) → part (cell_row next c) (start (cell_widths count) i) (get_or (cell_widths count) i 0) ≡ get_or (cell_fields next c) i []
  unfolding cell_row
  field i = field_at (cell_fields next c) (cell_widths count) (replicate (cell_bytes - length (join (cell_fields next c))) 0) i fields

  size_is : num_at size_width (cell_row next c) size_at ≡ count
  unfolding capacity
  size_is = ap (num size_width) (field 1) ∙ num-be size_width count (omega (arith, z.bytes.0))

  stamp-is : num_at number_width (cell_row next c) stamp_at ≡ c.stamp
  stamp-is = ap (num number_width) (field 2) ∙ num-be number_width c.stamp z.stamp

  state-is : get_or (cell_row next c) piece_state_at 0 ≡ c.state
  state-is = sym (get_or-part (cell_row next c) piece_state_at (suc gap_width) 0 (omega arith)) ∙ ap (λ (l : List ℕ). get_or l 0 0) (field 3)

  gap_is : part (cell_row next c) gap_at gap_width ≡ replicate gap_width 0
  unfolding part
  gap_is = sym (part-part (cell_row next c) piece_state_at (suc gap_width) 1 gap_width (omega arith)) ∙ ap (λ (l : List ℕ). part l 1 gap_width) (field 3)

  bytes-is : part (cell_row next c) bytes_at (num_at size_width (cell_row next c) size_at) ≡ c.bytes
  bytes-is = ap (part (cell_row next c) bytes_at) size_is ∙ field 4

  pub cell-link : get_or (cell_row next c) next_at 0 ≡ next
  unfolding cell_row
  cell-link = refl

  index_is : get_or (cell_row next c) index_at 0 ≡ c.index
  unfolding cell_row
  index_is = refl

  pub cell-back : cell_of c.place (cell_row next c) ≡ c
  unfolding cell_of
  cell-back = λ i. record { place = c.place; index = index_is i; bytes = bytes-is i; stamp = stamp-is i; state = state-is i }

  past : zero_from cell_bytes (bytes_at + count) (cell_row next c) ≡ true
  unfolding cell_row
  past = pad-zero cell_bytes (bytes_at + count) (join (cell_fields next c)) long

  pub cell-shape : cell_shape (cell_row next c) ≡ true
  cell-shape =
      let small = le-leb (num_at size_width (cell_row next c) size_at) largest_piece (omega (arith, size_is, z.bytes.0)) in
      let rest = ap (λ (n : ℕ). zero_from cell_bytes (bytes_at + n) (cell_row next c)) size_is ∙ past in
      true-every (cell_tests (cell_row next c)) (small & ap zeros gap_is & rest & tt)

  pub cell-length : length (cell_row next c) ≡ cell_bytes
  unfolding cell_row
  cell-length = length-pad cell_bytes (join (cell_fields next c)) (omega (arith, long, z.bytes.0))

  -- a cell's row is bytes, where its link, its index and its state are
  pub cell-bytes : next < 256 → c.index < 256 → c.state < 256 → Bytes (cell_row next c)
  unfolding cell_row
  cell-bytes n i s =
      bytes-pad cell_bytes (join (cell_fields next c))
      (bytes-join (cell_fields next c)
      (bytes_of (next ∷ c.index ∷ []) (n & i & tt) & bytes-be size_width count & bytes-be number_width c.stamp
      & bytes-cons c.state (replicate gap_width 0) s (bytes-zeros gap_width) & z.bytes.1 & tt))
