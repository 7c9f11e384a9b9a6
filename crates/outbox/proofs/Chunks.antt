-- The chunk of a piece, and the cell that it is read from. Assumes nothing.
use Prim.Native.Nat.{ℕ, ◌+◌, ◌*◌, ◌≤◌}
use native.Mathlib.Omega.{arith}
use mathlib.Core.Path.{◌≡◌, ap}
use mathlib.Core.List.{List}
use lib.ListN.{length, get_or}
use Rattle.octets.specs.Octets.{num}
use Rattle.octets.specs.PartsLaws.{part-part, part_of, length_part}
use Rattle.packet.specs.declared.label.Label as carried
use Rattle.packet.specs.Named.{Named}
use Rattle.packet.specs.Frame.{largest_piece}
use Rattle.packet.specs.Outgoing.{chunk_packet}
use Rattle.packet.specs.LengthsLaws.{length-entry, length-chunk}
use Rattle.machine.specs.Limits.{cell_bytes, most_cells, cut_by}
use Rattle.machine.specs.Values.{Cell}
use Rattle.machine.specs.Layout.{count_at, size_at, size_width, num_at, cell_off, cell_at}
use Rattle.machine_writes.specs.Links.{Links}
use Rattle.pieces.specs.ReadLaws.{cell_in}
use Rattle.outbox.specs.Sending.{chunk_of}
use Rattle.outbox.specs.EntriesLaws.{chunk-length}

pub chunk_long : (l : carried.Label) (c : Cell) → Named l → length (chunk_of l c) ≡ 70 + length c.bytes
chunk_long l c n = chunk-length l n c

-- the row of a cell
module _ (b : List ℕ) (h : Links b) (k : ℕ) (some : 1 ≤ k) (most : k ≤ get_or b count_at 0) where
  pub cell_fits : (cell_off k + cell_bytes ≤ length b) × (k ≤ most_cells)
  cell_fits = let i = cell_in b h k some most in (i.fits, i.most)

  pub row_small : num_at size_width (cell_at b k) size_at ≤ largest_piece
  row_small = omega (arith, h.sizes k some most, ap (num size_width) (part-part b (cell_off k) cell_bytes size_at size_width (omega arith)))

pub ruleset cells = (cell_fits, row_small, part_of, length_part)
