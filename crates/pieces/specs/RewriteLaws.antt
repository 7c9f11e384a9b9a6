-- A piece is replaced in its own cell: the store that the bytes then hold. Assumes nothing.
use Rattle.std.specs.Prelude.{ℕ, ◌≡◌, refl, List, ◌∷◌, ◌++◌, map}
use Rattle.std.proofs.Common.{arith, sym, subst}
use Rattle.octets.specs.Octets.{put, capacity}
use Rattle.machine.specs.Limits.{cell_bytes, store_bytes}
use Rattle.machine.specs.Values.{Cell, Rec, Store}
use Rattle.machine.specs.Chains.{first}
use Rattle.machine.specs.Layout.{cell_place, cell_off, cell_row}
use Rattle.machine.specs.Valid.{AtMost, CellSized, Valid}
use Rattle.machine.specs.Pieces.{new_cell}
use Rattle.machine.specs.Send.{with_cells}
use Rattle.packet.specs.Frame.{largest_piece}
use Rattle.machine_laws.specs.CellRow.{cell-length}
use Rattle.machine_laws.specs.Rep.{Rep}
use Rattle.machine_laws.specs.Write.{Wrote, write-row}
use Rattle.machine_writes.specs.Swap.{held_store}
use Rattle.machine_writes.specs.CellSwap.{cell-rep}
use Rattle.pieces.specs.InPlace.{rewritten}
use Rattle.pieces.specs.SpotLaws.{row-index, row_next}
use Rattle.pieces.specs.HeldLaws.{piece-in, piece-row}

-- a piece that has just come has fields that fit
pub new-sized : (place index : ℕ) (bytes : List ℕ) → AtMost largest_piece bytes → CellSized (new_cell place index bytes)
unfolding capacity
new-sized place index bytes h = record { bytes = h; stamp = omega arith }

module _ (role : ℕ) (s : Store) (v : Valid role s) (b : List ℕ) (rep : Rep s b) (l : List Rec) (r : Rec) (m : List Rec) (is : s.held ≡ l ++ (r ∷ m))
    (cl : List Cell) (c : Cell) (cm : List Cell) (parts : r.cells ≡ cl ++ (c ∷ cm)) (bytes : List ℕ) (z : AtMost largest_piece bytes) where
  abbrev next : ℕ
  next = first (map cell_place cm)

  -- the piece in c's cell
  abbrev new : Cell
  new = new_cell c.place c.index bytes

  wrote : Wrote (store_bytes 0) cell_bytes c.place (cell_row next new) b (rewritten b c.place bytes)
  wrote =
      let row = piece-row role s v l r m is b rep cl c cm parts in
      let i = piece-in role s v l r m is cl c cm parts in
      let w = write-row (store_bytes 0) cell_bytes c.place (cell_row next new) b i.0 (omega (arith, i.0, i.1, rep.size))
      (cell-length next new (new-sized c.place c.index bytes z)) in
      subst (λ (x : List ℕ). Wrote (store_bytes 0) cell_bytes c.place (cell_row next new) b (put b (cell_off c.place) x))
      (λ t. cell_row (sym (row_next b next c row) t) (new_cell c.place (sym (row-index b next c row) t) bytes)) w

  pub rewrite-rep : Rep (held_store s (l ++ (with_cells (cl ++ (new ∷ cm)) r ∷ m)) s.free_cells) (rewritten b c.place bytes)
  rewrite-rep = cell-rep role s v b rep l r m is cl c cm parts new refl (rewritten b c.place bytes) wrote
