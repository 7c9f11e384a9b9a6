-- A piece's stamp and state are written: the store that the bytes then hold. Assumes nothing.
use Rattle.std.specs.Prelude.{ℕ, ◌+◌, ◌≡◌, refl, true, List, [], ◌∷◌, ◌++◌, map, length}
use Rattle.std.proofs.Common.{arith, sym, ap, ◌∙◌, subst, length-append, eq-eqb, ne_eqb}
use Rattle.octets.specs.Octets.{put, be}
use Rattle.octets.specs.NumbersLaws.{length-be}
use Rattle.machine.specs.Limits.{cell_bytes, store_bytes}
use Rattle.machine.specs.Codes.{piece_acked}
use Rattle.machine.specs.Values.{Cell, Rec, Store}
use Rattle.machine.specs.Chains.{first}
use Rattle.machine.specs.Layout.{number_width, stamp_at, cell_place, cell_row}
use Rattle.machine.specs.Sound.{rising}
use Rattle.machine.specs.Valid.{Valid}
use Rattle.machine.specs.Send.{with_cells, marked, ack_cell, ack_piece}
use Rattle.machine_laws.specs.Rep.{Rep}
use Rattle.machine_laws.specs.Write.{Wrote, write-field}
use Rattle.machine_writes.specs.Swap.{held_store}
use Rattle.machine_writes.specs.CellSwap.{cell-rep}
use Rattle.machine_steps.proofs.Stamps.{only_at}
use Rattle.pieces.specs.InPlace.{remarked}
use Rattle.pieces.specs.HeldLaws.{piece-in, piece-row, fine}

-- stamp and state stand side by side in a cell's row
mark-row : (next stamp state : ℕ) (c : Cell) → put (cell_row next c) stamp_at (be number_width stamp ++ (state ∷ [])) ≡ cell_row next (marked c stamp state)
unfolding put be cell_row
mark-row next stamp state c = refl

-- ---- an acknowledged piece

-- no other piece has its index
pub ack-is : (low high : ℕ) (cl : List Cell) (c : Cell) (cm : List Cell) → rising low high (cl ++ (c ∷ cm)) ≡ true
    → map (ack_cell c.index) (cl ++ (c ∷ cm)) ≡ cl ++ (marked c 0 piece_acked ∷ cm)
ack-is low high cl c cm h =
    only_at (ack_cell c.index) c.index (λ a e. rw (ne_eqb a.index c.index e)) low high cl c cm refl h
    ∙ rw (eq-eqb c.index c.index refl)

-- ---- the store

module _ (role : ℕ) (s : Store) (v : Valid role s) (b : List ℕ) (rep : Rep s b) (l : List Rec) (r : Rec) (m : List Rec) (is : s.held ≡ l ++ (r ∷ m))
    (cl : List Cell) (c : Cell) (cm : List Cell) (parts : r.cells ≡ cl ++ (c ∷ cm)) where
  abbrev next : ℕ
  next = first (map cell_place cm)

  -- the store where the pieces of r are others
  abbrev with : List Cell → Store
  with cells = held_store s (l ++ (with_cells cells r ∷ m)) s.free_cells

  wrote : (stamp state : ℕ) → Wrote (store_bytes 0) cell_bytes c.place (cell_row next (marked c stamp state)) b (remarked b c.place stamp state)
  wrote stamp state =
      let i = piece-in role s v l r m is cl c cm parts in
      let mark = be number_width stamp ++ (state ∷ []) in
      let long : length mark ≡ 9 = length-append (be number_width stamp) (state ∷ []) ∙ ap (λ (n : ℕ). n + 1) (length-be number_width stamp) in
      subst (λ (x : List ℕ). Wrote (store_bytes 0) cell_bytes c.place x b (remarked b c.place stamp state))
      (ap (λ (x : List ℕ). put x stamp_at mark) (piece-row role s v l r m is b rep cl c cm parts) ∙ mark-row next stamp state c)
      (write-field (store_bytes 0) cell_bytes c.place stamp_at mark b i.0 (omega (arith, i.0, i.1, rep.size)) (omega arith))

  pub mark-rep : (stamp state : ℕ) → Rep (with (cl ++ (marked c stamp state ∷ cm))) (remarked b c.place stamp state)
  mark-rep stamp state = cell-rep role s v b rep l r m is cl c cm parts (marked c stamp state) refl (remarked b c.place stamp state) (wrote stamp state)

  -- "ack chunk .. marks its piece Acked"
  pub ack-rep : Rep (held_store s (l ++ (ack_piece c.index r ∷ m)) s.free_cells) (remarked b c.place 0 piece_acked)
  ack-rep =
      let e : cl ++ (marked c 0 piece_acked ∷ cm) ≡ map (ack_cell c.index) r.cells =
      sym (ap (map (ack_cell c.index)) parts
      ∙ ack-is 0 r.slots cl c cm (subst (λ (x : List Cell). rising 0 r.slots x ≡ true) parts (fine role s v l r m is).rises)) in
      subst (λ (x : List Cell). Rep (with x) (remarked b c.place 0 piece_acked)) e (mark-rep 0 piece_acked)
