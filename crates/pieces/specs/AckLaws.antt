-- A piece of a leaving record is acknowledged, from bytes to stores: its cell is the one at the spot of its index. Assumes nothing.
use Rattle.std.specs.Prelude.{ℕ, ◌≤◌, ◌<◌, ◌≡◌, true, length, get_or}
use Rattle.std.proofs.Common.{arith, sym, ◌∙◌, subst}
use Rattle.std.proofs.Math.Path.{ap}
use mathlib.Core.List.{List, [], ◌∷◌, ◌++◌, map}
use Rattle.std.proofs.Math.Option.{Option, some}
use Rattle.octets.specs.Octets.{Bytes}
use Rattle.machine.specs.Codes.{role_send, piece_acked}
use Rattle.machine.specs.Values.{Cell, Rec, Store, Key, same_key}
use Rattle.machine.specs.Chains.{first}
use Rattle.machine.specs.Layout.{cell_place, rec_of, encode, decode}
use Rattle.machine.specs.Valid.{Valid}
use Rattle.machine.specs.Find.{is_some}
use Rattle.machine.specs.Pieces.{new_cell, piece_at}
use Rattle.machine.specs.Receive.{rec_key, found}
use Rattle.machine.specs.Send.{ack_piece, change_at, change}
use Rattle.machine_laws.specs.Keys.{key-eq, key-refl}
use Rattle.machine_laws.specs.Rep.{Rep, rep-encode}
use Rattle.machine_writes.specs.Split.{Split, found-split}
use Rattle.machine_writes.specs.Swap.{held_store}
use Rattle.machine_writes.specs.InRange.{links}
use Rattle.machine_steps.proofs.Find.{find-key}
use Rattle.machine_steps.proofs.Leaving.{leaving-piece}
use Rattle.machine_steps.proofs.SendValid.{ack-valid}
use Rattle.records.specs.HeldAt.{place_at, rec_in, key_in, HeldAt}
use Rattle.records.specs.MetLaws.{valid, rep, held-here}
use Rattle.pieces.specs.InPlace.{spot_in, remarked, CellIn}
use Rattle.pieces.specs.ReadLaws.{cell_in}
use Rattle.pieces.specs.SpotLaws.{below, below-onward, PieceHeld, put-held}
use Rattle.pieces.specs.HeldLaws.{fine, piece-in, spot-leads}
use Rattle.pieces.specs.MarkLaws.{ack-rep}

module _ (key : Key) (i : ℕ) (r : Rec) (s : Store) (b : List ℕ) (v : Valid role_send s) (rep : Rep s b) (e : found key s.held ≡ some r)
    (h : i < length r.cells) where
  at : Split same_key rec_key key r s.held
  at = found-split same_key rec_key key r s.held e

  abbrev l : List Rec
  l = at.before

  abbrev m : List Rec
  m = at.behind

  -- each index below the number of pieces has one
  has : is_some (piece_at i r.cells) ≡ true
  has = ap is_some (leaving-piece r (fine role_send s v l r m at.is) i (new_cell 0 0 []) h)

  p : PieceHeld 0 i [] r.cells
  p = put-held 0 i [] 0 r.slots r.cells (fine role_send s v l r m at.is).rises has

  parts : r.cells ≡ below i r.cells ++ (p.piece ∷ p.behind)
  parts = below-onward i r.cells ∙ ap (λ (x : List Cell). below i r.cells ++ x) p.is

  spot-cell : get_or b (spot_in b r.place i) 0 ≡ p.piece.place
  spot-cell = spot-leads role_send s v l r m at.is b rep i ∙ ap (λ (x : List Cell). first (map cell_place x)) p.is

  pub spot-inside : (0 < get_or b (spot_in b r.place i) 0) × (get_or b (spot_in b r.place i) 0 ≤ s.setup.cells)
  spot-inside =
      let q = piece-in role_send s v l r m at.is (below i r.cells) p.piece p.behind parts in
      (omega (arith, spot-cell, q.0), omega (arith, spot-cell, q.1))

  ack-store : held_store s (l ++ (ack_piece p.piece.index r ∷ m)) s.free_cells ≡ change_at (ack_piece i) (some r) s
  unfolding change_at
  ack-store =
      ap (λ (j : ℕ). held_store s (l ++ (ack_piece j r ∷ m)) s.free_cells) p.index
      ∙ ap (λ (x : List Rec). held_store s x s.free_cells) (sym (at.swapped (ack_piece i r) (sym (find-key same_key rec_key key-eq key-refl key r s.held e))))

  pub ack-encodes : remarked b (get_or b (spot_in b r.place i) 0) 0 piece_acked ≡ encode (change (ack_piece i) key s)
  ack-encodes =
      let o : change_at (ack_piece i) (some r) s ≡ change (ack_piece i) key s = ap (λ (q : Option Rec). change_at (ack_piece i) q s) (sym e) in
      ap (λ (k : ℕ). remarked b k 0 piece_acked) spot-cell
      ∙ rep-encode role_send (change (ack_piece i) key s) (ack-valid i key s v) (remarked b p.piece.place 0 piece_acked)
      (subst (λ (t : Store). Rep t (remarked b p.piece.place 0 piece_acked)) (ack-store ∙ o)
      (ack-rep role_send s v b rep l r m at.is (below i r.cells) p.piece p.behind parts))

-- ---- of the held record that a link leads to

module _ (b : List ℕ) (at i : ℕ) (y : Bytes b) (h : HeldAt role_send b at) (n : i < length (rec_in b at).cells) where
  -- what the step makes of the store
  pub acked-is : remarked b (get_or b (spot_in b (place_at b at) i) 0) 0 piece_acked ≡ encode (change (ack_piece i) (key_in b at) (decode b))
  unfolding rec_of
  acked-is = ack-encodes (key_in b at) i (rec_in b at) (decode b) b (valid role_send b y h.sound) (rep role_send b y h.sound) (held-here role_send b y at h) n

  -- its cell is one
  pub acked-cell : CellIn b (get_or b (spot_in b (place_at b at) i) 0)
  unfolding rec_of decode
  acked-cell =
      let q = spot-inside (key_in b at) i (rec_in b at) (decode b) b (valid role_send b y h.sound)
      (rep role_send b y h.sound) (held-here role_send b y at h) n in
      cell_in b (links role_send b y h.sound) (get_or b (spot_in b (place_at b at) i) 0) q.0 q.1
