-- Chunk: what the bytes are when a piece has come to its record, at a new index or at one that is held, is the encoding of what the machine's step
-- makes of the store. Assumes nothing.
use Prim.Native.Nat.{ℕ, suc, ◌+◌, ◌≤◌, ◌<◌, max}
use Rattle.std.proofs.Common.{arith, ◌∙◌}
use Rattle.std.specs.Prelude.{◌≡◌, refl, true, false, cond, length}
use Rattle.std.proofs.Math.Path.{sym, ap, subst}
use mathlib.Core.List.{List, [], ◌∷◌, ◌++◌, map}
use Rattle.std.proofs.Math.Option.{Option, some}
use Rattle.std.proofs.Math.ListN.{get_or}
use Rattle.octets.specs.Octets.{put, Bytes}
use Rattle.octets.specs.BoolsLaws.{cases}
use Rattle.octets.specs.Lists.{All}
use Rattle.octets.specs.ListsLaws.{all_right}
use Rattle.octets.specs.PartsLaws.{get_or-part}
use Rattle.machine.specs.Limits.{rec_bytes, cell_bytes, most_of_source, top_of}
use Rattle.machine.specs.Codes.{role_receive}
use Rattle.machine.specs.Values.{Cell, Rec, Store, Key, same_key}
use Rattle.machine.specs.Chains.{first, chain_rows}
use Rattle.machine.specs.Layout.{free_cells_at, slots_at, rec_off, cell_off, rec_row, cell_row, cell_place, free_place, free_row, cell_at, rec_of, encode, decode}
use Rattle.machine.specs.Valid.{AtMost, Valid}
use Rattle.machine.specs.Find.{is_some}
use Rattle.machine.specs.Pieces.{new_cell, piece_at, rest}
use Rattle.machine.specs.Receive.{rec_key, found, replaced, with_piece, chunk_at, chunk_step}
use Rattle.machine.specs.Packet.{cells_needed, has_share}
use Rattle.machine.specs.Counting.{occurs}
use Rattle.packet.specs.Frame.{largest_piece}
use Rattle.machine_laws.specs.Counting.{self, one_inside}
use Rattle.machine_laws.specs.Keys.{key-eq, key-refl}
use Rattle.machine_laws.specs.FreeRow.{free-map}
use Rattle.machine_laws.specs.Fine.{slots-few, rising-below}
use Rattle.machine_laws.specs.Rows.{Held}
use Rattle.machine_laws.specs.StoreRows.{held-free_cells}
use Rattle.machine_laws.specs.Rep.{Rep, rep-encode}
use Rattle.machine_laws.specs.Walks.{head_byte, cells-once}
use Rattle.machine_writes.specs.Unheld
use Rattle.machine_writes.specs.Split.{Split, found-split}
use Rattle.machine_writes.specs.Swap.{held_store, row_is}
use Rattle.machine_steps.proofs.Find.{find-key}
use Rattle.machine_steps.proofs.ChunkValid.{chunk-valid}
use Rattle.machine_writes.specs.Links.{Links}
use Rattle.machine_writes.specs.InRange.{links}
use Rattle.records.specs.HeldAt.{place_at, rec_in, key_in, HeldAt}
use Rattle.records.specs.MetLaws.{valid, rep, held-here}
use Rattle.pieces.specs.InPlace.{spot_in, holds_index, rewritten, inserted_at, inserted, chunked, PieceFits}
use Rattle.pieces.specs.ReadLaws.{cell-next}
use Rattle.pieces.specs.SpotLaws.{below, onward, below-onward, put-new, PieceHeld, put-held}
use Rattle.pieces.specs.HeldLaws.{fine, spot_of, spot-some, spot-leads}
use Rattle.pieces.specs.RewriteLaws.{new-sized, rewrite-rep}
use Rattle.pieces.specs.InsertLaws.{insert_bytes, insert-rep}

-- a list that is not empty is its first element and the rest
parted : (l : List ℕ) → 1 ≤ length l → l ≡ first l ∷ rest l
parted [] h = absurd (omega arith)
parted (a ∷ l) h = refl

module _ (key : Key) (i : ℕ) (bytes : List ℕ) (r : Rec) (s : Store) (b : List ℕ) (v : Valid role_receive s) (rep : Rep s b) (e : found key s.held ≡ some r)
    (z : AtMost largest_piece bytes) where
  at : Split same_key rec_key key r s.held
  at = found-split same_key rec_key key r s.held e

  abbrev l : List Rec
  l = at.before

  abbrev m : List Rec
  m = at.behind

  abbrev FC : List ℕ
  FC = s.free_cells

  abbrev piece : Rec
  piece = with_piece (first FC) i bytes r

  -- the record with other slots and pieces
  abbrev pieced : ℕ → List Cell → Rec
  pieced n cs = record { place = r.place; label = r.label; slots = n; sending = r.sending; cells = cs }

  -- the record is replaced where it stands
  replaced-is : replaced piece s.held ≡ l ++ (piece ∷ m)
  replaced-is = at.swapped piece (sym (find-key same_key rec_key key-eq key-refl key r s.held e))

  -- ---- a held index

  module _ (held : is_some (piece_at i r.cells) ≡ true) where
    h : PieceHeld (first FC) i bytes r.cells
    h = put-held (first FC) i bytes 0 r.slots r.cells (fine role_receive s v l r m at.is).rises held

    parts : r.cells ≡ below i r.cells ++ (h.piece ∷ h.behind)
    parts = below-onward i r.cells ∙ ap (λ (x : List Cell). below i r.cells ++ x) h.is

    -- slots are large enough
    slots-stay : r.slots ≡ max r.slots (suc i)
    slots-stay =
        let q = (all_right (λ (c : Cell). c.index < r.slots) (below i r.cells) (h.piece ∷ h.behind)
        (subst (All (λ (c : Cell). c.index < r.slots)) parts (rising-below 0 r.slots r.cells (fine role_receive s v l r m at.is).rises))).0 in
        omega (arith, h.index)

    held-is : held_store s (l ++ (pieced r.slots (below i r.cells ++ (new_cell h.piece.place h.piece.index bytes ∷ h.behind)) ∷ m)) FC
        ≡ chunk_at (some r) i bytes s
    unfolding chunk_at
    held-is =
        rw (held, replaced-is)
        (λ t. held_store s (l ++ (pieced (slots-stay t)
        ((ap (λ (j : ℕ). below i r.cells ++ (new_cell h.piece.place j bytes ∷ h.behind)) h.index ∙ sym h.put) t) ∷ m)) FC)

    held-rep : Rep (chunk_at (some r) i bytes s) (rewritten b h.piece.place bytes)
    held-rep =
        subst (λ (t : Store). Rep t (rewritten b h.piece.place bytes)) held-is
        (rewrite-rep role_receive s v b rep l r m at.is (below i r.cells) h.piece h.behind parts bytes z)

    held-cell : get_or b (spot_in b r.place i) 0 ≡ h.piece.place
    held-cell = spot-leads role_receive s v l r m at.is b rep i ∙ ap (λ (x : List Cell). first (map cell_place x)) h.is

  -- ---- a new index

  module _ (new : is_some (piece_at i r.cells) ≡ false) (room : 1 ≤ length FC) where
    abbrev c : Cell
    c = new_cell (first FC) i bytes

    abbrev slots : ℕ
    slots = max r.slots (suc i)

    free : FC ≡ first FC ∷ rest FC
    free = parted FC room

    new_is : held_store s (l ++ (pieced slots (below i r.cells ++ (c ∷ onward i r.cells)) ∷ m)) (rest FC) ≡ chunk_at (some r) i bytes s
    unfolding chunk_at
    new_is =
        rw (new, replaced-is)
        (λ t. held_store s (l ++ (pieced slots (sym (put-new (first FC) i bytes r.cells new) t) ∷ m)) (rest FC))

    first-free : get_or b free_cells_at 0 ≡ first FC
    first-free = head_byte role_receive s v b rep free_cells_at (omega arith)

    behind-free : get_or b (cell_off (first FC)) 0 ≡ first (rest FC)
    behind-free =
        sym (cell-next b (first FC))
        ∙ ap (λ (x : List ℕ). get_or x 0 0)
        (subst (λ (x : List ℕ). Held (cell_at b) (chain_rows free_place (free_row cell_bytes) x)) free (held-free_cells s (cell_at b) rep.cells)).0
        ∙ ap first (free-map (rest FC))

    own-slots : get_or b (rec_off r.place + slots_at) 0 ≡ r.slots
    unfolding rec_row
    own-slots =
        sym (get_or-part b (rec_off r.place) rec_bytes slots_at (omega arith))
        ∙ ap (λ (x : List ℕ). get_or x slots_at 0) (row_is role_receive s v b rep l r m at.is)

    new-bytes : inserted b r.place (spot_in b r.place i) i bytes
        ≡ insert_bytes role_receive s v b rep l r m at.is (below i r.cells) (onward i r.cells)
        (below-onward i r.cells) c (new-sized (first FC) i bytes z) (rest FC) free slots
    unfolding inserted
    new-bytes =
        let p : ℕ = first FC in
        ap (λ (p : ℕ). inserted_at p b r.place (spot_in b r.place i) i bytes) first-free
        ∙ (λ t. put (put (put (put b (rec_off r.place + slots_at) (max (own-slots t) (suc i) ∷ []))
        (cell_off p) (cell_row (spot-leads role_receive s v l r m at.is b rep i t) c))
        free_cells_at (behind-free t ∷ [])) (spot_of role_receive s v l r m at.is b rep i t) (p ∷ []))

    new-rep : Rep (chunk_at (some r) i bytes s) (inserted b r.place (spot_in b r.place i) i bytes)
    new-rep =
        subst (Rep (chunk_at (some r) i bytes s)) (sym new-bytes)
        (subst (λ (t : Store). Rep t
        (insert_bytes role_receive s v b rep l r m at.is (below i r.cells) (onward i r.cells)
        (below-onward i r.cells) c (new-sized (first FC) i bytes z) (rest FC) free slots)) new_is
        (insert-rep role_receive s v b rep l r m at.is (below i r.cells) (onward i r.cells)
        (below-onward i r.cells) c (new-sized (first FC) i bytes z) (rest FC) free slots))

  -- ---- both

  pub chunk-rep : cells_needed i r ≤ length FC → Rep (chunk_at (some r) i bytes s) (chunked b r.place i bytes)
  unfolding chunked
  chunk-rep n =
      let q = spot-some role_receive s v l r m at.is b rep i in
      let old : List ℕ = rewritten b (get_or b (spot_in b r.place i) 0) bytes in
      let new : List ℕ = inserted b r.place (spot_in b r.place i) i bytes in
      cases (is_some (piece_at i r.cells))
      (λ y. subst (λ t. Rep (chunk_at (some r) i bytes s) (cond t old new)) (sym (q ∙ y))
      (subst (λ (k : ℕ). Rep (chunk_at (some r) i bytes s) (rewritten b k bytes)) (sym (held-cell y)) (held-rep y)))
      (λ y. subst (λ t. Rep (chunk_at (some r) i bytes s) (cond t old new)) (sym (q ∙ y)) (new-rep y (rw y at n)))

  pub chunk-is : i ≤ top_of r.label.total → has_share most_of_source i s r ≡ true → cells_needed i r ≤ length FC
      → chunked b r.place i bytes ≡ encode (chunk_step key i bytes s)
  chunk-is top w n =
      rep-encode role_receive (chunk_at (some r) i bytes s) (chunk-valid key i bytes r s e top w n z v) (chunked b r.place i bytes) (chunk-rep n)
      ∙ ap (λ (o : Option Rec). encode (chunk_at o i bytes s)) (sym e)

  -- a new index finds a free cell
  first-in : (n : List ℕ) → 1 ≤ length n → 0 < occurs (first n) n
  first-in [] h = absurd (omega arith)
  first-in (a ∷ n) h = omega (arith, self a)

  pub chunk-free : cells_needed i r ≤ length FC → holds_index b (spot_in b r.place i) i ≡ false → 0 < get_or b free_cells_at 0
  chunk-free n h =
      let y : is_some (piece_at i r.cells) ≡ false = sym (spot-some role_receive s v l r m at.is b rep i) ∙ h in
      let k : ℕ = first FC in
      let p = one_inside s.setup.cells k (omega (arith, cells-once role_receive s v k, first-in FC (rw y at n))) in
      omega (arith, p.0, head_byte role_receive s v b rep free_cells_at (omega arith))

  pub chunk-fits : i ≤ top_of r.label.total → PieceFits r.place i (length bytes)
  chunk-fits top =
      let w = Unheld.within role_receive s v b rep l r m at.is in
      let f = fine role_receive s v l r m at.is in
      record { some = w.0; most = w.1; index = omega (arith, slots-few r.label.total f.total); size = z.0 }

-- ---- of the held record that a link leads to

-- an index to top that is held, or finds a free cell and a share of its source left: rows 8 to 11, 28 and 12 are past
module _ (b : List ℕ) (at i : ℕ) (bytes : List ℕ) (y : Bytes b) (h : HeldAt role_receive b at) (z : AtMost largest_piece bytes)
    (top : i ≤ top_of (rec_in b at).label.total) (share : has_share most_of_source i (decode b) (rec_in b at) ≡ true)
    (room : cells_needed i (rec_in b at) ≤ length (decode b).free_cells) where
  -- what the step makes of the store
  pub put_is : chunked b (place_at b at) i bytes ≡ encode (chunk_step (key_in b at) i bytes (decode b))
  unfolding rec_of
  put_is =
      chunk-is (key_in b at) i bytes (rec_in b at) (decode b) b (valid role_receive b y h.sound)
      (rep role_receive b y h.sound) (held-here role_receive b y at h) z top share room

  -- what the code asks
  pub put-asks : Links b × PieceFits (place_at b at) i (length bytes) × (holds_index b (spot_in b (place_at b at) i) i ≡ false → 0 < get_or b free_cells_at 0)
  unfolding rec_of
  put-asks =
      let v = valid role_receive b y h.sound in
      let p = rep role_receive b y h.sound in
      let e = held-here role_receive b y at h in (
        links role_receive b y h.sound,
        chunk-fits (key_in b at) i bytes (rec_in b at) (decode b) b v p e z top,
        chunk-free (key_in b at) i bytes (rec_in b at) (decode b) b v p e z room,
      )
