-- A held id that starts again, from bytes to stores: its row is written behind the link, and its cells are freed. Assumes nothing.
use Rattle.std.specs.Prelude.{ℕ, ◌+◌, ◌≤◌, ◌≡◌, ◌||◌, get_or, ltb}
use Rattle.std.proofs.Common.{arith, ◌∙◌, subst, drop_of_length-le}
use Rattle.std.proofs.Math.Path.{refl, sym, ap}
use mathlib.Core.List.{List, [], ◌∷◌, ◌++◌, map, append-nil}
use Rattle.std.proofs.Math.Option.{Option, some}
use Rattle.std.proofs.Math.ListN.{length}
use Rattle.octets.specs.Octets.{put, Bytes}
use Rattle.octets.specs.PartsLaws.{get_or-put-before}
use Rattle.machine.specs.Limits.{head_bytes, rec_bytes, store_bytes}
use Rattle.machine.specs.Codes.{role_receive, held_kind, kind_arriving}
use Rattle.machine.specs.Values.{Label, Rec, Store, Key, key_of}
use Rattle.machine.specs.Chains.{first, link}
use Rattle.machine.specs.Find.{is_some}
use Rattle.machine.specs.Layout.{free_cells_at, first_cell_at, rec_off, cell_place, rec_row, rec_at, cell_at, rec_of, encode, decode}
use Rattle.machine.specs.Valid.{Valid}
use Rattle.machine.specs.Receive.{found, started, init_at}
use Rattle.machine_laws.specs.RecRow.{rec-length}
use Rattle.machine_laws.specs.Walks.{head_byte}
use Rattle.machine_laws.specs.Write.{Wrote, write-field, rec-leaves-cells}
use Rattle.machine_writes.specs.Encodes
use Rattle.machine_writes.specs.FreeCells.{cells_freed}
use Rattle.machine_writes.specs.Unheld.{rec_tail, rec-parts}
use Rattle.machine_steps.proofs.Init.{started-valid}
use Rattle.machine_steps.specs.LabelFine.{LabelFine}
use Rattle.records.specs.HeldAt.{place_at, rec_in, key_in, HeldAt}
use Rattle.records.specs.MetLaws.{valid, rep, held-here, here-key, here-sized, here-within, here-not-whole, here-links}
use Rattle.records.specs.AroundLaws.{next_here, around-row, around-first}
use Rattle.records.specs.HeldPiecesLaws.{pieces-once, pieces-chain}
use Rattle.records.specs.Clearing.{clear_from, Clearable}
use Rattle.records.specs.ClearedLaws.{links-chain, chain-put, linked-same, clear-freed}
use Rattle.records.specs.Opening.{FieldsFit, new_row}
use Rattle.records.specs.OpenedLaws.{new-row, row-length}

-- all of a list but its first element is written
put-behind : (n : ℕ) (t v : List ℕ) → length t ≤ length v → put (n ∷ t) 1 v ≡ n ∷ v
unfolding put
put-behind n t v h =
    let past : length (n ∷ t) ≤ 1 + length v = omega arith in
    ap (λ (l : List ℕ). n ∷ (v ++ l)) (drop_of_length-le (n ∷ t) past) ∙ ap (λ (l : List ℕ). n ∷ l) (append-nil v)

module _ (b : List ℕ) (y : Bytes b) (at : ℕ) (g : HeldAt role_receive b at) (h : Label) (z : FieldsFit h) where
  abbrev p : ℕ
  p = place_at b at

  abbrev r : Rec
  r = rec_in b at

  abbrev s : Store
  s = decode b

  v : Valid role_receive s
  v = valid role_receive b y g.sound

  abbrev e : found (key_in b at) s.held ≡ some r
  e = held-here role_receive b y at g

  abbrev kind : ℕ
  kind = held_kind s.setup.role

  abbrev next : ℕ
  next = next_here role_receive b y at g

  abbrev row : List ℕ
  row = new_row kind_arriving 0 h 0 0

  long : length row ≡ 327
  long = row-length kind_arriving 0 h z 0 0

  -- the row is written behind its link
  abbrev c : List ℕ
  c = put b (rec_off p + 1) row

  fits : rec_off p + 1 + length row ≤ store_bytes 0
  fits = let i = here-within role_receive b y at g in omega (arith, i.0, i.1, long)

  row_is : put (rec_at b p) 1 row ≡ rec_row kind next (started p h)
  unfolding rec_of
  row_is =
      let old : length (rec_tail kind r) ≤ length row = omega (arith, long, ap length (rec-parts kind next r), rec-length kind next r (here-sized role_receive b y at g)) in
      ap (λ (l : List ℕ). put l 1 row) (around-row role_receive b y at g ∙ rec-parts kind next r)
      ∙ put-behind next (rec_tail kind r) row old
      ∙ ap (λ (l : List ℕ). next ∷ l) (new-row kind_arriving h z 0 0 p [])
      ∙ sym (rec-parts kind_arriving next (started p h))
      ∙ (λ i. rec_row (sym (ap held_kind v.in_role) i) next (started p h))

  wrote : Wrote head_bytes rec_bytes p (rec_row kind next (started p h)) b c
  wrote =
      let i = here-within role_receive b y at g in
      subst (λ (l : List ℕ). Wrote head_bytes rec_bytes p l b c) row_is
      (write-field head_bytes rec_bytes p 1 row b i.0 (omega (arith, i.0, i.1, (here-links role_receive b y at g).long)) (omega (arith, long)))

  -- its first cell
  abbrev cell : ℕ
  cell = get_or b (rec_off p + first_cell_at) 0

  kept : get_or c free_cells_at 0 ≡ get_or b free_cells_at 0
  kept = get_or-put-before b (rec_off p + 1) row (omega (arith, fits, (here-links role_receive b y at g).long)) free_cells_at (omega arith)

  chain : Clearable cell (get_or c free_cells_at 0) c
  chain =
      let i = here-within role_receive b y at g in
      let k = here-links role_receive b y at g in
      chain-put cell b (rec_off p + 1) row (links-chain b cell k (k.firsts p i.0 i.1)) fits kept

  cells-freed : clear_from cell c ≡ cells_freed c (map cell_place r.cells) s.free_cells
  cells-freed =
      let w = rep role_receive b y g.sound in
      let same : (k : ℕ) → cell_at c k ≡ cell_at b k = rec-leaves-cells p (rec_row kind next (started p h)) b c wrote (here-within role_receive b y at g).1 in
      ap (λ (x : ℕ). clear_from x c) (around-first role_receive b y at g)
      ∙ clear-freed (first s.free_cells) s.setup.cells (map cell_place r.cells) s.free_cells c v.most (wrote.long ∙ w.size) (pieces-once role_receive s v (key_in b at) r e)
      (linked-same (link (cell_at b)) (link (cell_at c)) (map cell_place r.cells) (λ k q. ap (λ (l : List ℕ). get_or l 0 0) (same k)) (pieces-chain role_receive s v (key_in b at) r e b w))
      refl
      (kept ∙ head_byte role_receive s v b w free_cells_at (omega arith))

  module _ (fine : LabelFine h) (same : key_of h ≡ key_in b at) where
    here : found (key_of h) s.held ≡ some r
    here = ap (λ (k : Key). found k s.held) same ∙ e

    restart-valid : Valid role_receive (init_at (some r) h s)
    restart-valid =
        subst (λ (o : Option Rec). Valid role_receive (init_at o h s)) here
        (started-valid h s (ap (λ (k : Key). found k s.whole) same ∙ here-not-whole role_receive b y at g) (ap (λ (o : Option Rec). is_some o || ltb 0 (length s.free)) here) fine v)

    encoded : clear_from cell c ≡ encode (init_at (some r) h s)
    unfolding init_at rec_of
    encoded =
        cells-freed
        ∙ Encodes.restart-encode role_receive b y g.sound (key_in b at) r e (started p h) refl (same ∙ sym (here-key role_receive b y at g)) c wrote refl restart-valid

  -- as the calls write it: m is b with the row, l is m with the cells freed
  module _ (m : List ℕ) (o x : ℕ) (at_row : o ≡ rec_off p) (w : m ≡ put b (o + 1) row) (from : x ≡ get_or b (o + first_cell_at) 0) where
    m-is : m ≡ c
    m-is = w ∙ (λ i. put b (at_row i + 1) row)

    x-is : x ≡ cell
    x-is = from ∙ (λ i. get_or b (at_row i + first_cell_at) 0)

    pub restart-chain : Clearable x (get_or m free_cells_at 0) m
    restart-chain = rw (m-is, x-is) chain

    pub restarted : LabelFine h → key_of h ≡ key_in b at → (l : List ℕ) → l ≡ clear_from x m → l ≡ encode (init_at (some r) h s)
    restarted fine same l q = q ∙ (λ i. clear_from (x-is i) (m-is i)) ∙ encoded fine same

pub ruleset restarts = (restart-chain, restarted)
