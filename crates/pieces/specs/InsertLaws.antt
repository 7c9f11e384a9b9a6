-- A piece comes at a new index: it takes the first free cell and goes into its record's chain, between the pieces below its index and the others.
-- Assumes nothing.
use Rattle.std.specs.Prelude.{ℕ, ◌+◌, ◌≤◌, ◌<◌, ◌≡◌, length, eqb}
use Rattle.std.proofs.Math.Decide.{ℕ_discrete}
use Rattle.std.proofs.Common.{arith, ◌∙◌, subst}
use Rattle.std.proofs.Math.Path.{refl, sym, ap}
use mathlib.Core.List.{List, [], ◌∷◌, ◌++◌, map, append_assoc}
use Rattle.std.proofs.Math.ListN.{get_or}
use Rattle.octets.specs.Octets.{part, put}
use Rattle.octets.specs.Bools.{one}
use Rattle.octets.specs.BoolsLaws.{one-le}
use Rattle.octets.specs.Lists.{All}
use Rattle.octets.specs.ListsLaws.{all_left, all_right, all_join, map-all}
use Rattle.octets.specs.PartsLaws.{length-put, get_or-part}
use Rattle.machine.specs.Limits.{head_bytes, rec_count, rec_bytes, cell_bytes, store_bytes}
use Rattle.machine.specs.Codes.{held_kind}
use Rattle.machine.specs.Values.{Cell, Rec, Store}
use Rattle.machine.specs.Rows.{Row, pad}
use Rattle.machine_laws.specs.Rows.{places, Held, held-left, held-right, held-join, held_same}
use Rattle.machine.specs.Chains.{first, chain_rows}
use Rattle.machine.specs.Counting.{occurs, inside}
use Rattle.machine.specs.Layout.{form, free_cells_at, first_cell_at, slots_at, rec_place, cell_place, free_place, free_row, rec_row}
use Rattle.machine.specs.Layout.{cell_row, rec_rows, pieces_rows, head_row, rec_off, cell_off, rec_at, cell_at}
use Rattle.machine.specs.Sound.{piece_places}
use Rattle.machine.specs.Valid.{CellSized, RecSized, Valid}
use Rattle.machine_laws.specs.Counting.{self, few-inside, one_inside}
use Rattle.machine_laws.specs.Chains.{lead, rows_to, chain-places, chain-append}
use Rattle.machine_laws.specs.FreeRow.{free-map}
use Rattle.machine_laws.specs.RecRow.{rec-length}
use Rattle.machine_laws.specs.CellRow.{cell-length}
use Rattle.machine_laws.specs.StoreRows.{pieces-places, rec-places, held-free_cells, held-pieces, held-cells}
use Rattle.machine_laws.specs.Rep.{Rep, rec-once}
use Rattle.machine_laws.specs.Write.{Wrote, write-field, write-row, held-stay, rec-leaves-head, rec-leaves-cells}
use Rattle.machine_laws.specs.Write.{cell-leaves-head, cell-leaves-recs, head-write, head-leaves-recs, head-leaves-cells}
use Rattle.machine_writes.specs.Unheld
use Rattle.machine_writes.specs.Swap.{held_store, row_is, swap-recs}
use Rattle.machine_writes.specs.Release.{held-around}
use Rattle.pieces.specs.SpotLaws.{link_behind}
use Rattle.pieces.specs.InPlace.{first_link}
use Rattle.pieces.specs.HeldLaws.{around, sized, pieces-once, pieces-held}
use Rattle.pieces.specs.RecLinkLaws.{Led, lead-on}

-- the pieces of a record among those of others
held_with : (f : ℕ → List ℕ) (l : List Rec) (r : Rec) (n : List Rec) → Held f (pieces_rows (l ++ n))
    → Held f (chain_rows cell_place cell_row r.cells) → Held f (pieces_rows (l ++ (r ∷ n)))
held_with f [] r n h k = held-join f (chain_rows cell_place cell_row r.cells) (pieces_rows n) k h
held_with f (a ∷ l) r n h k =
    let rows = chain_rows cell_place cell_row a.cells in
    held-join f rows (pieces_rows (l ++ (r ∷ n))) (held-left f rows (pieces_rows (l ++ n)) h) (held_with f l r n (held-right f rows (pieces_rows (l ++ n)) h) k)

occurs-two : (k : ℕ) (l n : List Cell) → occurs k (map cell_place (l ++ n)) ≡ occurs k (map cell_place l) + occurs k (map cell_place n)
occurs-two k [] n = omega arith
occurs-two k (a ∷ l) n = omega (arith, occurs-two k l n)

-- the slots and the first cell of a record's row
slots-row : (kind next slots : ℕ) (r : Rec)
    → put (rec_row kind next r) slots_at (slots ∷ []) ≡ rec_row kind next
    (record { place = r.place; label = r.label; slots = slots; sending = r.sending; cells = r.cells })
unfolding put rec_row
slots-row kind next slots r = refl

first-row : (kind next p : ℕ) (r : Rec) (cells : List Cell) → p ≡ first (map cell_place cells)
    → put (rec_row kind next r) first_cell_at (p ∷ []) ≡ rec_row kind next
    (record { place = r.place; label = r.label; slots = r.slots; sending = r.sending; cells = cells })
unfolding put rec_row
first-row kind next p r cells e = ap (λ (x : ℕ). put (rec_row kind next r) first_cell_at (x ∷ [])) e

module _ (role : ℕ) (s : Store) (v : Valid role s) (b : List ℕ) (rep : Rep s b) (l : List Rec) (r : Rec) (m : List Rec) (is : s.held ≡ l ++ (r ∷ m))
    (cl cm : List Cell) (parts : r.cells ≡ cl ++ cm) (c : Cell) (z : CellSized c) (spare : List ℕ) (free : s.free_cells ≡ c.place ∷ spare) (slots : ℕ) where
  abbrev C : ℕ
  C = s.setup.cells

  abbrev kind : ℕ
  kind = held_kind s.setup.role

  abbrev next : ℕ
  next = first (map rec_place m)

  abbrev k : ℕ
  k = r.place

  abbrev p : ℕ
  p = c.place

  abbrev x : ℕ
  x = first (map cell_place cm)

  -- r with the piece c between cl and cm, and other slots
  abbrev pub joined_by : Rec
  joined_by = record { place = r.place; label = r.label; slots = slots; sending = r.sending; cells = cl ++ (c ∷ cm) }

  abbrev t : Store
  t = held_store s (l ++ (joined_by ∷ m)) spare

  -- the writes, one after the other: slots, the cell's row, the head's link to the first free cell, the link behind cl
  abbrev b1 : List ℕ
  b1 = put b (rec_off k + slots_at) (slots ∷ [])

  abbrev b2 : List ℕ
  b2 = put b1 (cell_off p) (cell_row x c)

  abbrev b3 : List ℕ
  b3 = put b2 free_cells_at (first spare ∷ [])

  abbrev pub insert_bytes : List ℕ
  insert_bytes = put b3 (link_behind (first_link k) cl) (p ∷ [])

  -- ---- places

  within : (0 < k) × (k ≤ rec_count)
  within = Unheld.within role s v b rep l r m is

  once : (j : ℕ) → one (eqb j p) + occurs j spare + (occurs j (map cell_place cl) + occurs j (map cell_place cm)) + occurs j
      (piece_places (l ++ (m ++ s.whole))) ≡ one (inside C j)
  once j =
      omega (
        arith,
        pieces-once role s v l r m is j,
        ap (occurs j) free,
        ap (λ (y : List Cell). occurs j (map cell_place y)) parts ∙ occurs-two j cl cm,
      )

  p-in : (0 < p) × (p ≤ C)
  p-in = one_inside C p (omega (arith, once p, self p))

  -- ---- up to the link

  w1 : Wrote head_bytes rec_bytes k (put (rec_at b k) slots_at (slots ∷ [])) b b1
  w1 = write-field head_bytes rec_bytes k slots_at (slots ∷ []) b within.0 (omega (arith, within.0, within.1, rep.size)) (omega arith)

  w2 : Wrote (store_bytes 0) cell_bytes p (cell_row x c) b1 b2
  w2 = write-row (store_bytes 0) cell_bytes p (cell_row x c) b1 p-in.0 (omega (arith, p-in.0, p-in.1, w1.long, rep.size)) (cell-length x c z)

  size2 : length b2 ≡ store_bytes C
  size2 = w2.long ∙ w1.long ∙ rep.size

  size3 : length b3 ≡ store_bytes C
  size3 = length-put b2 free_cells_at (first spare ∷ []) (omega (arith, size2)) ∙ size2

  head3 : part b3 0 head_bytes ≡ put (head_row s) free_cells_at (first spare ∷ [])
  head3 =
      head-write free_cells_at (first spare ∷ []) b2 (omega arith) (omega (arith, size2))
      ∙ ap (λ (y : List ℕ). put y free_cells_at (first spare ∷ []))
      (cell-leaves-head p (cell_row x c) b1 b2 w2 ∙ rec-leaves-head k (put (rec_at b k) slots_at (slots ∷ [])) b b1 w1 ∙ rep.head)

  recs3 : (j : ℕ) → j ≤ rec_count → rec_at b3 j ≡ rec_at b1 j
  recs3 j h = head-leaves-recs free_cells_at (first spare ∷ []) b2 (omega arith) (omega (arith, size2)) j ∙ cell-leaves-recs p (cell_row x c) b1 b2 w2 j h

  cells3 : (j : ℕ) → cell_at b3 j ≡ cell_at b2 j
  cells3 j = head-leaves-cells free_cells_at (first spare ∷ []) b2 (omega arith) (omega (arith, size2)) j

  -- r's row with its slots
  abbrev slotted : Rec
  slotted = record { place = r.place; label = r.label; slots = slots; sending = r.sending; cells = r.cells }

  row3 : rec_at b3 k ≡ rec_row kind next slotted
  row3 = recs3 k within.1 ∙ w1.here ∙ ap (λ (y : List ℕ). put y slots_at (slots ∷ [])) (row_is role s v b rep l r m is) ∙ slots-row kind next slots r

  -- rows of other cells stay
  stay : (n : List Row) → ((j : ℕ) → occurs j (places n) + one (eqb j p) ≤ one (inside C j)) → Held (cell_at b) n → Held (cell_at b3) n
  stay n i h =
      held_same (cell_at b2) (cell_at b3) n (λ j q. cells3 j)
      (held-stay (store_bytes 0) cell_bytes p (cell_row x c) b1 b2 w2 n (omega (arith, i 0)) (omega (arith, i p, self p, one-le (inside C p)))
      (held_same (cell_at b) (cell_at b1) n (λ j q. rec-leaves-cells k (put (rec_at b k) slots_at (slots ∷ [])) b b1 w1 within.1 j) h))

  -- ---- the chain before and after

  two : Held (cell_at b) (rows_to cell_place cell_row x cl ++ chain_rows cell_place cell_row cm)
  two = subst (Held (cell_at b)) (ap (chain_rows cell_place cell_row) parts ∙ chain-append cell_place cell_row cl cm) (pieces-held role s v l r m is b rep)

  to-places : (j : ℕ) → occurs j (places (rows_to cell_place cell_row x cl)) ≡ occurs j (map cell_place cl)
  to-places j = ap (occurs j) (go cl)
    where
      go : (n : List Cell) → places (rows_to cell_place cell_row x n) ≡ map cell_place n
      go [] = refl
      go (a ∷ n) = ap (λ (y : List ℕ). a.place ∷ y) (go n)

  leads3 : get_or b3 (first_link k) 0 ≡ lead x (map cell_place cl)
  unfolding rec_row
  leads3 =
      sym (get_or-part b3 (rec_off k) rec_bytes first_cell_at (omega arith)) ∙ ap (λ (y : List ℕ). get_or y first_cell_at 0) row3
      ∙ ap (λ (y : List Cell). first (map cell_place y)) parts ∙ firsts cl
    where
      firsts : (n : List Cell) → first (map cell_place (n ++ cm)) ≡ lead x (map cell_place n)
      firsts [] = refl
      firsts (a ∷ n) = refl

  led : Led k p cl b3 insert_bytes
  led =
      lead-on C k p x cl b3 within.0 within.1 size3
      (map-all cell_place (λ y. (0 < y) × (y ≤ C)) cl (few-inside C (map cell_place cl) (λ j. omega (arith, once j))))
      (λ j. omega (arith, once j, one-le (inside C j))) leads3
      (stay (rows_to cell_place cell_row x cl) (λ j. omega (arith, once j, to-places j))
      (held-left (cell_at b) (rows_to cell_place cell_row x cl) (chain_rows cell_place cell_row cm) two))

  keep : (n : List Row) → ((j : ℕ) → occurs j (places n) + occurs j (map cell_place cl) ≤ one (inside C j)) → Held (cell_at b3) n → Held (cell_at insert_bytes) n
  keep n i h = led.rows n (omega (arith, i 0)) (λ j q. omega (arith, i j, one-le (inside C j))) h

  cm-places : (j : ℕ) → occurs j (places (chain_rows cell_place cell_row cm)) ≡ occurs j (map cell_place cm)
  cm-places j = ap (occurs j) (chain-places cell_place cell_row cm)

  now-chain : Held (cell_at insert_bytes) (chain_rows cell_place cell_row (cl ++ (c ∷ cm)))
  now-chain =
      let back = chain_rows cell_place cell_row (c ∷ cm) in
      let stayed = stay (chain_rows cell_place cell_row cm) (λ j. omega (arith, once j, cm-places j))
      (held-right (cell_at b) (rows_to cell_place cell_row x cl) (chain_rows cell_place cell_row cm) two) in
      subst (Held (cell_at insert_bytes)) (sym (chain-append cell_place cell_row cl (c ∷ cm)))
      (held-join (cell_at insert_bytes) (rows_to cell_place cell_row p cl) back led.chain
      (keep back (λ j. omega (arith, once j, cm-places j)) (cells3 p ∙ w2.here, stayed)))

  -- ---- other cells

  now-free : Held (cell_at insert_bytes) (chain_rows free_place (free_row cell_bytes) spare)
  now-free =
      let e : (j : ℕ) → occurs j (places (chain_rows free_place (free_row cell_bytes) spare)) ≡ occurs j spare =
      λ j. ap (occurs j) (chain-places free_place (free_row cell_bytes) spare ∙ free-map spare) in
      keep (chain_rows free_place (free_row cell_bytes) spare) (λ j. omega (arith, once j, e j))
      (stay (chain_rows free_place (free_row cell_bytes) spare) (λ j. omega (arith, once j, e j))
      (subst (λ (y : List ℕ). Held (cell_at b) (chain_rows free_place (free_row cell_bytes) y)) free (held-free_cells s (cell_at b) rep.cells)).1)

  now-others : Held (cell_at insert_bytes) (pieces_rows (l ++ (m ++ s.whole)))
  now-others =
      let e : (j : ℕ) → occurs j (places (pieces_rows (l ++ (m ++ s.whole)))) ≡ occurs j (piece_places (l ++ (m ++ s.whole))) =
      λ j. ap (occurs j) (pieces-places (l ++ (m ++ s.whole))) in
      keep (pieces_rows (l ++ (m ++ s.whole))) (λ j. omega (arith, once j, e j))
      (stay (pieces_rows (l ++ (m ++ s.whole))) (λ j. omega (arith, once j, e j))
      (held-around (cell_at b) l r (m ++ s.whole)
      (subst (λ (y : List Rec). Held (cell_at b) (pieces_rows y)) (around role s v l r m is) (held-pieces s (cell_at b) rep.cells))))

  now-pieces : Held (cell_at insert_bytes) (pieces_rows ((l ++ (joined_by ∷ m)) ++ s.whole))
  now-pieces =
      subst (λ (y : List Rec). Held (cell_at insert_bytes) (pieces_rows y)) (sym (append_assoc l (joined_by ∷ m) s.whole))
      (held_with (cell_at insert_bytes) l joined_by (m ++ s.whole) now-others now-chain)

  -- ---- records

  row_now : rec_at insert_bytes k ≡ rec_row kind next joined_by
  row_now =
      led.own ∙ ap (λ (y : List ℕ). put y first_cell_at (lead p (map cell_place cl) ∷ [])) row3
      ∙ first-row kind next (lead p (map cell_place cl)) slotted (cl ++ (c ∷ cm)) (leads cl)
    where
      leads : (n : List Cell) → lead p (map cell_place n) ≡ first (map cell_place (n ++ (c ∷ cm)))
      leads [] = refl
      leads (a ∷ n) = refl

  now-sized : RecSized joined_by
  now-sized =
      let y = sized role s v l r m is in
      let cells = subst (All CellSized) parts y.cells in
      record {
        label = y.label;
        created = y.created;
        end = y.end;
        cells = all_join CellSized cl (c ∷ cm) (all_left CellSized cl cm cells) (z, all_right CellSized cl cm cells);
      }

  -- the bytes with nothing but that row written
  abbrev e : List ℕ
  e = put b (rec_off k) (rec_row kind next joined_by)

  we : Wrote head_bytes rec_bytes k (rec_row kind next joined_by) b e
  we =
      write-row head_bytes rec_bytes k (rec_row kind next joined_by) b within.0
      (omega (arith, within.0, within.1, rep.size)) (rec-length kind next joined_by now-sized)

  same-places : (n : List Rec) → map rec_place (n ++ (joined_by ∷ m)) ≡ map rec_place (n ++ (r ∷ m))
  same-places [] = refl
  same-places (a ∷ n) = ap (λ (y : List ℕ). rec_place a ∷ y) (same-places n)

  rec-in : (j : ℕ) → 0 < occurs j (places (rec_rows t)) → (0 < j) × (j ≤ rec_count)
  rec-in j q =
      let d : places (rec_rows t) ≡ places (rec_rows s) =
      rec-places t ∙ ap (λ (y : List ℕ). s.free ++ (y ++ map rec_place s.whole)) (same-places l ∙ ap (map rec_place) (sym is)) ∙ sym (rec-places s) in
      one_inside rec_count j (omega (arith, ap (occurs j) d ∙ rec-once role s v j))

  now-recs : Held (rec_at insert_bytes) (rec_rows t)
  now-recs =
      held_same (rec_at e) (rec_at insert_bytes) (rec_rows t) same (swap-recs role s v b rep l r m is joined_by refl e we)
    where
      same : (j : ℕ) → 0 < occurs j (places (rec_rows t)) → rec_at insert_bytes j ≡ rec_at e j
      same j q =
          let i = rec-in j q in
          elim (ℕ_discrete j k) [
            | yes y ↦ ap (rec_at insert_bytes) y ∙ row_now ∙ sym we.here ∙ ap (rec_at e) (sym y)
            | no n ↦ led.others j i.0 i.1 n ∙ recs3 j i.1 ∙ w1.others j i.0 n ∙ sym (we.others j i.0 n)
          ]

  -- ---- the head

  heads : put (head_row s) free_cells_at (first spare ∷ []) ≡ head_row t
  unfolding put
  heads =
      ap (λ (y : List ℕ). pad head_bytes
      (first s.free ∷ first y ∷ first (map rec_place s.whole) ∷ first spare ∷ form ∷ s.setup.cells ∷ s.setup.role ∷ []))
      (ap (map rec_place) is ∙ sym (same-places l))

  pub insert-rep : Rep t insert_bytes
  insert-rep = record {
    size = led.long ∙ size3;
    head = led.head ∙ head3 ∙ heads;
    recs = now-recs;
    cells = held-cells t (cell_at insert_bytes) now-free now-pieces;
  }
