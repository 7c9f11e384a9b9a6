-- A held record is changed where it stands: its row is written, and everything else stays. With the same pieces that is all; a restart also frees the
-- pieces it had. Assumes nothing.
use Rattle.std.specs.Prelude.{ℕ, ◌+◌, ◌≤◌, ◌<◌, ◌≡◌, length}
use Rattle.std.proofs.Common.{arith, sym, ◌∙◌, subst}
use Rattle.std.proofs.Math.Path.{refl, ap}
use mathlib.Core.List.{List, [], ◌∷◌, ◌++◌, map, append_assoc}
use Rattle.octets.specs.Octets.{part, put}
use Rattle.octets.specs.Bools.{one}
use Rattle.octets.specs.BoolsLaws.{one-le}
use Rattle.machine.specs.Limits.{head_bytes, rec_count, rec_bytes, cell_bytes, store_bytes}
use Rattle.machine.specs.Codes.{held_kind}
use Rattle.machine.specs.Values.{Cell, Rec, Store}
use Rattle.machine.specs.Rows.{Row, pad}
use Rattle.machine_laws.specs.Rows.{places, Held, held-right, held_same}
use Rattle.machine.specs.Chains.{first, chain_rows}
use Rattle.machine.specs.Counting.{occurs, inside}
use Rattle.machine.specs.Layout.{form, rec_place, cell_place, free_place, free_row, free_cells_at, rec_row, cell_row, rec_rows, cell_rows, pieces_rows, head_row}
use Rattle.machine.specs.Layout.{rec_at, cell_at}
use Rattle.machine.specs.Sound.{piece_places}
use Rattle.machine.specs.Valid.{Valid}
use Rattle.machine.specs.Receive.{freed_cells}
use Rattle.machine_laws.specs.Counting.{one_inside}
use Rattle.machine_laws.specs.Chains.{lead, rows_to}
use Rattle.machine_laws.specs.StoreRows.{free_rows, whole_rows, pieces-places, rec-places, held-held, held-cells, held-free_cells, held-pieces}
use Rattle.machine_laws.specs.Rep.{Rep, rec-once}
use Rattle.machine_laws.specs.Walks.{cells-once}
use Rattle.machine_laws.specs.Write.{Wrote, rec-leaves-head, rec-leaves-cells, chain-swap}
use Rattle.machine_writes.specs.Link.{rows_append, chain-rows}
use Rattle.machine_writes.specs.Unheld
use Rattle.machine_writes.specs.FreeCells.{cells_freed, freed-long, freed-recs, freed-head, freed-lines, freed-chain}
use Rattle.machine_writes.specs.Release.{pieces-around, held-around}

-- s with the records H held and other free cells
abbrev pub held_store : Store → List Rec → List ℕ → Store
held_store s H spare = record { setup = s.setup; free = s.free; held = H; whole = s.whole; free_cells = spare }

module _ (role : ℕ) (s : Store) (v : Valid role s) (b : List ℕ) (rep : Rep s b) (l : List Rec) (r : Rec) (m : List Rec) (is : s.held ≡ l ++ (r ∷ m)) where
  abbrev kind : ℕ
  kind = held_kind s.setup.role

  abbrev next : ℕ
  next = first (map rec_place m)

  -- the record's row as it is
  pub row_is : rec_at b r.place ≡ rec_row kind next r
  row_is =
      let all = subst (Held (rec_at b)) (chain-rows rec_place (rec_row kind) s.held ∙ ap (rows_to rec_place (rec_row kind) 0) is
      ∙ rows_append rec_place (rec_row kind) 0 l (r ∷ m)) (held-held s (rec_at b) rep.recs) in
      (held-right (rec_at b) (rows_to rec_place (rec_row kind) r.place l) (rows_to rec_place (rec_row kind) 0 (r ∷ m)) all).0 ∙ ap (λ (x : ℕ). rec_row kind x r) (firsts m)
    where
      firsts : (n : List Rec) → lead 0 (map rec_place n) ≡ first (map rec_place n)
      firsts [] = refl
      firsts (a ∷ n) = refl

  -- c is b with the row of the record r' in the place of r's
  module _ (r' : Rec) (at : r'.place ≡ r.place) (c : List ℕ) (w : Wrote head_bytes rec_bytes r.place (rec_row kind next r') b c) where
    pub swap-recs : Held (rec_at c) (rec_rows (held_store s (l ++ (r' ∷ m)) s.free_cells))
    swap-recs =
        let rows : rec_rows s ≡ free_rows s ++ (chain_rows rec_place (rec_row kind) (l ++ (r ∷ m)) ++ whole_rows s) =
        ap (λ (x : List Rec). free_rows s ++ (chain_rows rec_place (rec_row kind) x ++ whole_rows s)) is in
        let count : (k : ℕ) → occurs k (places (free_rows s ++ (chain_rows rec_place (rec_row kind) (l ++ (r ∷ m)) ++ whole_rows s))) ≡ one (inside rec_count k) =
        λ k. ap (λ (x : List Row). occurs k (places x)) (sym rows) ∙ rec-once role s v k in
        chain-swap rec_place (rec_row kind) (free_rows s) (whole_rows s) l m head_bytes rec_bytes r r' b c at
        (λ k. omega (arith, count k, one-le (inside rec_count k))) (count 0) w (subst (Held (rec_at b)) rows rep.recs)

    pub swap-head : part c 0 head_bytes ≡ head_row (held_store s (l ++ (r' ∷ m)) s.free_cells)
    swap-head =
        rec-leaves-head r.place (rec_row kind next r') b c w ∙ rep.head
        ∙ ap (λ (x : ℕ). pad head_bytes (first s.free ∷ x ∷ first (map rec_place s.whole) ∷ first s.free_cells ∷ form ∷ s.setup.cells ∷ s.setup.role ∷ []))
        (ap (λ (x : List Rec). first (map rec_place x)) is ∙ starts l)
      where
        starts : (l : List Rec) → first (map rec_place (l ++ (r ∷ m))) ≡ first (map rec_place (l ++ (r' ∷ m)))
        starts [] = sym at
        starts (a ∷ l) = refl

    pub swap-cells : (k : ℕ) → cell_at c k ≡ cell_at b k
    swap-cells k = rec-leaves-cells r.place (rec_row kind next r') b c w (Unheld.within role s v b rep l r m is).1 k

    pub swap-size : length c ≡ store_bytes s.setup.cells
    swap-size = w.long ∙ rep.size

    -- the same pieces
    pub swap-rep : r'.cells ≡ r.cells → Rep (held_store s (l ++ (r' ∷ m)) s.free_cells) c
    swap-rep e = record {
      size = swap-size;
      head = swap-head;
      recs = swap-recs;
      cells = held_same (cell_at b) (cell_at c) (cell_rows (held_store s (l ++ (r' ∷ m)) s.free_cells)) (λ k q. swap-cells k)
          (subst (λ (x : List Row). Held (cell_at b) (chain_rows free_place (free_row cell_bytes) s.free_cells ++ x)) (pieces l)
          (subst (λ (x : List Rec). Held (cell_at b) (chain_rows free_place (free_row cell_bytes) s.free_cells ++ pieces_rows (x ++ s.whole))) is rep.cells));
    }
      where
        pieces : (l : List Rec) → pieces_rows ((l ++ (r ∷ m)) ++ s.whole) ≡ pieces_rows ((l ++ (r' ∷ m)) ++ s.whole)
        pieces [] = ap (λ (x : List Cell). chain_rows cell_place cell_row x ++ pieces_rows (m ++ s.whole)) (sym e)
        pieces (a ∷ l) = ap (λ (x : List Row). chain_rows cell_place cell_row a.cells ++ x) (pieces l)

    -- no pieces any more: those it had are freed
    module _ (e : r'.cells ≡ []) where
      abbrev C : ℕ
      C = s.setup.cells

      abbrev ps : List ℕ
      ps = map cell_place r.cells

      -- the pieces of the other records
      abbrev others : List Row
      others = pieces_rows (l ++ (m ++ s.whole))

      all-pieces : s.held ++ s.whole ≡ l ++ (r ∷ (m ++ s.whole))
      all-pieces = ap (λ (x : List Rec). x ++ s.whole) is ∙ append_assoc l (r ∷ m) s.whole

      now-pieces : others ≡ pieces_rows ((l ++ (r' ∷ m)) ++ s.whole)
      now-pieces = go l
        where
          go : (l : List Rec) → pieces_rows (l ++ (m ++ s.whole)) ≡ pieces_rows ((l ++ (r' ∷ m)) ++ s.whole)
          go [] = ap (λ (x : List Cell). chain_rows cell_place cell_row x ++ pieces_rows (m ++ s.whole)) (sym e)
          go (a ∷ l) = ap (λ (x : List Row). chain_rows cell_place cell_row a.cells ++ x) (go l)

      counted : (k : ℕ) → occurs k ps + (occurs k s.free_cells + occurs k (places others)) ≤ one (inside C k)
      counted k =
          omega (
            arith,
            cells-once role s v k,
            ap (λ (x : List Rec). occurs k (piece_places x)) all-pieces ∙ pieces-around l r (m ++ s.whole) k,
            ap (occurs k) (pieces-places (l ++ (m ++ s.whole))),
          )

      free : Held (cell_at c) (chain_rows free_place (free_row cell_bytes) s.free_cells)
      free = held_same (cell_at b) (cell_at c) (chain_rows free_place (free_row cell_bytes) s.free_cells) (λ k q. swap-cells k) (held-free_cells s (cell_at b) rep.cells)

      rest : Held (cell_at c) others
      rest =
          held_same (cell_at b) (cell_at c) others (λ k q. swap-cells k)
          (held-around (cell_at b) l r (m ++ s.whole) (subst (λ (x : List Rec). Held (cell_at b) (pieces_rows x)) all-pieces (held-pieces s (cell_at b) rep.cells)))

      abbrev done : List ℕ
      done = cells_freed c ps s.free_cells

      abbrev t : Store
      t = held_store s (l ++ (r' ∷ m)) (freed_cells r s.free_cells)

      heads : put (head_row (held_store s (l ++ (r' ∷ m)) s.free_cells)) free_cells_at (lead (first s.free_cells) ps ∷ []) ≡ head_row t
      unfolding put
      heads = ap (λ (x : ℕ). pad head_bytes (first s.free ∷ first (map rec_place (l ++ (r' ∷ m))) ∷ first (map rec_place s.whole) ∷ x ∷ form ∷ s.setup.cells ∷ s.setup.role ∷ [])) (leads ps)
        where
          leads : (ps : List ℕ) → lead (first s.free_cells) ps ≡ first (ps ++ s.free_cells)
          leads [] = refl
          leads (p ∷ ps) = refl

      same-places : (l : List Rec) → map rec_place (l ++ (r' ∷ m)) ≡ map rec_place (l ++ (r ∷ m))
      same-places [] = ap (λ (x : ℕ). x ∷ map rec_place m) at
      same-places (a ∷ l) = ap (λ (x : List ℕ). rec_place a ∷ x) (same-places l)

      recs-in : (k : ℕ) → 0 < occurs k (places (rec_rows t)) → k ≤ rec_count
      recs-in k q =
          let e : places (rec_rows t) ≡ places (rec_rows s) =
          rec-places t ∙ ap (λ (x : List ℕ). s.free ++ (x ++ map rec_place s.whole)) (same-places l ∙ ap (map rec_place) (sym is)) ∙ sym (rec-places s) in
          (one_inside rec_count k (omega (arith, ap (occurs k) e ∙ rec-once role s v k))).1

      pub restart-rep : Rep t done
      restart-rep = record {
        size = freed-long C c ps s.free_cells others swap-size counted free rest ∙ swap-size;
        head = freed-head C c ps s.free_cells others swap-size counted free rest
            ∙ ap (λ (x : List ℕ). put x free_cells_at (lead (first s.free_cells) ps ∷ [])) swap-head ∙ heads;
        recs = held_same (rec_at c) (rec_at done) (rec_rows t) (λ k q. freed-recs C c ps s.free_cells others swap-size counted free rest k (recs-in k q)) swap-recs;
        cells = held-cells t (cell_at done) (freed-chain C c ps s.free_cells others swap-size counted free rest)
            (subst (Held (cell_at done)) now-pieces (freed-lines C c ps s.free_cells others swap-size counted free rest));
      }
