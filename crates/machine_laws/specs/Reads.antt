-- What is read from the chains of bytes whose rows have their shapes: each chain of free places by one law, each chain of records, with their
-- pieces, by another. Assumes nothing.
use Prim.Native.Nat.{ℕ, suc, ◌≤◌, ◌<◌}
use Rattle.std.proofs.Common.{arith, sym, ap, ◌∙◌, subst}
use Rattle.std.specs.Prelude.{◌≡◌, true, length, get_or}
use Rattle.std.proofs.Math.Path.{refl}
use mathlib.Core.List.{List, [], ◌∷◌, map}
use Rattle.octets.specs.Octets.{Bytes}
use Rattle.octets.specs.Lists.{all, All}
use Rattle.octets.specs.ListsLaws.{all_true, all-to, all-zip, all_map}
use Rattle.octets.specs.PartsLaws.{length_part, bytes-part}
use Rattle.machine.specs.Limits.{rec_count, rec_bytes, cell_bytes, most_cells, store_bytes}
use Rattle.machine.specs.Codes.{kind_whole}
use Rattle.machine.specs.Chains.{first, link, walk, chain_rows}
use Rattle.machine.specs.Counting.{occurs}
use Rattle.machine.specs.Layout.{first_cell_at, rec_off, cell_off, cell_place, rec_place, free_place, free_row, rec_row, cell_row, pieces_rows, rec_at, cell_at}
use Rattle.machine.specs.Layout.{cell_of, rec_of, rec_chain, cell_chain, read_cell, read_cells, read_rec}
use Rattle.machine.specs.Sound.{piece_places, rec_shape, cell_shape, free_shape}
use Rattle.machine.specs.Valid.{CellSized, RecSized}
use Rattle.machine_laws.specs.Tests.{all-parts}
use Rattle.machine_laws.specs.Counting.{Few, occurs-append}
use Rattle.machine_laws.specs.Rows.{Held, held-join}
use Rattle.machine_laws.specs.Chains.{walk-chain, map-place, read_held}
use Rattle.machine_laws.specs.FreeRow.{free-map, free-row}
use Rattle.machine_laws.specs.RecRow.{rec-row, rec-sized}
use Rattle.machine_laws.specs.CellRow.{cell_row_lem, cell-sized}

-- bytes as long as a store of C cells
pub record Room (b : List ℕ) (C : ℕ) : Type 0 where
  pub most : C ≤ most_cells
  pub long : length b ≡ store_bytes C
  pub bytes : Bytes b

-- ---- a chain of free places

-- what is read from a free chain at x, in the rows of f
pub record FreeRead (size : ℕ) (f : ℕ → List ℕ) (x : ℕ) (ps : List ℕ) : Type 0 where
  pub from : first ps ≡ x
  pub rows : Held f (chain_rows free_place (free_row size) ps)

pub free-read : (size n fuel : ℕ) (f : ℕ → List ℕ) (x : ℕ) → 0 < size → n < fuel → ((p : ℕ) → (0 < p) × (p ≤ n) → length (f p) ≡ size)
    → Few n (walk (link f) fuel x) → all (λ p. free_shape size (f p)) (walk (link f) fuel x) ≡ true → FreeRead size f x (walk (link f) fuel x)
free-read size n fuel f x h g e u t =
    let ps : List ℕ = walk (link f) fuel x in
    let c = walk-chain (link f) n fuel x g u in
    record {
      from = c.from;
      rows =
          subst (λ (l : List ℕ). Held f (chain_rows free_place (free_row size) l)) (free-map ps)
          (read_held free_place (free_row size) f free_place (λ p. refl) ps c.links
          (all-to (λ p. ((0 < p) × (p ≤ n)) × (free_shape size (f p) ≡ true)) (λ p. f p ≡ free_row size (link f p) p) ps
          (λ p z. free-row size p (f p) h (e p z.0) z.1)
          (all-zip (λ p. (0 < p) × (p ≤ n)) (λ p. free_shape size (f p) ≡ true) ps c.within (all_true (λ p. free_shape size (f p)) ps t))));
    }

module _ (b : List ℕ) (C : ℕ) (room : Room b C) where
  pub rec-long : (p : ℕ) → (0 < p) × (p ≤ rec_count) → length (rec_at b p) ≡ rec_bytes
  rec-long p h = length_part b (rec_off p) rec_bytes (omega (arith, room.long))

  pub cell-long : (p : ℕ) → (0 < p) × (p ≤ C) → length (cell_at b p) ≡ cell_bytes
  cell-long p h = length_part b (cell_off p) cell_bytes (omega (arith, room.long))

  -- ---- the pieces of a record

  -- the places of the pieces of the record at p
  abbrev pieces_at : ℕ → List ℕ
  pieces_at p = cell_chain b (get_or (rec_at b p) first_cell_at 0)

  cell-place : (p : ℕ) → cell_place (read_cell b p) ≡ p
  unfolding cell_of
  cell-place p = refl

  rec-place : (p : ℕ) → rec_place (read_rec b p) ≡ p
  unfolding rec_of
  rec-place p = refl

  pieces-places : (p : ℕ) → map cell_place (read_rec b p).cells ≡ pieces_at p
  unfolding rec_of
  pieces-places p = map-place cell_place cell_row (cell_at b) (read_cell b) cell-place (pieces_at p)

  pub record PiecesRead (p : ℕ) : Type 0 where
    pub from : first (pieces_at p) ≡ get_or (rec_at b p) first_cell_at 0
    pub rows : Held (cell_at b) (chain_rows cell_place cell_row (read_rec b p).cells)
    pub sized : All CellSized (read_rec b p).cells

  pieces-read : (p : ℕ) → Few C (pieces_at p) → all (λ k. cell_shape (cell_at b k)) (map cell_place (read_rec b p).cells) ≡ true → PiecesRead p
  unfolding rec_of
  pieces-read p u t =
      let ps : List ℕ = pieces_at p in
      let c = walk-chain (link (cell_at b)) C (suc most_cells) (get_or (rec_at b p) first_cell_at 0) (omega (arith, room.most)) u in
      let shapes : All (λ k. cell_shape (cell_at b k) ≡ true) ps =
      all_true (λ k. cell_shape (cell_at b k)) ps (sym (ap (all (λ k. cell_shape (cell_at b k))) (pieces-places p)) ∙ t) in
      let fine = all-zip (λ k. (0 < k) × (k ≤ C)) (λ k. cell_shape (cell_at b k) ≡ true) ps c.within shapes in
      record {
        from = c.from;
        rows =
            read_held cell_place cell_row (cell_at b) (read_cell b) cell-place ps c.links
            (all-to (λ k. ((0 < k) × (k ≤ C)) × (cell_shape (cell_at b k) ≡ true)) (λ k. cell_at b k ≡ cell_row (link (cell_at b) k) (read_cell b k)) ps
            (λ k z. cell_row_lem k (cell_at b k) (cell-long k z.0) (bytes-part b (cell_off k) cell_bytes room.bytes) z.1) fine);
        sized =
            all_map (read_cell b) CellSized ps
            (all-to (λ k. ((0 < k) × (k ≤ C)) × (cell_shape (cell_at b k) ≡ true)) (λ k. CellSized (read_cell b k)) ps
            (λ k z. cell-sized k (cell_at b k) (cell-long k z.0) (bytes-part b (cell_off k) cell_bytes room.bytes) z.1) fine);
      }

  -- ---- a chain of records

  -- the pieces of the records at ps
  pub record AllPieces (ps : List ℕ) : Type 0 where
    pub each : All PiecesRead ps
    pub rows : Held (cell_at b) (pieces_rows (map (read_rec b) ps))

  all-pieces : (ps : List ℕ) → Few C (piece_places (map (read_rec b) ps)) → all (λ k. cell_shape (cell_at b k)) (piece_places (map (read_rec b) ps)) ≡ true → AllPieces ps
  all-pieces [] u t = record { each = tt; rows = tt }
  all-pieces (p ∷ ps) u t =
      let here : List ℕ = map cell_place (read_rec b p).cells in
      let there : List ℕ = piece_places (map (read_rec b) ps) in
      let s = all-parts (λ k. cell_shape (cell_at b k)) here there t in
      let h = pieces-read p (λ k. omega (arith, u k, ap (occurs k) (pieces-places p), occurs-append k here there)) s.0 in
      let rest = all-pieces ps (λ k. omega (arith, u k, occurs-append k here there)) s.1 in
      record {
        each = (h, rest.each);
        rows = held-join (cell_at b) (chain_rows cell_place cell_row (read_rec b p).cells) (pieces_rows (map (read_rec b) ps)) h.rows rest.rows;
      }

  -- a record's place, its row and its pieces are fine
  abbrev Good : ℕ → ℕ → Type 0
  Good kind p = (((0 < p) × (p ≤ rec_count)) × (rec_shape kind (rec_at b p) ≡ true)) × PiecesRead p

  row_is : (kind p : ℕ) → Good kind p → rec_at b p ≡ rec_row kind (link (rec_at b) p) (read_rec b p)
  unfolding rec_of
  row_is kind p h =
      rec-row kind p (read_cells b (get_or (rec_at b p) first_cell_at 0)) (rec_at b p) (rec-long p h.0.0) (bytes-part b (rec_off p) rec_bytes room.bytes)
      (ap first (pieces-places p) ∙ h.1.from) h.0.1

  sized-is : (kind p : ℕ) → Good kind p → RecSized (read_rec b p)
  unfolding rec_of
  sized-is kind p h =
      rec-sized kind p (read_cells b (get_or (rec_at b p) first_cell_at 0)) (rec_at b p) (rec-long p h.0.0) (bytes-part b (rec_off p) rec_bytes room.bytes) h.1.sized

  -- what is read from a chain of records of a kind that starts at x
  pub record RecsRead (kind x : ℕ) : Type 0 where
    pub from : first (rec_chain b x) ≡ x
    pub rows : Held (rec_at b) (chain_rows rec_place (rec_row kind) (map (read_rec b) (rec_chain b x)))
    pub pieces : Held (cell_at b) (pieces_rows (map (read_rec b) (rec_chain b x)))
    pub sized : All RecSized (map (read_rec b) (rec_chain b x))

  pub recs-places : (ps : List ℕ) → map rec_place (map (read_rec b) ps) ≡ ps
  recs-places ps = map-place rec_place (rec_row kind_whole) (rec_at b) (read_rec b) rec-place ps

  pub recs-read : (kind x : ℕ) → Few rec_count (rec_chain b x) → Few C (piece_places (map (read_rec b) (rec_chain b x)))
      → all (λ p. rec_shape kind (rec_at b p)) (map rec_place (map (read_rec b) (rec_chain b x))) ≡ true
      → all (λ k. cell_shape (cell_at b k)) (piece_places (map (read_rec b) (rec_chain b x))) ≡ true → RecsRead kind x
  recs-read kind x u w t y =
      let ps : List ℕ = rec_chain b x in
      let c = walk-chain (link (rec_at b)) rec_count (suc rec_count) x (omega arith) u in
      let pieces = all-pieces ps w y in
      let shapes : All (λ p. rec_shape kind (rec_at b p) ≡ true) ps =
      all_true (λ p. rec_shape kind (rec_at b p)) ps (sym (ap (all (λ p. rec_shape kind (rec_at b p))) (recs-places ps)) ∙ t) in
      let fine : All (Good kind) ps =
      all-zip (λ p. ((0 < p) × (p ≤ rec_count)) × (rec_shape kind (rec_at b p) ≡ true)) PiecesRead ps
      (all-zip (λ p. (0 < p) × (p ≤ rec_count)) (λ p. rec_shape kind (rec_at b p) ≡ true) ps c.within shapes) pieces.each in
      record {
        from = c.from;
        rows =
            read_held rec_place (rec_row kind) (rec_at b) (read_rec b) rec-place ps c.links
            (all-to (Good kind) (λ p. rec_at b p ≡ rec_row kind (link (rec_at b) p) (read_rec b p)) ps (row_is kind) fine);
        pieces = pieces.rows;
        sized = all_map (read_rec b) RecSized ps (all-to (Good kind) (λ p. RecSized (read_rec b p)) ps (sized-is kind) fine);
      }
