-- In bytes that hold a valid store the links lead along its chains: each walk of `decode` meets the places of its chain, in order.
-- Assumes nothing.
use Rattle.std.specs.Prelude.{ℕ, suc, ◌+◌, ◌≤◌, ◌<◌, ◌≡◌, refl, List, [], ◌∷◌, ◌++◌, map, get_or}
use Rattle.std.proofs.Common.{arith, zero-add, sym, ap, ◌∙◌, subst}
use Rattle.octets.specs.Bools.{one}
use Rattle.octets.specs.Lists.{All}
use Rattle.octets.specs.ListsLaws.{all-to, all_of, all_left, all_right}
use Rattle.octets.specs.PartsLaws.{get_or-part}
use Rattle.machine.specs.Limits.{head_bytes, rec_count, rec_bytes, cell_bytes, most_cells}
use Rattle.machine.specs.Codes.{held_kind, kind_whole}
use Rattle.machine.specs.Values.{Rec, Store}
use Rattle.machine.specs.Chains.{first, link, walk, chain_rows, next_at}
use Rattle.machine.specs.Counting.{occurs, inside}
use Rattle.machine.specs.Layout.{free_at, held_at, whole_at, free_cells_at, cell_place, rec_place, free_place, head_row, free_row, rec_row, cell_row, pieces_rows}
use Rattle.machine.specs.Layout.{rec_at, cell_at, rec_chain, cell_chain}
use Rattle.machine.specs.Sound.{piece_places}
use Rattle.machine.specs.Valid.{CellSized, RecSized, Valid}
use Rattle.machine_laws.specs.Counting.{Few, occurs-append}
use Rattle.machine_laws.specs.Rows.{Held, held-left, held-right}
use Rattle.machine_laws.specs.Chains.{Linked, chain-walk, held-linked}
use Rattle.machine_laws.specs.FreeRow.{free-map}
use Rattle.machine_laws.specs.RecRow.{rec-link}
use Rattle.machine_laws.specs.CellRow.{cell-link}
use Rattle.machine_laws.specs.StoreRows.{held-free, held-held, held_whole, held-free_cells, held-pieces}
use Rattle.machine_laws.specs.Rep.{Rep}

-- ---- one chain

free-chain : (size n fuel : ℕ) (f : ℕ → List ℕ) (ps : List ℕ) → n ≤ fuel → Few n ps → Held f (chain_rows free_place (free_row size) ps) → walk (link f) fuel (first ps) ≡ ps
free-chain size n fuel f ps g u h =
    chain-walk (link f) n fuel ps g u
    (subst (λ (l : List ℕ). Linked (link f) l) (free-map ps)
    (held-linked free_place (free_row size) f ps (all_of (λ p. (next : ℕ) → get_or (free_row size next p) next_at 0 ≡ next) ps (λ p next. refl)) h))

recs-chain : (b : List ℕ) (kind : ℕ) (l : List Rec) → All RecSized l → Few rec_count (map rec_place l) → Held (rec_at b) (chain_rows rec_place (rec_row kind) l)
    → rec_chain b (first (map rec_place l)) ≡ map rec_place l
recs-chain b kind l z u h =
    chain-walk (link (rec_at b)) rec_count (suc rec_count) (map rec_place l) (omega arith) u
    (held-linked rec_place (rec_row kind) (rec_at b) l (all-to RecSized (λ r. (next : ℕ) → get_or (rec_row kind next r) next_at 0 ≡ next) l (λ r y next. rec-link kind next r y) z) h)

-- the walk from a record's first cell meets its pieces
abbrev pub Walks : List ℕ → Rec → Type 0
Walks b r = cell_chain b (first (map cell_place r.cells)) ≡ map cell_place r.cells

pieces-chain : (b : List ℕ) (C : ℕ) → C ≤ most_cells → (l : List Rec) → All RecSized l → Few C (piece_places l) → Held (cell_at b) (pieces_rows l) → All (Walks b) l
pieces-chain b C most [] z u h = tt
pieces-chain b C most (r ∷ l) z u h =
    let both : (k : ℕ) → occurs k (map cell_place r.cells) + occurs k (piece_places l) ≤ one (inside C k) =
    λ k. omega (arith, u k, occurs-append k (map cell_place r.cells) (piece_places l)) in (
      chain-walk (link (cell_at b)) C (suc most_cells) (map cell_place r.cells) (omega arith) (λ k. omega (arith, both k))
          (held-linked cell_place cell_row (cell_at b) r.cells
          (all-to CellSized (λ c. (next : ℕ) → get_or (cell_row next c) next_at 0 ≡ next) r.cells (λ c y next. cell-link next c y) z.0.cells)
          (held-left (cell_at b) (chain_rows cell_place cell_row r.cells) (pieces_rows l) h)),
      pieces-chain b C most l z.1 (λ k. omega (arith, both k)) (held-right (cell_at b) (chain_rows cell_place cell_row r.cells) (pieces_rows l) h),
    )

-- ---- the chains of a store

module _ (role : ℕ) (s : Store) (v : Valid role s) where
  -- each place is in one chain
  pub recs-once : (k : ℕ) → occurs k s.free + (occurs k (map rec_place s.held) + occurs k (map rec_place s.whole)) ≡ one (inside rec_count k)
  recs-once k =
      omega (
        arith,
        v.recs k,
        occurs-append k s.free (map rec_place s.held ++ map rec_place s.whole),
        occurs-append k (map rec_place s.held) (map rec_place s.whole),
      )

  pub cells-once : (k : ℕ) → occurs k s.free_cells + occurs k (piece_places (s.held ++ s.whole)) ≡ one (inside s.setup.cells k)
  cells-once k = omega (arith, v.cells k, occurs-append k s.free_cells (piece_places (s.held ++ s.whole)))

  module _ (b : List ℕ) (rep : Rep s b) where
    -- a byte of the head
    pub head_byte : (j : ℕ) → j < head_bytes → get_or b j 0 ≡ get_or (head_row s) j 0
    head_byte j h = ap (λ (x : ℕ). get_or b x 0) (sym (zero-add j)) ∙ sym (get_or-part b 0 head_bytes j h) ∙ ap (λ (l : List ℕ). get_or l j 0) rep.head

    pub free_walk : rec_chain b (get_or b free_at 0) ≡ s.free
    free_walk =
        ap (rec_chain b) (head_byte free_at (omega arith))
        ∙ free-chain rec_bytes rec_count (suc rec_count) (rec_at b) s.free (omega arith) (λ k. omega (arith, recs-once k)) (held-free s (rec_at b) rep.recs)

    pub held-walk : rec_chain b (get_or b held_at 0) ≡ map rec_place s.held
    held-walk =
        ap (rec_chain b) (head_byte held_at (omega arith))
        ∙ recs-chain b (held_kind s.setup.role) s.held (all_left RecSized s.held s.whole v.sized) (λ k. omega (arith, recs-once k))
        (held-held s (rec_at b) rep.recs)

    pub whole-walk : rec_chain b (get_or b whole_at 0) ≡ map rec_place s.whole
    whole-walk =
        ap (rec_chain b) (head_byte whole_at (omega arith))
        ∙ recs-chain b kind_whole s.whole (all_right RecSized s.held s.whole v.sized) (λ k. omega (arith, recs-once k)) (held_whole s (rec_at b) rep.recs)

    pub free_cells-walk : cell_chain b (get_or b free_cells_at 0) ≡ s.free_cells
    free_cells-walk =
        ap (cell_chain b) (head_byte free_cells_at (omega arith))
        ∙ free-chain cell_bytes s.setup.cells (suc most_cells) (cell_at b) s.free_cells (omega (arith, v.most)) (λ k. omega (arith, cells-once k))
        (held-free_cells s (cell_at b) rep.cells)

    pub pieces-walk : All (Walks b) (s.held ++ s.whole)
    pieces-walk = pieces-chain b s.setup.cells v.most (s.held ++ s.whole) v.sized (λ k. omega (arith, cells-once k)) (held-pieces s (cell_at b) rep.cells)
