-- A record that is in no chain any more is released: its row and its cells are freed. What is left is the store with the records that are held and whole
-- still. Dropping a held record and taking a whole one are two instances. Assumes nothing.
use Rattle.std.specs.Prelude.{ℕ, ◌+◌, ◌≤◌, ◌≡◌, length, eqb}
use Rattle.std.proofs.Common.{arith, sym, ◌∙◌, subst}
use Rattle.std.proofs.Math.Path.{refl, ap}
use mathlib.Core.List.{List, [], ◌∷◌, ◌++◌, map}
use Rattle.octets.specs.Octets.{part, put}
use Rattle.octets.specs.Bools.{one}
use Rattle.machine.specs.Limits.{head_bytes, rec_count, rec_bytes, cell_bytes, store_bytes}
use Rattle.machine.specs.Codes.{held_kind, kind_whole}
use Rattle.machine.specs.Values.{Rec, Store}
use Rattle.machine.specs.Rows.{Row, pad}
use Rattle.machine_laws.specs.Rows.{places, Held, held-left, held-right, held-join, held_same, places-append}
use Rattle.machine.specs.Chains.{first, chain_rows}
use Rattle.machine.specs.Counting.{occurs, inside}
use Rattle.machine.specs.Layout.{form, free_at, free_cells_at, rec_place, cell_place, free_place, free_row, rec_row, cell_row, pieces_rows, head_row, rec_at, cell_at}
use Rattle.machine.specs.Sound.{piece_places}
use Rattle.machine.specs.Receive.{freed_cells}
use Rattle.machine_laws.specs.Counting.{one_inside, occurs-append}
use Rattle.machine_laws.specs.Chains.{lead, chain-places}
use Rattle.machine_laws.specs.FreeRow.{free-map}
use Rattle.machine_laws.specs.StoreRows.{pieces-places, pieces-append, rows_append, held-recs, held-cells, held-free_cells}
use Rattle.machine_laws.specs.Rep.{Rep}
use Rattle.machine_writes.specs.FreeRecord.{rec_freed, rec_freed-long, rec_freed-cells, rec_freed-head, rec_freed-lines, rec_freed-chain}
use Rattle.machine_writes.specs.FreeCells.{cells_freed, freed-long, freed-recs, freed-head, freed-lines, freed-chain}

-- pieces with those of r apart
pub pieces-around : (l : List Rec) (r : Rec) (m : List Rec) (k : ℕ) → occurs k (piece_places (l ++ (r ∷ m))) ≡ occurs k (map cell_place r.cells) + occurs k (piece_places (l ++ m))
pieces-around l r m k =
    let a : occurs k (piece_places (l ++ (r ∷ m))) ≡ occurs k (piece_places l) + (occurs k (map cell_place r.cells) + occurs k (piece_places m)) =
    ap (occurs k) (pieces-append l (r ∷ m)) ∙ occurs-append k (piece_places l) (map cell_place r.cells ++ piece_places m)
    ∙ ap (λ (n : ℕ). occurs k (piece_places l) + n) (occurs-append k (map cell_place r.cells) (piece_places m)) in
    omega (arith, ap (occurs k) (pieces-append l m) ∙ occurs-append k (piece_places l) (piece_places m))

pub held-around : (f : ℕ → List ℕ) (l : List Rec) (r : Rec) (m : List Rec) → Held f (pieces_rows (l ++ (r ∷ m))) → Held f (pieces_rows (l ++ m))
held-around f l r m h =
    let q = subst (Held f) (rows_append l (r ∷ m)) h in
    subst (Held f) (sym (rows_append l m))
    (held-join f (pieces_rows l) (pieces_rows m) (held-left f (pieces_rows l) (chain_rows cell_place cell_row r.cells ++ pieces_rows m) q)
    (held-right f (chain_rows cell_place cell_row r.cells) (pieces_rows m) (held-right f (pieces_rows l) (chain_rows cell_place cell_row r.cells ++ pieces_rows m) q)))

-- the bytes u, in which r is in no chain, with r released to the store s
abbrev pub release_bytes : Store → List ℕ → Rec → List ℕ
release_bytes s u r = cells_freed (rec_freed u s.free r.place) (map cell_place r.cells) s.free_cells

-- what is left of s, with H held and W whole
abbrev pub release_store : Store → Rec → List Rec → List Rec → Store
release_store s r H W = record { setup = s.setup; free = r.place ∷ s.free; held = H; whole = W; free_cells = freed_cells r s.free_cells }

-- the rows of the records that stay
abbrev pub staying : Store → List Rec → List Rec → List Row
staying s H W = chain_rows rec_place (rec_row (held_kind s.setup.role)) H ++ chain_rows rec_place (rec_row kind_whole) W

-- r is in no chain of the bytes u: H and W are the others, before and after r in the order of their pieces
pub record Loose (s : Store) (b u : List ℕ) (r : Rec) (H W : List Rec) : Type 0 where
  pub size : length u ≡ store_bytes s.setup.cells
  pub cells : (k : ℕ) → cell_at u k ≡ cell_at b k
  pub free : Held (rec_at u) (chain_rows free_place (free_row rec_bytes) s.free)
  pub lines : Held (rec_at u) (staying s H W)
  pub recs : (k : ℕ) → one (eqb k r.place) + (occurs k s.free + (occurs k (map rec_place H) + occurs k (map rec_place W))) ≡ one (inside rec_count k)
  pub head : part u 0 head_bytes ≡ head_row (record { setup = s.setup; free = s.free; held = H; whole = W; free_cells = s.free_cells })
  pub counted : (k : ℕ) → occurs k (map cell_place r.cells) + (occurs k s.free_cells + occurs k (piece_places (H ++ W))) ≡ one (inside s.setup.cells k)
  pub rest : Held (cell_at b) (pieces_rows (H ++ W))

module _ (s : Store) (b u : List ℕ) (r : Rec) (H W : List Rec) (rep : Rep s b) (loose : Loose s b u r H W) where
  abbrev kind : ℕ
  kind = held_kind s.setup.role

  abbrev C : ℕ
  C = s.setup.cells

  abbrev ps : List ℕ
  ps = map cell_place r.cells

  abbrev lines : List Row
  lines = staying s H W

  recs-counted : (k : ℕ) → one (eqb k r.place) + (occurs k s.free + occurs k (places lines)) ≡ one (inside rec_count k)
  recs-counted k =
      let a : occurs k (places lines) ≡ occurs k (map rec_place H) + occurs k (map rec_place W) =
      ap (occurs k) (places-append (chain_rows rec_place (rec_row kind) H) (chain_rows rec_place (rec_row kind_whole) W))
      ∙ occurs-append k (places (chain_rows rec_place (rec_row kind) H)) (places (chain_rows rec_place (rec_row kind_whole) W))
      ∙ (λ i. occurs k (chain-places rec_place (rec_row kind) H i) + occurs k (chain-places rec_place (rec_row kind_whole) W i)) in
      omega (arith, loose.recs k)

  abbrev w : List ℕ
  w = rec_freed u s.free r.place

  w-size : length w ≡ store_bytes C
  w-size = rec_freed-long C u s.free r.place lines loose.size recs-counted loose.free loose.lines ∙ loose.size

  w_held : (n : List Row) → Held (cell_at b) n → Held (cell_at w) n
  w_held n h =
      held_same (cell_at b) (cell_at w) n
      (λ k q. rec_freed-cells C u s.free r.place lines loose.size recs-counted loose.free loose.lines k ∙ loose.cells k) h

  freeable : (k : ℕ) → occurs k ps + (occurs k s.free_cells + occurs k (places (pieces_rows (H ++ W)))) ≤ one (inside C k)
  freeable k = omega (arith, loose.counted k, ap (occurs k) (pieces-places (H ++ W)))

  w-free : Held (cell_at w) (chain_rows free_place (free_row cell_bytes) s.free_cells)
  w-free = w_held (chain_rows free_place (free_row cell_bytes) s.free_cells) (held-free_cells s (cell_at b) rep.cells)

  w-rest : Held (cell_at w) (pieces_rows (H ++ W))
  w-rest = w_held (pieces_rows (H ++ W)) loose.rest

  abbrev done : List ℕ
  done = release_bytes s u r

  keep : (n : List Row) → ((k : ℕ) → occurs k (places n) ≤ one (inside rec_count k)) → Held (rec_at w) n → Held (rec_at done) n
  keep n i h =
      held_same (rec_at w) (rec_at done) n
      (λ k q. freed-recs C w ps s.free_cells (pieces_rows (H ++ W)) w-size freeable w-free w-rest k (one_inside rec_count k (omega (arith, i k))).1) h

  heads : put (put (head_row (record { setup = s.setup; free = s.free; held = H; whole = W; free_cells = s.free_cells })) free_at (r.place ∷ [])) free_cells_at (lead (first s.free_cells) ps ∷ [])
      ≡ head_row (release_store s r H W)
  unfolding put
  heads = ap (λ (x : ℕ). pad head_bytes (r.place ∷ first (map rec_place H) ∷ first (map rec_place W) ∷ x ∷ form ∷ s.setup.cells ∷ s.setup.role ∷ [])) (leads ps)
    where
      leads : (ps : List ℕ) → lead (first s.free_cells) ps ≡ first (ps ++ s.free_cells)
      leads [] = refl
      leads (p ∷ ps) = refl

  pub release-rep : Rep (release_store s r H W) done
  release-rep =
      let F = chain_rows free_place (free_row rec_bytes) (r.place ∷ s.free) in
      let free_in : (k : ℕ) → occurs k (places F) ≤ one (inside rec_count k) =
      λ k. omega (arith, recs-counted k, ap (occurs k) (chain-places free_place (free_row rec_bytes) (r.place ∷ s.free) ∙ free-map (r.place ∷ s.free))) in
      let both = keep lines (λ k. omega (arith, recs-counted k)) (rec_freed-lines C u s.free r.place lines loose.size recs-counted loose.free loose.lines) in
      record {
        size = freed-long C w ps s.free_cells (pieces_rows (H ++ W)) w-size freeable w-free w-rest ∙ w-size;
        head = freed-head C w ps s.free_cells (pieces_rows (H ++ W)) w-size freeable w-free w-rest
            ∙ ap (λ (x : List ℕ). put x free_cells_at (lead (first s.free_cells) ps ∷ []))
            (rec_freed-head C u s.free r.place lines loose.size recs-counted loose.free loose.lines ∙ ap (λ (x : List ℕ). put x free_at (r.place ∷ [])) loose.head)
            ∙ heads;
        recs = held-recs (release_store s r H W) (rec_at done)
            (keep F free_in (rec_freed-chain C u s.free r.place lines loose.size recs-counted loose.free loose.lines))
            (held-left (rec_at done) (chain_rows rec_place (rec_row kind) H) (chain_rows rec_place (rec_row kind_whole) W) both)
            (held-right (rec_at done) (chain_rows rec_place (rec_row kind) H) (chain_rows rec_place (rec_row kind_whole) W) both);
        cells = held-cells (release_store s r H W) (cell_at done)
            (freed-chain C w ps s.free_cells (pieces_rows (H ++ W)) w-size freeable w-free w-rest)
            (freed-lines C w ps s.free_cells (pieces_rows (H ++ W)) w-size freeable w-free w-rest);
      }
