-- The cells of a record are freed: their rows become free ones, in their own order and in front of the free chain. Records stay, and so does the
-- head but for its link to the first free cell. Assumes nothing.
use Rattle.std.specs.Prelude.{ℕ, suc, ◌+◌, ◌*◌, ◌-◌, ◌≤◌, ◌<◌, ◌≡◌, refl, List, [], ◌∷◌, ◌++◌, map, length}
use Rattle.std.proofs.Common.{arith, sym, ap, ◌∙◌, subst}
use Rattle.octets.specs.Octets.{part, put}
use Rattle.octets.specs.Bools.{one}
use Rattle.octets.specs.BoolsLaws.{one-le}
use Rattle.octets.specs.ListsLaws.{all-to}
use Rattle.octets.specs.PartsLaws.{length-put, part-put-in, part-put-after}
use Rattle.machine.specs.Limits.{head_bytes, rec_count, rec_bytes, cell_bytes, store_bytes}
use Rattle.machine.specs.Rows.{Row}
use Rattle.machine_laws.specs.Rows.{places, Held, held-join, held_same}
use Rattle.machine.specs.Chains.{first, chain_rows}
use Rattle.machine.specs.Counting.{occurs, inside}
use Rattle.machine.specs.Layout.{free_cells_at, free_place, free_row, rec_at, cell_at, rec_off, cell_off}
use Rattle.machine_laws.specs.Counting.{few-inside, one_inside}
use Rattle.machine_laws.specs.Chains.{lead, rows_to}
use Rattle.machine_laws.specs.FreeRow.{free-map}
use Rattle.machine_writes.specs.Link.{rows_append, chain-rows, rows-places}
use Rattle.machine_writes.specs.Clear.{cleared, Inside, cleared-length, cleared-other, cleared-before, cleared-held}

-- the bytes b with the cells at ps free, in front of the free places FC
abbrev pub cells_freed : List ℕ → List ℕ → List ℕ → List ℕ
cells_freed b ps FC = put (cleared (store_bytes 0) cell_bytes (first FC) ps b) free_cells_at (lead (first FC) ps ∷ [])

-- bytes b of C cells; ps are the places to free, FC the free ones, `lines` the rows of all other cells
module _ (C : ℕ) (b ps FC : List ℕ) (lines : List Row) (size : length b ≡ store_bytes C)
    (counted : (k : ℕ) → occurs k ps + (occurs k FC + occurs k (places lines)) ≤ one (inside C k))
    (free : Held (cell_at b) (chain_rows free_place (free_row cell_bytes) FC)) (others : Held (cell_at b) lines) where
  abbrev x : ℕ
  x = first FC

  abbrev b1 : List ℕ
  b1 = cleared (store_bytes 0) cell_bytes x ps b

  abbrev done : List ℕ
  done = cells_freed b ps FC

  inside-ps : Inside (store_bytes 0) cell_bytes (length b) ps
  inside-ps =
      all-to (λ p. (0 < p) × (p ≤ C)) (λ p. (0 < p) × (store_bytes 0 + cell_bytes * (suc p - 1) ≤ length b)) ps
      (λ p z. (z.0, omega (arith, z.0, z.1, size))) (few-inside C ps (λ k. omega (arith, counted k)))

  long1 : length b1 ≡ length b
  long1 = cleared-length (store_bytes 0) cell_bytes (omega arith) x ps b inside-ps

  fits : free_cells_at + 1 ≤ length b1
  fits = omega (arith, long1, size)

  pub freed-long : length done ≡ length b
  freed-long = length-put b1 free_cells_at (lead x ps ∷ []) fits ∙ long1

  pub freed-recs : (k : ℕ) → k ≤ rec_count → rec_at done k ≡ rec_at b k
  freed-recs k h =
      part-put-after b1 free_cells_at (lead x ps ∷ []) fits (rec_off k) rec_bytes (omega arith)
      ∙ cleared-before (store_bytes 0) cell_bytes (omega arith) x ps b inside-ps (rec_off k) rec_bytes (omega arith)

  pub freed-head : part done 0 head_bytes ≡ put (part b 0 head_bytes) free_cells_at (lead x ps ∷ [])
  freed-head =
      part-put-in b1 0 head_bytes free_cells_at (lead x ps ∷ []) (omega arith) (omega (arith, long1, size))
      ∙ ap (λ (l : List ℕ). put l free_cells_at (lead x ps ∷ [])) (cleared-before (store_bytes 0) cell_bytes (omega arith) x ps b inside-ps 0 head_bytes (omega arith))

  -- the head's write changes no cell
  same1 : (k : ℕ) → cell_at done k ≡ cell_at b1 k
  same1 k = part-put-after b1 free_cells_at (lead x ps ∷ []) fits (cell_off k) cell_bytes (omega arith)

  -- rows of other cells stay
  stay : (n : List Row) → ((k : ℕ) → occurs k ps + occurs k (places n) ≤ one (inside C k)) → Held (cell_at b) n → Held (cell_at done) n
  stay n u h =
      held_same (cell_at b) (cell_at done) n
      (λ k q. let i = one_inside C k (omega (arith, u k)) in
      same1 k ∙ cleared-other (store_bytes 0) cell_bytes (omega arith) x ps b inside-ps k i.0 (omega (arith, u k, one-le (inside C k)))) h

  pub freed-lines : Held (cell_at done) lines
  freed-lines = stay lines (λ k. omega (arith, counted k)) others

  pub freed-chain : Held (cell_at done) (chain_rows free_place (free_row cell_bytes) (ps ++ FC))
  freed-chain =
      let e = chain-rows free_place (free_row cell_bytes) (ps ++ FC) ∙ rows_append free_place (free_row cell_bytes) 0 ps FC
      ∙ ap (λ (y : ℕ). rows_to free_place (free_row cell_bytes) y ps ++ rows_to free_place (free_row cell_bytes) 0 FC) (firsts FC) in
      subst (Held (cell_at done)) (sym e)
      (held-join (cell_at done) (rows_to free_place (free_row cell_bytes) x ps) (rows_to free_place (free_row cell_bytes) 0 FC)
      (held_same (cell_at b1) (cell_at done) (rows_to free_place (free_row cell_bytes) x ps) (λ k q. same1 k)
      (cleared-held (store_bytes 0) cell_bytes (omega arith) x ps b inside-ps (λ k. omega (arith, counted k, one-le (inside C k)))))
      (stay (rows_to free_place (free_row cell_bytes) 0 FC) (λ k. omega (arith, counted k, ap (occurs k) (rows-places free_place (free_row cell_bytes) 0 FC), ap (occurs k) (free-map FC)))
      (subst (Held (cell_at b)) (chain-rows free_place (free_row cell_bytes) FC) free)))
    where
      firsts : (l : List ℕ) → lead 0 (map free_place l) ≡ first l
      firsts [] = refl
      firsts (a ∷ l) = refl
