-- A record's row becomes free, in front of the free chain. Cells stay, and so does the head but for its link to the first free record.
-- Assumes nothing.
use Rattle.std.specs.Prelude.{ℕ, ◌+◌, ◌≤◌, ◌<◌, ◌≡◌, List, [], ◌∷◌, length, eqb}
use Rattle.std.proofs.Common.{arith, sym, ap, ◌∙◌}
use Rattle.octets.specs.Octets.{part, put}
use Rattle.octets.specs.Bools.{one}
use Rattle.octets.specs.BoolsLaws.{one-le}
use Rattle.octets.specs.PartsLaws.{length-put}
use Rattle.machine.specs.Limits.{head_bytes, rec_count, rec_bytes, store_bytes}
use Rattle.machine.specs.Rows.{Row}
use Rattle.machine_laws.specs.Rows.{places, Held, held_same}
use Rattle.machine.specs.Chains.{first, chain_rows}
use Rattle.machine.specs.Counting.{occurs, inside}
use Rattle.machine.specs.Layout.{free_at, free_place, free_row, rec_off, rec_at, cell_at}
use Rattle.machine_laws.specs.Counting.{self, one_inside}
use Rattle.machine_laws.specs.Chains.{chain-places}
use Rattle.machine_laws.specs.FreeRow.{free-map, free-length}
use Rattle.machine_laws.specs.Write.{Wrote, write-row, held-stay, rec-leaves-head, rec-leaves-cells, head-write, head-leaves-recs, head-leaves-cells}

-- the bytes b with the record at p free, in front of the free places F
abbrev pub rec_freed : List ℕ → List ℕ → ℕ → List ℕ
rec_freed b F p = put (put b (rec_off p) (free_row rec_bytes (first F) p)) free_at (p ∷ [])

-- bytes b of C cells; F are the free places, `lines` the rows of all records but that at p
module _ (C : ℕ) (b F : List ℕ) (p : ℕ) (lines : List Row) (size : length b ≡ store_bytes C)
    (counted : (k : ℕ) → one (eqb k p) + (occurs k F + occurs k (places lines)) ≡ one (inside rec_count k))
    (free : Held (rec_at b) (chain_rows free_place (free_row rec_bytes) F)) (others : Held (rec_at b) lines) where
  abbrev row : List ℕ
  row = free_row rec_bytes (first F) p

  abbrev b1 : List ℕ
  b1 = put b (rec_off p) row

  abbrev done : List ℕ
  done = rec_freed b F p

  within : (0 < p) × (p ≤ rec_count)
  within = one_inside rec_count p (omega (arith, counted p, self p))

  wrote : Wrote head_bytes rec_bytes p row b b1
  wrote = write-row head_bytes rec_bytes p row b within.0 (omega (arith, within.1, within.0, size)) (free-length rec_bytes (first F) p (omega arith))

  room : head_bytes ≤ length b1
  room = omega (arith, wrote.long, size)

  pub rec_freed-long : length done ≡ length b
  rec_freed-long = length-put b1 free_at (p ∷ []) (omega (arith, room)) ∙ wrote.long

  pub rec_freed-cells : (k : ℕ) → cell_at done k ≡ cell_at b k
  rec_freed-cells k = head-leaves-cells free_at (p ∷ []) b1 (omega arith) room k ∙ rec-leaves-cells p row b b1 wrote within.1 k

  pub rec_freed-head : part done 0 head_bytes ≡ put (part b 0 head_bytes) free_at (p ∷ [])
  rec_freed-head = head-write free_at (p ∷ []) b1 (omega arith) room ∙ ap (λ (l : List ℕ). put l free_at (p ∷ [])) (rec-leaves-head p row b b1 wrote)

  stay : (n : List Row) → occurs 0 (places n) ≡ 0 → occurs p (places n) ≡ 0 → Held (rec_at b) n → Held (rec_at done) n
  stay n z o h =
      held_same (rec_at b1) (rec_at done) n (λ k q. head-leaves-recs free_at (p ∷ []) b1 (omega arith) room k)
      (held-stay head_bytes rec_bytes p row b b1 wrote n z o h)

  pub rec_freed-lines : Held (rec_at done) lines
  rec_freed-lines = stay lines (omega (arith, counted 0)) (omega (arith, counted p, self p, one-le (inside rec_count p))) others

  pub rec_freed-chain : Held (rec_at done) (chain_rows free_place (free_row rec_bytes) (p ∷ F))
  rec_freed-chain =
      let e : (k : ℕ) → occurs k (places (chain_rows free_place (free_row rec_bytes) F)) ≡ occurs k F =
      λ k. ap (occurs k) (chain-places free_place (free_row rec_bytes) F ∙ free-map F) in (
        head-leaves-recs free_at (p ∷ []) b1 (omega arith) room p ∙ wrote.here ∙ ap (λ (l : List ℕ). free_row rec_bytes (first l) p) (sym (free-map F)),
        stay (chain_rows free_place (free_row rec_bytes) F) (omega (arith, counted 0, e 0)) (omega (arith, counted p, self p, one-le (inside rec_count p), e p)) free,
      )
