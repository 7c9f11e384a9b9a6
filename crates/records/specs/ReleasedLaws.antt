-- Dropping a record: links of cells stay in range on the way, and what is written is what dropping and taking do to the store. Assumes nothing.
use Rattle.std.specs.Prelude.{ℕ, ◌+◌, ◌≤◌, ◌<◌, ◌≡◌, List, [], ◌∷◌, length, get_or}
use Rattle.std.proofs.Common.{arith, ◌∙◌}
use Rattle.octets.specs.Octets.{put}
use Rattle.octets.specs.PartsLaws.{get_or-put-before, get_or-put-after, length-put}
use Rattle.machine.specs.Limits.{rec_count, rec_bytes, store_bytes}
use Rattle.machine.specs.Layout.{free_at, free_cells_at, first_cell_at, rec_off, free_row}
use Rattle.machine_laws.specs.FreeRow.{free-length}
use Rattle.machine_writes.specs.Byte.{byte-other}
use Rattle.records.specs.Clearing.{Clearable}
use Rattle.records.specs.ClearedLaws.{links-chain, chain-put}
use Rattle.records.specs.Releasing.{rec_free, Releasable, Droppable}

-- ---- links in range

module _ (p : ℕ) (b : List ℕ) (some : 0 < p) (small : p ≤ rec_count) (long : store_bytes 0 ≤ length b) where
  abbrev row : List ℕ
  row = free_row rec_bytes (get_or b free_at 0) p

  fits : rec_off p + length row ≤ store_bytes 0
  fits = omega (arith, some, small, free-length rec_bytes (get_or b free_at 0) p (omega arith))

  kept_row : get_or (put b (rec_off p) row) free_cells_at 0 ≡ get_or b free_cells_at 0
  kept_row = get_or-put-before b (rec_off p) row (omega (arith, fits)) free_cells_at (omega arith)

  kept-head : get_or (rec_free p b) free_cells_at 0 ≡ get_or (put b (rec_off p) row) free_cells_at 0
  kept-head =
      get_or-put-after (put b (rec_off p) row) free_at (p ∷ []) (omega (arith, length-put b (rec_off p) row (omega (arith, fits)), long)) free_cells_at (omega arith)

  -- a record that is freed leaves the free cells
  pub free-kept : get_or (rec_free p b) free_cells_at 0 ≡ get_or b free_cells_at 0
  free-kept = kept-head ∙ kept_row

  pub free-chain : (first : ℕ) → Clearable first (get_or b free_cells_at 0) b → Clearable first (get_or (rec_free p b) free_cells_at 0) (rec_free p b)
  free-chain first c = chain-put first (put b (rec_off p) row) free_at (p ∷ []) (chain-put first b (rec_off p) row c fits kept_row) (omega arith) kept-head

-- the record leaves its chain
pub unlink-loose : (at x : ℕ) (b : List ℕ) → Droppable at b → Releasable (get_or b at 0) (get_or b (rec_off (get_or b at 0) + first_cell_at) 0) (put b at (x ∷ []))
unlink-loose at x b h = record {
  some = h.some;
  small = h.led.small;
  chain =
      chain-put (get_or b (rec_off (get_or b at 0) + first_cell_at) 0) b at (x ∷ [])
      (links-chain b (get_or b (rec_off (get_or b at 0) + first_cell_at) 0) h.links (h.links.firsts (get_or b at 0) h.some h.led.small))
      (omega (arith, h.led.inside)) (byte-other b at x free_cells_at (omega (arith, h.led.inside, h.links.long)) h.led.no_free);
}

pub ruleset releases = (free-chain, unlink-loose)
