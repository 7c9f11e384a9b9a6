-- What each function of the check computes, over machine's definitions: chains walked with marks, the pieces of records, and the keys and sources of
-- records.
-- Together they are `sound`: `sound_is` of proofs/Whole.antt says so.
use Rattle.std.specs.Prelude.{ℕ, suc, ◌+◌, ◌*◌, ◌≤◌, ◌<◌, ◌≡◌, Bool, true, ◌&&◌, ◌||◌, not, cond, List, [], ◌∷◌, ◌++◌, length, get_or, set, replicate, eqb, leb, ltb}
use Rattle.octets.specs.Octets.{part, same}
use Rattle.octets.specs.Lists.{all}
use Rattle.machine.specs.Limits.{rec_count, rec_bytes, cell_bytes, most_cells, store_bytes, cut_by}
use Rattle.machine.specs.Codes.{held_kind, kind_arriving, kind_whole, kind_leaving}
use Rattle.machine.specs.Values.{Cell, Key, key_of, same_key}
use Rattle.machine.specs.Rows.{row_off}
use Rattle.machine.specs.Chains.{link, walk}
use Rattle.machine.specs.Counting.{inside, total}
use Rattle.machine.specs.Layout.{free_at, held_at, whole_at, free_cells_at, first_cell_at, slots_at, total_at, size_at, size_width}
use Rattle.machine.specs.Layout.{number_width, rec_at, cell_at, num_at, label_of, rec_chain, cell_chain, read_cells}
use Rattle.machine.specs.Sound.{rising, sizes, is_cut}
use Rattle.packet.specs.Frame.{largest_piece}
use Rattle.machine_laws.specs.Marks.{Walked, scan, three}
use Rattle.rows.specs.declared.Holds.{Holds}
use Rattle.rows.specs.declared.Holds.TheVariants.{Free, Record, Piece}
use Rattle.rows.specs.Asked.{row_fits, Sized}
use Rattle.soundness.specs.declared.chain.Table.{Table}

-- ---- tables of rows

-- the rows of a table
abbrev pub row_of : Table → List ℕ → ℕ → List ℕ
row_of t b p = part b (row_off t.start t.size p) t.size

-- the cells of a store that has so many
abbrev pub cell_table : ℕ → Table
cell_table cells = record { start = store_bytes 0; size = cell_bytes; count = cells; steps = suc most_cells }

-- bytes that have the rows of a table, which are to hold what is asked
pub record Fitting (t : Table) (holds : Holds) (b : List ℕ) : Type 0 where
  pub long : t.start + t.size * t.count ≤ length b
  pub few : t.count ≤ most_cells
  pub sized : Sized holds t.size

-- bytes as long as a store of so many cells
pub record Room (cells : ℕ) (b : List ℕ) : Type 0 where
  pub most : cells ≤ most_cells
  pub long : length b ≡ store_bytes cells

-- ---- each place once

-- a chain walked with marks
abbrev pub chain_marked : Table → ℕ → Holds → List ℕ → ℕ → List ℕ → Walked
chain_marked t role holds b first m = scan (λ p. row_fits role holds t.size (row_of t b p)) t.count (walk (link (row_of t b)) t.steps first) m

-- the pieces of the record at p, and of the records at ps
abbrev pub pieces_at : List ℕ → ℕ → List ℕ
pieces_at b p = cell_chain b (get_or (rec_at b p) first_cell_at 0)

abbrev pub pieces_of : List ℕ → List ℕ → List ℕ
pieces_of b [] = []
pieces_of b (p ∷ ps) = pieces_at b p ++ pieces_of b ps

-- walked with marks
unfoldable pub pieces_marked : ℕ → ℕ → List ℕ → List ℕ → List ℕ → Walked
pieces_marked cells role b ps m = scan (λ p. row_fits role Piece cell_bytes (cell_at b p)) cells (pieces_of b ps) m

-- no place is marked at first
abbrev pub no_marks : List ℕ
no_marks = replicate (suc most_cells) 0

-- each record once: in the free, the held or the whole chain
abbrev pub records_once : ℕ → List ℕ → Bool
records_once role b =
    three (λ p. row_fits role Free rec_bytes (rec_at b p)) (λ p. row_fits role (Record (held_kind role)) rec_bytes (rec_at b p))
    (λ p. row_fits role (Record kind_whole) rec_bytes (rec_at b p))
    rec_count (rec_chain b (get_or b free_at 0)) (rec_chain b (get_or b held_at 0)) (rec_chain b (get_or b whole_at 0)) no_marks

-- each cell once: in the free chain, or in that of a held or a whole record
abbrev pub cells_once : ℕ → ℕ → List ℕ → Bool
cells_once cells role b =
    three (λ p. row_fits role Free cell_bytes (cell_at b p)) (λ p. row_fits role Piece cell_bytes (cell_at b p)) (λ p. row_fits role Piece cell_bytes (cell_at b p))
    cells (cell_chain b (get_or b free_cells_at 0)) (pieces_of b (rec_chain b (get_or b held_at 0))) (pieces_of b (rec_chain b (get_or b whole_at 0))) no_marks

-- ---- the pieces of a record

-- a cell that can be read: its place inside, its size in range
abbrev pub readable : ℕ → List ℕ → ℕ → Bool
readable cells b p = inside cells p && leb (num_at size_width (cell_at b p) size_at) largest_piece

-- whole and leaving pieces complete, leaving ones cut: by the number of pieces, the sum of their sizes, and whether they are cut
abbrev pub complete : ℕ → ℕ → ℕ → ℕ → ℕ → Bool → Bool
complete kind slots total count sum cut = (eqb kind kind_arriving || (eqb count slots && eqb sum total)) && (not (eqb kind kind_leaving) || cut)

-- a piece of n bytes is what is cut off next where so much is left
abbrev pub next_cut : ℕ → ℕ → Bool
next_cut left n = ltb 0 left && eqb n (cond (leb left cut_by) left cut_by)

-- indices rising below slots; complete
unfoldable pub pieces_fit : ℕ → ℕ → ℕ → List Cell → Bool
pieces_fit kind slots total cs = rising 0 slots cs && complete kind slots total (length cs) (sizes cs) (is_cut total cs)

unfoldable pub record_pieces : ℕ → List ℕ → ℕ → Bool
record_pieces kind b p = pieces_fit kind (get_or (rec_at b p) slots_at 0) (num_at number_width (rec_at b p) total_at) (read_cells b (get_or (rec_at b p) first_cell_at 0))

-- ---- keys

abbrev pub key_at : List ℕ → ℕ → Key
key_at b p = key_of (label_of (rec_at b p))

abbrev pub unlike : List ℕ → ℕ → ℕ → Bool
unlike b p q = not (same_key (key_at b p) (key_at b q))

-- each record at l has its pieces, and a key that neither a later one nor one at m has
unfoldable pub records_fit : ℕ → List ℕ → List ℕ → List ℕ → Bool
records_fit kind b [] m = true
records_fit kind b (p ∷ l) m = (record_pieces kind b p && (all (unlike b p) l && all (unlike b p) m)) && records_fit kind b l m

-- ---- sources

-- m, with the number of its pieces at the place of each record at ps; no number is there at first
unfoldable pub counted : List ℕ → List ℕ → List ℕ → List ℕ
counted b [] m = m
counted b (p ∷ ps) m = counted b ps (set m p (length (pieces_at b p)))

abbrev pub no_counts : List ℕ
no_counts = replicate (suc rec_count) 0

abbrev pub source_of : List ℕ → ℕ → List ℕ
source_of b p = (label_of (rec_at b p)).source

-- the cells that the record at q holds for the source of the record at p, by the counts m
unfoldable pub share_at : List ℕ → List ℕ → ℕ → ℕ → ℕ
share_at b m p q = cond (same (source_of b p) (source_of b q)) (get_or m q 0) 0

-- the source of each record at l holds so many at most, in it, the later ones and those at o
unfoldable pub fair_on : ℕ → List ℕ → List ℕ → List ℕ → List ℕ → Bool
fair_on most b m [] o = true
fair_on most b m (p ∷ l) o = leb (get_or m p 0 + (total (share_at b m p) l + total (share_at b m p) o)) most && fair_on most b m l o

-- ---- what is known before a part is read

-- a record's place
abbrev pub At : ℕ → Type 0
At p = (0 < p) × (p ≤ rec_count)

-- the held and the whole records lie inside
pub record RecordsInside (b : List ℕ) : Type 0 where
  pub held : all (inside rec_count) (rec_chain b (get_or b held_at 0)) ≡ true
  pub whole : all (inside rec_count) (rec_chain b (get_or b whole_at 0)) ≡ true
