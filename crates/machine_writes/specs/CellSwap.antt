-- A piece of a held record is changed in its own cell: that row is written, and everything else stays. Assumes nothing.
use Rattle.std.specs.Prelude.{ℕ, ◌≡◌, refl, List, [], ◌∷◌, ◌++◌, map, length}
use Rattle.std.proofs.Common.{arith, sym, ap, ◌∙◌, subst, append_assoc}
use Rattle.octets.specs.Octets.{be}
use Rattle.octets.specs.Bools.{one}
use Rattle.octets.specs.BoolsLaws.{one-le}
use Rattle.machine.specs.Limits.{head_bytes, rec_count, rec_bytes, cell_bytes, store_bytes}
use Rattle.machine.specs.Codes.{held_kind, kind_whole}
use Rattle.machine.specs.Values.{Cell, Rec, Store}
use Rattle.machine.specs.Rows.{Row, join, pad}
use Rattle.machine_laws.specs.Rows.{places, Held, held_same}
use Rattle.machine.specs.Chains.{first, chain_rows}
use Rattle.machine.specs.Counting.{occurs, inside}
use Rattle.machine.specs.Layout.{form, number_width, rec_place, cell_place, free_place, free_row, rec_row, cell_row, rec_rows, cell_rows, pieces_rows, rec_at, cell_at}
use Rattle.machine.specs.Valid.{Valid}
use Rattle.machine.specs.Send.{with_cells}
use Rattle.machine_laws.specs.Counting.{one_inside}
use Rattle.machine_laws.specs.StoreRows.{rows_append, free_cell_rows}
use Rattle.machine_laws.specs.Rep.{Rep, rec-once, cell-once}
use Rattle.machine_laws.specs.Write.{Wrote, cell-leaves-head, cell-leaves-recs, chain-swap}
use Rattle.machine_writes.specs.Swap.{held_store}

-- the pieces of a list of records, with those of one of them apart: rows before, its chain, rows behind
abbrev pub pieces_around : Store → List Rec → List Cell → List Rec → List Row
pieces_around s l cells n = (free_cell_rows s ++ pieces_rows l) ++ (chain_rows cell_place cell_row cells ++ pieces_rows n)

pub cells-around : (s : Store) (l : List Rec) (r : Rec) (m : List Rec) → free_cell_rows s ++ pieces_rows ((l ++ (r ∷ m)) ++ s.whole) ≡ pieces_around s l r.cells (m ++ s.whole)
cells-around s l r m =
    ap (λ (x : List Row). free_cell_rows s ++ x) (ap pieces_rows (append_assoc l (r ∷ m) s.whole) ∙ rows_append l (r ∷ (m ++ s.whole)))
    ∙ sym (append_assoc (free_cell_rows s) (pieces_rows l) (chain_rows cell_place cell_row r.cells ++ pieces_rows (m ++ s.whole)))

-- a record's row tells only where its pieces start
pub row-alike : (kind next : ℕ) (r : Rec) (cells : List Cell) → first (map cell_place cells) ≡ first (map cell_place r.cells) → rec_row kind next (with_cells cells r) ≡ rec_row kind next r
unfolding rec_row
row-alike kind next r cells e =
    ap (λ (x : ℕ). pad rec_bytes (join ((next ∷ kind ∷ r.label.reply ∷ r.sending.state ∷ r.sending.timed_out ∷ x ∷ length r.label.topic ∷ r.slots ∷ [])
    ∷ r.label.id ∷ r.label.source ∷ r.label.destination ∷ be number_width r.label.total ∷ be number_width r.sending.created ∷ be number_width r.sending.end ∷ r.label.topic ∷ []))) e

-- records keep their rows where their pieces keep their places
pub recs-alike : (s : Store) (l : List Rec) (r : Rec) (cells : List Cell) (m : List Rec) → first (map cell_place cells) ≡ first (map cell_place r.cells)
    → rec_rows (held_store s (l ++ (with_cells cells r ∷ m)) s.free_cells) ≡ rec_rows (held_store s (l ++ (r ∷ m)) s.free_cells)
recs-alike s l r cells m e =
    ap (λ (x : List Row). chain_rows free_place (free_row rec_bytes) s.free ++ (x ++ chain_rows rec_place (rec_row kind_whole) s.whole)) (go (held_kind s.setup.role) l)
  where
    starts : (l : List Rec) → first (map rec_place (l ++ (with_cells cells r ∷ m))) ≡ first (map rec_place (l ++ (r ∷ m)))
    starts [] = refl
    starts (a ∷ l) = refl

    go : (kind : ℕ) (l : List Rec) → chain_rows rec_place (rec_row kind) (l ++ (with_cells cells r ∷ m)) ≡ chain_rows rec_place (rec_row kind) (l ++ (r ∷ m))
    go kind [] = ap (λ (x : List ℕ). record { place = r.place; bytes = x } ∷ chain_rows rec_place (rec_row kind) m) (row-alike kind (first (map rec_place m)) r cells e)
    go kind (a ∷ l) = λ i. record { place = a.place; bytes = rec_row kind (starts l i) a } ∷ go kind l i

module _ (role : ℕ) (s : Store) (v : Valid role s) (b : List ℕ) (rep : Rep s b) (l : List Rec) (r : Rec) (m : List Rec) (is : s.held ≡ l ++ (r ∷ m))
    (cl : List Cell) (c : Cell) (cm : List Cell) (parts : r.cells ≡ cl ++ (c ∷ cm)) (c' : Cell) (at : c'.place ≡ c.place)
    (d : List ℕ) (w : Wrote (store_bytes 0) cell_bytes c.place (cell_row (first (map cell_place cm)) c') b d) where
  -- the record with the piece changed
  abbrev pub changed : Rec
  changed = with_cells (cl ++ (c' ∷ cm)) r

  abbrev t : Store
  t = held_store s (l ++ (changed ∷ m)) s.free_cells

  starts : first (map cell_place (cl ++ (c' ∷ cm))) ≡ first (map cell_place r.cells)
  starts = go cl ∙ ap (λ (x : List Cell). first (map cell_place x)) (sym parts)
    where
      go : (l : List Cell) → first (map cell_place (l ++ (c' ∷ cm))) ≡ first (map cell_place (l ++ (c ∷ cm)))
      go [] = at
      go (a ∷ l) = refl

  rows : rec_rows t ≡ rec_rows s
  rows =
      recs-alike s l r (cl ++ (c' ∷ cm)) m starts
      ∙ ap (λ (x : List Rec). chain_rows free_place (free_row rec_bytes) s.free
      ++ (chain_rows rec_place (rec_row (held_kind s.setup.role)) x ++ chain_rows rec_place (rec_row kind_whole) s.whole)) (sym is)

  recs : Held (rec_at d) (rec_rows t)
  recs =
      subst (Held (rec_at d)) (sym rows)
      (held_same (rec_at b) (rec_at d) (rec_rows s)
      (λ k q. cell-leaves-recs c.place (cell_row (first (map cell_place cm)) c') b d w k (one_inside rec_count k (omega (arith, rec-once role s v k))).1) rep.recs)

  before : cell_rows s ≡ (free_cell_rows s ++ pieces_rows l) ++ (chain_rows cell_place cell_row (cl ++ (c ∷ cm)) ++ pieces_rows (m ++ s.whole))
  before =
      ap (λ (x : List Rec). free_cell_rows s ++ pieces_rows (x ++ s.whole)) is ∙ cells-around s l r m
      ∙ ap (λ (x : List Cell). pieces_around s l x (m ++ s.whole)) parts

  count : (k : ℕ) → occurs k (places ((free_cell_rows s ++ pieces_rows l) ++ (chain_rows cell_place cell_row (cl ++ (c ∷ cm)) ++ pieces_rows (m ++ s.whole)))) ≡ one (inside s.setup.cells k)
  count k = ap (λ (x : List Row). occurs k (places x)) (sym before) ∙ cell-once role s v k

  cells : Held (cell_at d) (cell_rows t)
  cells =
      subst (Held (cell_at d)) (sym (cells-around s l changed m))
      (chain-swap cell_place cell_row (free_cell_rows s ++ pieces_rows l) (pieces_rows (m ++ s.whole)) cl cm (store_bytes 0) cell_bytes c c' b d at
      (λ k. omega (arith, count k, one-le (inside s.setup.cells k))) (count 0) w (subst (Held (cell_at b)) before rep.cells))

  pub cell-rep : Rep t d
  cell-rep = record {
    size = w.long ∙ rep.size;
    head = cell-leaves-head c.place (cell_row (first (map cell_place cm)) c') b d w ∙ rep.head
        ∙ ap (λ (x : List ℕ). pad head_bytes (first s.free ∷ first x ∷ first (map rec_place s.whole) ∷ first s.free_cells ∷ form
        ∷ s.setup.cells ∷ s.setup.role ∷ [])) (ap (map rec_place) is ∙ same l);
    recs = recs;
    cells = cells;
  }
    where
      same : (l : List Rec) → map rec_place (l ++ (r ∷ m)) ≡ map rec_place (l ++ (changed ∷ m))
      same [] = refl
      same (a ∷ l) = ap (λ (x : List ℕ). rec_place a ∷ x) (same l)
