-- A new record: the first free one becomes the first held. Its row and two bytes of the head are written. Assumes nothing.
use Rattle.std.specs.Prelude.{ℕ, ◌+◌, ◌≤◌, ◌<◌, ◌≡◌, refl, List, [], ◌∷◌, ◌++◌, map, length, eqb}
use Rattle.std.proofs.Common.{arith, sym, ◌∙◌, subst}
use Rattle.std.proofs.Math.Path.{ap}
use Rattle.octets.specs.Octets.{part, put}
use Rattle.octets.specs.Bools.{one}
use Rattle.octets.specs.BoolsLaws.{one-le}
use Rattle.octets.specs.PartsLaws.{length-put}
use Rattle.machine.specs.Limits.{head_bytes, rec_count, rec_bytes, cell_bytes, store_bytes}
use Rattle.machine.specs.Codes.{held_kind, kind_whole}
use Rattle.machine.specs.Values.{Cell, Rec, Store}
use Rattle.machine.specs.Rows.{pad}
use Rattle.machine_laws.specs.Rows.{places, Held, held_same}
use Rattle.machine.specs.Chains.{first, chain_rows}
use Rattle.machine.specs.Counting.{occurs, inside}
use Rattle.machine.specs.Layout.{rec_off, rec_place, cell_place, cell_row, pieces_rows, free_place, free_row, rec_row, rec_rows, cell_rows, head_row, form, rec_at, cell_at}
use Rattle.machine.specs.Valid.{Valid, RecSized}
use Rattle.machine_laws.specs.Counting.{self, one_inside}
use Rattle.machine_laws.specs.Chains.{chain-places}
use Rattle.machine_laws.specs.FreeRow.{free-map}
use Rattle.machine_laws.specs.RecRow.{rec-length}
use Rattle.machine_laws.specs.StoreRows.{held-free, held-held, held_whole, held-recs}
use Rattle.machine_laws.specs.Rep.{Rep}
use Rattle.machine_laws.specs.Walks.{recs-once}
use Rattle.machine_laws.specs.Write.{Wrote, write-row, held-stay, rec-leaves-head, rec-leaves-cells, head-write, head-leaves-recs, head-leaves-cells}

-- s with other free cells, and with a record more that is held
abbrev pub with_free_cells : List ℕ → Store → Store
with_free_cells cells s = record { setup = s.setup; free = s.free; held = s.held; whole = s.whole; free_cells = cells }

abbrev pub with_rec : Rec → List ℕ → Store → Store
with_rec r cells s = record { setup = s.setup; free = s.free; held = r ∷ s.held; whole = s.whole; free_cells = cells }

-- bytes that hold the records of s, and cells of which the free ones are now `cells` and some are the pieces of a new record r
pub record Ready (s : Store) (spare : List ℕ) (r : Rec) (b : List ℕ) : Type 0 where
  pub size : length b ≡ store_bytes s.setup.cells
  pub head : part b 0 head_bytes ≡ head_row (with_free_cells spare s)
  pub recs : Held (rec_at b) (rec_rows s)
  pub cells : Held (cell_at b) (cell_rows (with_rec r spare s))

-- a record without pieces needs no cell
pub rep-ready : (s : Store) (r : Rec) (b : List ℕ) → r.cells ≡ [] → Rep s b → Ready s s.free_cells r b
rep-ready s r b e rep = record {
  size = rep.size;
  head = rep.head;
  recs = rep.recs;
  cells = subst (λ (l : List Cell). Held (cell_at b) (chain_rows free_place (free_row cell_bytes) s.free_cells ++
      (chain_rows cell_place cell_row l ++ pieces_rows (s.held ++ s.whole)))) (sym e) rep.cells;
}

module _ (role : ℕ) (s : Store) (v : Valid role s) (b : List ℕ) (cells : List ℕ) (p : ℕ) (ps : List ℕ) (free : s.free ≡ p ∷ ps) (r : Rec) (rep : Ready s cells r b)
    (at : r.place ≡ p) (sized : RecSized r) where
  -- the store with the record
  abbrev pub opened : Store
  opened = record { setup = s.setup; free = ps; held = r ∷ s.held; whole = s.whole; free_cells = cells }

  abbrev row : List ℕ
  row = rec_row (held_kind s.setup.role) (first (map rec_place s.held)) r

  abbrev b1 : List ℕ
  b1 = put b (rec_off p) row

  -- its bytes
  abbrev pub open_bytes : List ℕ
  open_bytes = put b1 0 (first ps ∷ p ∷ [])

  counted : (k : ℕ) → one (eqb k p) + occurs k ps + (occurs k (map rec_place s.held) + occurs k (map rec_place s.whole)) ≡ one (inside rec_count k)
  counted k = ap (λ (l : List ℕ). occurs k l + (occurs k (map rec_place s.held) + occurs k (map rec_place s.whole))) (sym free) ∙ recs-once role s v k

  within : (0 < p) × (p ≤ rec_count)
  within = one_inside rec_count p (omega (arith, counted p, self p))

  wrote : Wrote head_bytes rec_bytes p row b b1
  wrote =
      write-row head_bytes rec_bytes p row b within.0 (omega (arith, within.1, within.0, rep.size))
      (rec-length (held_kind s.setup.role) (first (map rec_place s.held)) r sized)

  -- rows of a chain at other places stay
  stay : {A : Type 0} (place : A → ℕ) (line : ℕ → A → List ℕ) (l : List A) → occurs 0 (map place l) ≡ 0 → occurs p (map place l) ≡ 0
      → Held (rec_at b) (chain_rows place line l) → Held (rec_at open_bytes) (chain_rows place line l)
  stay place line l z n h =
      let e : (k : ℕ) → occurs k (places (chain_rows place line l)) ≡ occurs k (map place l) = λ k. ap (occurs k) (chain-places place line l) in
      held_same (rec_at b1) (rec_at open_bytes) (chain_rows place line l) (λ k q. head-leaves-recs 0 (first ps ∷ p ∷ []) b1 (omega arith) (omega (arith, wrote.long, rep.size)) k)
      (held-stay head_bytes rec_bytes p row b b1 wrote (chain_rows place line l) (e 0 ∙ z) (e p ∙ n) h)

  long : length open_bytes ≡ length b
  long = length-put b1 0 (first ps ∷ p ∷ []) (omega (arith, wrote.long, rep.size)) ∙ wrote.long

  -- the head's first two bytes are written
  heads : put (head_row (with_free_cells cells s)) 0 (first ps ∷ p ∷ []) ≡ head_row opened
  unfolding put
  heads = ap (λ (x : ℕ). pad head_bytes (first ps ∷ x ∷ first (map rec_place s.whole) ∷ first cells ∷ form ∷ s.setup.cells ∷ s.setup.role ∷ [])) (sym at)

  -- the new row
  fresh-row : rec_at open_bytes r.place ≡ row
  fresh-row =
      ap (rec_at open_bytes) at
      ∙ head-leaves-recs 0 (first ps ∷ p ∷ []) b1 (omega arith) (omega (arith, wrote.long, rep.size)) p
      ∙ wrote.here

  cell_same : (k : ℕ) → cell_at open_bytes k ≡ cell_at b k
  cell_same k =
      head-leaves-cells 0 (first ps ∷ p ∷ []) b1 (omega arith) (omega (arith, wrote.long, rep.size)) k
      ∙ rec-leaves-cells p row b b1 wrote within.1 k

  -- the free chain without its first
  free-rows : Held (rec_at b) (chain_rows free_place (free_row rec_bytes) ps)
  free-rows = (subst (λ (l : List ℕ). Held (rec_at b) (chain_rows free_place (free_row rec_bytes) l)) free (held-free s (rec_at b) rep.recs)).1

  pub open-rep : Rep opened open_bytes
  open-rep =
      let map-ps : (k : ℕ) → occurs k (map free_place ps) ≡ occurs k ps = λ k. ap (occurs k) (free-map ps) in
      let out : one (inside rec_count 0) ≡ 0 = refl in
      record {
        size = long ∙ rep.size;
        head = head-write 0 (first ps ∷ p ∷ []) b1 (omega arith) (omega (arith, wrote.long, rep.size))
            ∙ ap (λ (l : List ℕ). put l 0 (first ps ∷ p ∷ [])) (rec-leaves-head p row b b1 wrote ∙ rep.head) ∙ heads;
        recs = held-recs opened (rec_at open_bytes)
            (stay free_place (free_row rec_bytes) ps (omega (arith, map-ps 0, counted 0)) (omega (arith, map-ps p, counted p, self p, one-le (inside rec_count p))) free-rows) (
              fresh-row,
              stay rec_place (rec_row (held_kind s.setup.role)) s.held (omega (arith, counted 0))
                  (omega (arith, counted p, self p, one-le (inside rec_count p))) (held-held s (rec_at b) rep.recs),
            )
            (stay rec_place (rec_row kind_whole) s.whole (omega (arith, counted 0)) (omega (arith, counted p, self p, one-le (inside rec_count p))) (held_whole s (rec_at b) rep.recs));
        cells = held_same (cell_at b) (cell_at open_bytes) (cell_rows opened) (λ k q. cell_same k) rep.cells;
      }
