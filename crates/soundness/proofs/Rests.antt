-- What is found of a list of records or pieces, by its first one and the rest. Assumes nothing.
use Prim.Native.Nat.{ℕ, suc, ◌+◌, ◌-◌, ◌≤◌, ◌<◌}
use native.Mathlib.Omega.{arith}
use native.Mathlib.Nat.{zero-add, add-zero}
use native.Mathlib.Numerals.{add-one}
use mathlib.Core.Path.{◌≡◌, refl, sym, ap, ◌∙◌}
use mathlib.Core.Bool.{Bool, true, false, ◌&&◌, and_assoc, and-false}
use mathlib.Core.List.{List, [], ◌∷◌}
use lib.ListN.{length, get_or, set}
use lib.Dec.{eqb, leb}
use borrow.Author.Tests.{le-leb, lt-leb, lt-ltb, le-ltb}
use Rattle.octets.specs.Lists.{all}
use Rattle.machine.specs.Limits.{cut_by}
use Rattle.machine.specs.Counting.{total}
use Rattle.machine.specs.Values.{Cell}
use Rattle.machine.specs.Layout.{free_cells_at, held_at, whole_at, first_cell_at, rec_at, cell_at, rec_chain}
use Rattle.machine.specs.Sound.{rising, sizes, is_cut}
use Rattle.machine_laws.specs.Marks.{scan, pick, scan-append, all_marked}
use Rattle.rows.specs.declared.Holds.TheVariants.{Free, Piece}
use Rattle.rows.specs.Asked.{piece_fits}
use Rattle.soundness.specs.declared.chain.Table.{Table}
use Rattle.soundness.specs.Walked.{cell_table, chain_marked, no_marks, cells_once, pieces_at, pieces_of, pieces_marked, complete}
use Rattle.soundness.specs.Walked.{next_cut, pieces_fit, record_pieces, unlike, records_fit, counted, share_at, fair_on}

-- ---- the pieces of records, marked

pub marked_none : (cells role : ℕ) (b m : List ℕ) → pieces_marked cells role b [] m ≡ record { ok = true; marks = m }
unfolding pieces_marked scan
marked_none cells role b m = refl

-- those of the record at x, and then those of the records at ps
module _ (cells role : ℕ) (b : List ℕ) (x : ℕ) (ps m : List ℕ) {t : Table} {first : ℕ} {m' : List ℕ} {fine : Bool}
    (e : t ≡ cell_table cells) (f : first ≡ get_or (rec_at b x) first_cell_at 0)
    (q : record { ok = fine; marks = m' } ≡ chain_marked t role Piece b first m) where
  one_more : pieces_marked cells role b (x ∷ ps) m ≡ pick fine (pieces_marked cells role b ps m') (record { ok = false; marks = m' })
  unfolding pieces_marked
  one_more =
      let w : chain_marked (cell_table cells) role Piece b (get_or (rec_at b x) first_cell_at 0) m ≡ record { ok = fine; marks = m' } =
      sym (q ∙ (λ i. chain_marked (e i) role Piece b (f i) m)) in
      scan-append (λ p. piece_fits role (cell_at b p)) cells (pieces_at b x) (pieces_of b ps) m
      ∙ (λ i. pick (w i).ok (pieces_marked cells role b ps (w i).marks) (record { ok = false; marks = (w i).marks }))

  pub marked_bad : fine ≡ false → pieces_marked cells role b (x ∷ ps) m ≡ record { ok = false; marks = m' }
  marked_bad z = one_more ∙ rw z

  pub marked_on : fine ≡ true → pieces_marked cells role b (x ∷ ps) m ≡ pieces_marked cells role b ps m'
  marked_on z = one_more ∙ rw z

pub ruleset marked = (marked_none, marked_bad, marked_on)

-- the free cells marked, then the pieces of two lists of records, and all places marked
pub cells_are : (cells role : ℕ) (b : List ℕ) {t : Table} {free : ℕ} {held whole m₁ m₂ m₃ : List ℕ} {x y z e : Bool}
    → t ≡ cell_table cells → free ≡ get_or b free_cells_at 0
    → held ≡ rec_chain b (get_or b held_at 0) → whole ≡ rec_chain b (get_or b whole_at 0)
    → record { ok = x; marks = m₁ } ≡ chain_marked t role Free b free no_marks
    → record { ok = y; marks = m₂ } ≡ pieces_marked cells role b held m₁
    → record { ok = z; marks = m₃ } ≡ pieces_marked cells role b whole m₂
    → e ≡ all_marked m₃ cells → ((x && (y && z)) && e) ≡ cells_once cells role b
unfolding pieces_marked
cells_are cells role b {x = x} {y = y} {z = z} h f p q u v w s =
    let one = u ∙ (λ i. chain_marked (h i) role Free b (f i) no_marks) in
    let two = v ∙ (λ i. pieces_marked cells role b (p i) (one i).marks) in
    let three = w ∙ (λ i. pieces_marked cells role b (q i) (two i).marks) in
    ap (λ (a : Bool). (x && (y && z)) && a) s ∙ (λ i. ((one i).ok && ((two i).ok && (three i).ok)) && all_marked (three i).marks cells)

-- ---- the pieces of a record

-- what is asked of the pieces cs behind those that gave the lowest index, the count, the sum, what is left, and whether they are cut
unfoldable pub rest_fits : ℕ → ℕ → ℕ → ℕ → ℕ → ℕ → ℕ → Bool → List Cell → Bool
rest_fits kind slots total low n sum left cut cs = rising low slots cs && complete kind slots total (n + length cs) (sum + sizes cs) (cut && is_cut left cs)

module _ (kind slots total : ℕ) where
  pub rest_all : (cs : List Cell) → rest_fits kind slots total 0 0 0 total true cs ≡ pieces_fit kind slots total cs
  unfolding rest_fits pieces_fit
  rest_all cs = λ i. rising 0 slots cs && complete kind slots total (zero-add (length cs) i) (zero-add (sizes cs) i) (is_cut total cs)

  module _ (low n sum left : ℕ) (cut : Bool) where
    pub rest_none : rest_fits kind slots total low n sum left cut [] ≡ complete kind slots total n sum (cut && eqb left 0)
    unfolding rest_fits rising sizes is_cut
    rest_none = λ i. complete kind slots total (add-zero n i) (add-zero sum i) (cut && eqb left 0)

    module _ (c : Cell) (cs : List Cell) where
      pub rest_low : c.index < low → rest_fits kind slots total low n sum left cut (c ∷ cs) ≡ false
      unfolding rest_fits rising
      rest_low h = rw (lt-leb low c.index h)

      pub rest_high : slots ≤ c.index → rest_fits kind slots total low n sum left cut (c ∷ cs) ≡ false
      unfolding rest_fits rising
      rest_high h = rw (le-ltb c.index slots h, and-false (leb low c.index))

      pub rest_more : low ≤ c.index → c.index < slots
          → rest_fits kind slots total low n sum left cut (c ∷ cs)
          ≡ rest_fits kind slots total (c.index + 1) (n + 1) (sum + length c.bytes) (left - cut_by) (cut && next_cut left (length c.bytes)) cs
      unfolding rest_fits rising sizes is_cut
      rest_more a h =
          let size = length c.bytes in
          let count : n + suc (length cs) ≡ n + 1 + length cs = omega arith in
          let sums : sum + (size + sizes cs) ≡ sum + size + sizes cs = omega arith in
          rw (le-leb low c.index a, lt-ltb c.index slots h)
          (λ i. rising (sym (add-one c.index) i) slots cs && complete kind slots total (count i) (sums i)
          (sym (and_assoc cut (next_cut left size) (is_cut (left - cut_by) cs)) i))

pub ruleset rests = (rest_all, rest_none, rest_low, rest_high, rest_more)

-- ---- records, each with its pieces and a key of its own, and counted

pub records_none : (kind : ℕ) (b m : List ℕ) → records_fit kind b [] m ≡ true
unfolding records_fit
records_none kind b m = refl

pub records_first : (kind : ℕ) (b : List ℕ) (x : ℕ) (l m : List ℕ)
    → records_fit kind b (x ∷ l) m ≡ ((record_pieces kind b x && (all (unlike b x) l && all (unlike b x) m)) && records_fit kind b l m)
unfolding records_fit
records_first kind b x l m = refl

pub counted_none : (b m : List ℕ) → counted b [] m ≡ m
unfolding counted
counted_none b m = refl

pub counted_first : (b : List ℕ) (x : ℕ) (l m : List ℕ) → counted b (x ∷ l) m ≡ counted b l (set m x (length (pieces_at b x)))
unfolding counted
counted_first b x l m = refl

pub ruleset records = (records_none, records_first, counted_none, counted_first)

-- ---- the shares of sources

pub fair_none : (most : ℕ) (b m o : List ℕ) → fair_on most b m [] o ≡ true
unfolding fair_on
fair_none most b m o = refl

pub fair_first : (most : ℕ) (b m : List ℕ) (x : ℕ) (l o : List ℕ)
    → fair_on most b m (x ∷ l) o ≡ (leb (get_or m x 0 + (total (share_at b m x) l + total (share_at b m x) o)) most && fair_on most b m l o)
unfolding fair_on
fair_first most b m x l o = refl

pub ruleset shares = (fair_none, fair_first)
