-- The places of a store, counted chain by chain: each count is a sum over the records, so what a step does to one record is added up by `omega`.
-- Assumes nothing.
use Rattle.std.specs.Prelude.{ℕ, ◌+◌, ◌<◌, ◌≡◌, refl, List, [], ◌∷◌, ◌++◌, map, length, eqb}
use Rattle.std.proofs.Common.{arith}
use Rattle.octets.specs.Octets.{same}
use Rattle.octets.specs.Bools.{one}
use Rattle.octets.specs.BoolsLaws.{cases}
use Rattle.machine.specs.Values.{Rec, Store}
use Rattle.machine.specs.Chains.{first}
use Rattle.machine.specs.Counting.{occurs, total}
use Rattle.machine.specs.Sources.{cells_from, held_by}
use Rattle.machine.specs.Layout.{rec_place, cell_place}
use Rattle.machine.specs.Sound.{rec_places, piece_places, cell_places}
use Rattle.machine.specs.Pieces.{rest}
use Rattle.machine.specs.Receive.{freed_cells}
use Rattle.machine_laws.specs.Counting.{occurs-append, total-append}
use Rattle.machine_steps.proofs.Totals.{occurs-total}

-- how often the place k is a record's own, and how often one of its cells'
abbrev pub own_place : ℕ → Rec → ℕ
own_place k r = one (eqb k r.place)

abbrev pub in_cells : ℕ → Rec → ℕ
in_cells k r = occurs k (map cell_place r.cells)

pub occurs-pieces : (k : ℕ) (l : List Rec) → occurs k (piece_places l) ≡ total (in_cells k) l
occurs-pieces k [] = refl
occurs-pieces k (r ∷ l) = omega (arith, occurs-append k (map cell_place r.cells) (piece_places l), occurs-pieces k l)

-- how often k is the place of a record, and of a cell, of a store
abbrev pub among_recs : ℕ → Store → ℕ
among_recs k s = occurs k s.free + (total (own_place k) s.held + total (own_place k) s.whole)

abbrev pub among_cells : ℕ → Store → ℕ
among_cells k s = occurs k s.free_cells + (total (in_cells k) s.held + total (in_cells k) s.whole)

pub occurs-recs : (k : ℕ) (s : Store) → occurs k (rec_places s) ≡ among_recs k s
occurs-recs k s =
    omega (
      arith,
      occurs-append k s.free (map rec_place s.held ++ map rec_place s.whole),
      occurs-append k (map rec_place s.held) (map rec_place s.whole),
      occurs-total rec_place k s.held,
      occurs-total rec_place k s.whole,
    )

pub occurs-cells : (k : ℕ) (s : Store) → occurs k (cell_places s) ≡ among_cells k s
occurs-cells k s =
    omega (
      arith,
      occurs-append k s.free_cells (piece_places (s.held ++ s.whole)),
      occurs-pieces k (s.held ++ s.whole),
      total-append (in_cells k) s.held s.whole,
    )

-- how many cells a source holds, chain by chain
abbrev pub from_source : List ℕ → Store → ℕ
from_source a s = total (cells_from a) s.held + total (cells_from a) s.whole

pub held-from : (a : List ℕ) (s : Store) → held_by a (s.held ++ s.whole) ≡ from_source a s
held-from a s = total-append (cells_from a) s.held s.whole

-- a record without cells holds none for any source
pub none_from : (a : List ℕ) (r : Rec) → length r.cells ≡ 0 → cells_from a r ≡ 0
unfolding cells_from
none_from a r h = cases (same a r.label.source) (λ e. rw e h) (λ e. rw e)

-- the first of some places is taken
pub occurs-rest : (k : ℕ) (l : List ℕ) → 0 < length l → occurs k (rest l) + one (eqb k (first l)) ≡ occurs k l
occurs-rest k [] h = absurd (omega arith)
occurs-rest k (p ∷ l) h = omega arith

-- a record's cells are freed
pub occurs-freed : (k : ℕ) (r : Rec) (l : List ℕ) → occurs k (freed_cells r l) ≡ in_cells k r + occurs k l
occurs-freed k r l = occurs-append k (map cell_place r.cells) l
