-- What the limit of a source means: the cells that it leaves to the others, what gives it cells back, and when its pieces are refused.
-- Assumes nothing.
use Rattle.std.specs.Prelude.{ℕ, ◌+◌, ◌-◌, ◌≤◌, ◌<◌, ◌≡◌, true, cond, List, [], ◌∷◌, ◌++◌, map, length, leb}
use native.Mathlib.Omega.{arith}
use Rattle.std.proofs.Math.Path.{refl, ap}
use Rattle.std.proofs.Math.Option.{some}
use Rattle.std.proofs.Common.{length-append, lt-ltb, le-leb, leb-false}
use Rattle.std.proofs.lemmas.List.{length-map}
use Rattle.octets.specs.Octets.{same, Bytes}
use Rattle.octets.specs.BoolsLaws.{cases}
use Rattle.machine.specs.Limits.{most_cells, most_of_source}
use Rattle.machine.specs.Codes.{role_receive, no_cell}
use Rattle.machine.specs.Values.{Label, Rec, Store, key_of, same_key}
use Rattle.machine.specs.Counting.{total}
use Rattle.machine.specs.Layout.{cell_place, decode}
use Rattle.machine.specs.Sources.{cells_from, held_by}
use Rattle.machine.specs.Sound.{piece_places, cell_places, sound}
use Rattle.machine.specs.Valid.{Valid}
use Rattle.machine.specs.Find.{is_some}
use Rattle.machine.specs.Refusals.{refusal}
use Rattle.machine.specs.Pieces.{piece_at}
use Rattle.machine.specs.Receive.{rec_key, found, started, init_at, done_at, drop_at, take_from}
use Rattle.machine.specs.Packet.{piece_row, chunk_row}
use Rattle.machine_laws.specs.Counting.{once-length, total-append}
use Rattle.machine_laws.specs.SoundValid.{sound-valid}
use Rattle.machine_steps.proofs.Refusals.{refusal-clear}
use Rattle.machine_steps.proofs.Find.{total-swap, total-without}
use Rattle.machine_steps.proofs.Counts.{held-from, none_from}

-- ---- what a source leaves to the others

-- the cells that a record holds for other sources
unfoldable pub cells_beside : List ℕ → Rec → ℕ
cells_beside a r = cond (same a r.label.source) 0 (length r.cells)

-- the cells of a store that records of a source do not hold: free, or held for other sources
abbrev pub beside : List ℕ → Store → ℕ
beside a s = length s.free_cells + total (cells_beside a) (s.held ++ s.whole)

-- every held cell is the source's or another's
split-cells : (a : List ℕ) (l : List Rec) → length (piece_places l) ≡ held_by a l + total (cells_beside a) l
unfolding cells_from cells_beside
split-cells a [] = refl
split-cells a (r ∷ l) =
    let more = length-append (map cell_place r.cells) (piece_places l) in
    let own = length-map r.cells cell_place in
    cases (same a r.label.source) (λ e. rw e (omega (arith, more, own, split-cells a l))) (λ e. rw e (omega (arith, more, own, split-cells a l)))

pub all-cells : (role : ℕ) (a : List ℕ) (s : Store) → Valid role s → held_by a (s.held ++ s.whole) + beside a s ≡ s.setup.cells
all-cells role a s v =
    omega (
      arith,
      once-length s.setup.cells (cell_places s) v.cells,
      length-append s.free_cells (piece_places (s.held ++ s.whole)),
      split-cells a (s.held ++ s.whole),
    )

-- "in a store of 45 cells the records of one source, whoever sends, leave 15 for the others'"; in one of C cells, C − 30
pub valid-leaves : (a : List ℕ) (s : Store) → Valid role_receive s → s.setup.cells - most_of_source ≤ beside a s
valid-leaves a s v = omega (arith, all-cells role_receive a s v, v.sources refl a)

pub sound-leaves : (a b : List ℕ) → Bytes b → sound role_receive b ≡ true → (decode b).setup.cells - most_of_source ≤ beside a (decode b)
sound-leaves a b y t = valid-leaves a (decode b) (sound-valid role_receive b y t).0

pub sound-leaves-15 : (a b : List ℕ) → Bytes b → sound role_receive b ≡ true → (decode b).setup.cells ≡ most_cells → 15 ≤ beside a (decode b)
sound-leaves-15 a b y t e = omega (arith, e, sound-leaves a b y t)

-- ---- a piece of a source below the limit

-- "refused only if no cell is free"
pub only-no-cell : (index offset size : ℕ) (s : Store) (r : Rec) → refusal (piece_row index offset size r) ≡ 0
    → held_by r.label.source (s.held ++ s.whole) < most_of_source → (refusal (chunk_row index offset size s (some r)) ≡ 0 → ⊥)
    → (refusal (chunk_row index offset size s (some r)) ≡ no_cell) × (length s.free_cells ≡ 0)
unfolding refusal
only-no-cell index offset size s r z h n =
    let c = refusal-clear (piece_row index offset size r) refl z in
    let share = lt-ltb (held_by r.label.source (s.held ++ s.whole)) most_of_source h in
    cases (is_some (piece_at index r.cells))
    (λ e. absurd (n (rw (c.0, c.1.0, c.1.1.0, e, le-leb 0 (length s.free_cells) (omega arith)))))
    (λ e. cases (leb 1 (length s.free_cells))
    (λ f. absurd (n (rw (c.0, c.1.0, c.1.1.0, e, share, f))))
    (λ f. (rw (c.0, c.1.0, c.1.1.0, e, share, f), omega (arith, leb-false 1 (length s.free_cells) f))))

-- ---- what gives cells back: a drop, a restart, a take. Done keeps them

module _ (a : List ℕ) (r : Rec) (s : Store) where
  pub drop-back : found (rec_key r) s.held ≡ some r
      → held_by a ((drop_at (some r) s).held ++ (drop_at (some r) s).whole) + cells_from a r ≡ held_by a (s.held ++ s.whole)
  unfolding drop_at
  drop-back e = omega (arith, total-without same_key rec_key (cells_from a) (rec_key r) r s.held e, held-from a s, held-from a (drop_at (some r) s))

  pub restart-back : (h : Label) → found (key_of h) s.held ≡ some r
      → held_by a ((init_at (some r) h s).held ++ (init_at (some r) h s).whole) + cells_from a r ≡ held_by a (s.held ++ s.whole)
  unfolding init_at
  restart-back h e =
      omega (
        arith,
        total-swap same_key rec_key (cells_from a) (started r.place h) r s.held e,
        none_from a (started r.place h) refl,
        held-from a s,
        held-from a (init_at (some r) h s),
      )

  pub take_back : (l : List Rec) → s.whole ≡ r ∷ l
      → held_by a ((take_from (r ∷ l) s).held ++ (take_from (r ∷ l) s).whole) + cells_from a r ≡ held_by a (s.held ++ s.whole)
  unfolding take_from
  take_back l e = omega (arith, ap (total (cells_from a)) e, held-from a s, held-from a (take_from (r ∷ l) s))

  pub done-keeps : found (rec_key r) s.held ≡ some r
      → held_by a ((done_at (some r) s).held ++ (done_at (some r) s).whole) ≡ held_by a (s.held ++ s.whole)
  unfolding done_at
  done-keeps e =
      omega (
        arith,
        total-without same_key rec_key (cells_from a) (rec_key r) r s.held e,
        total-append (cells_from a) s.whole (r ∷ []),
        held-from a s,
        held-from a (done_at (some r) s),
      )
