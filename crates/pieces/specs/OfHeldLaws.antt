-- The pieces of the held record that a link leads to, in sound bytes: they are the cells from its first link on, and there are at most 45.
-- Assumes nothing.
use Rattle.std.specs.Prelude.{ℕ, zero, suc, ◌≤◌, ◌<◌, ◌≡◌, List, [], ◌∷◌, map, length, get_or, eqb}
use Rattle.std.proofs.Common.{arith, ◌∙◌}
use Rattle.std.proofs.Math.Path.{ap}
use Rattle.octets.specs.Octets.{Bytes}
use Rattle.octets.specs.BoolsLaws.{one-le}
use Rattle.octets.specs.PartsLaws.{get_or-part}
use Rattle.machine.specs.Limits.{rec_bytes, most_cells}
use Rattle.machine.specs.Values.{Cell}
use Rattle.machine.specs.Counting.{occurs}
use Rattle.machine.specs.Layout.{count_at, first_cell_at, rec_off, rec_of, read_cells, decode}
use Rattle.machine.specs.Find.{is_some}
use Rattle.machine.specs.Pieces.{piece_at}
use Rattle.machine_writes.specs.Links.{Links}
use Rattle.machine_writes.specs.InRange.{links}
use Rattle.records.specs.HeldAt.{place_at, row_in, rec_in, HeldAt}
use Rattle.records.specs.MetLaws.{valid, rep, here-split, here-within}
use Rattle.pieces.specs.InPlace.{piece_state, first_link, spot_in, holds_index, LinkIn}
use Rattle.pieces.specs.HeldLaws.{few-pieces, spot-some}

-- a byte that is not 0 is there
there : (b : List ℕ) (o : ℕ) → 0 < get_or b o 0 → o < length b
there [] o h = absurd (omega arith)
there (x ∷ b) zero h = omega arith
there (x ∷ b) (suc o) h = omega (arith, there b o h)

-- how often a number stands in a list is at most how long the list is
occurs-few : (k : ℕ) (l : List Cell) → occurs k (map piece_state l) ≤ length l
occurs-few k [] = omega arith
occurs-few k (c ∷ l) = omega (arith, occurs-few k l, one-le (eqb k c.state))

-- x is the first cell of the record that a link leads to: it is where the record's first link leads, and its pieces are read from there on
module _ (b : List ℕ) (at : ℕ) {x : ℕ} (e : x ≡ get_or (row_in b at) first_cell_at 0) where
  pub first-here : x ≡ get_or b (first_link (place_at b at)) 0
  first-here = e ∙ get_or-part b (rec_off (place_at b at)) rec_bytes first_cell_at (omega arith)

  pub cells-here : read_cells b x ≡ (rec_in b at).cells
  unfolding rec_of
  cells-here = ap (read_cells b) e

module _ (role : ℕ) (b : List ℕ) (y : Bytes b) (at : ℕ) (h : HeldAt role b at) where
  -- every link is in range
  pub here-links : Links b
  here-links = links role b y h.sound

  -- the link stands inside the bytes
  pub here-inside : at < length b
  here-inside = there b at h.some

  -- the record's link to its first cell
  pub here-first : LinkIn b (first_link (place_at b at))
  here-first =
      let w = here-within role b y at h in
      record { inside = omega (arith, here-links.long, w.0, w.1); leads = here-links.firsts (place_at b at) w.0 w.1 }

  -- which is a cell or none
  pub first-inside : {x : ℕ} → x ≡ get_or (row_in b at) first_cell_at 0 → x ≤ get_or b count_at 0
  first-inside e = omega (arith, first-here b at e, here-first.leads)

  -- how many pieces there are, and how many have a state
  pub here-few : length (rec_in b at).cells ≤ most_cells
  here-few = let q = here-split role b y at h in few-pieces role (decode b) (valid role b y h.sound) q.before (rec_in b at) q.behind q.is

  pub here-states : (state : ℕ) → occurs state (map piece_state (rec_in b at).cells) ≤ most_cells
  here-states state = omega (arith, here-few, occurs-few state (rec_in b at).cells)

  -- whether there is a piece at an index is seen at its spot
  pub here-some : (i : ℕ) → holds_index b (spot_in b (place_at b at) i) i ≡ is_some (piece_at i (rec_in b at).cells)
  unfolding rec_of
  here-some i =
      let q = here-split role b y at h in
      spot-some role (decode b) (valid role b y h.sound) q.before (rec_in b at) q.behind q.is b (rep role b y h.sound) i
