-- Walks step by step, as the loops take them. Assumes nothing.
use Prim.Native.Nat.{ℕ, zero, suc, ◌+◌, ◌-◌, ◌≤◌, ◌<◌}
use native.Mathlib.Omega.{arith}
use mathlib.Core.Path.{◌≡◌, refl, sym, ap, ◌∙◌}
use mathlib.Core.Bool.{true, false, cond}
use mathlib.Core.List.{List, [], ◌∷◌, map}
use lib.ListN.{length, get_or}
use lib.Dec.{eqb, leb}
use borrow.Author.Tests.{eq-eqb, ne_eqb, le-leb, lt-leb}
use Rattle.octets.specs.Octets.{put}
use Rattle.octets.specs.Bools.{one}
use Rattle.octets.specs.PartsLaws.{put-nil, put-put}
use Rattle.machine.specs.Limits.{cell_bytes, most_cells}
use Rattle.machine.specs.Values.{Cell}
use Rattle.machine.specs.Counting.{occurs}
use Rattle.machine.specs.Layout.{count_at, cell_off}
use Rattle.machine.specs.Sound.{sizes}
use Rattle.machine.specs.Pieces.{joined}
use Rattle.machine_writes.specs.Links.{Links}
use Rattle.soundness.specs.declared.pieces.Pieces.{Pieces}
use Rattle.soundness.specs.Places.{pieces_left}
use Rattle.soundness.proofs.Walks.{pieces_few}
use Rattle.pieces.specs.ReadLaws.{cell_in}
use Rattle.pieces.specs.InPlace.{piece_state, index_behind, spot_from, LinkIn}

-- the steps of a walk: one more than there are cells
abbrev pub steps : ℕ
steps = suc most_cells

-- ---- a cell that is met

-- the cell x of b, whose row starts at `cell`
pub record Met (b : List ℕ) (x cell : ℕ) : Type 0 where
  pub some : 1 ≤ x
  pub most : x ≤ most_cells
  pub fits : cell + cell_bytes ≤ length b
  pub leads : get_or b cell 0 ≤ get_or b count_at 0

pub met : {b : List ℕ} {x cell : ℕ} → Links b → x ≤ get_or b count_at 0 → (x ≡ 0 → ⊥) → cell ≡ cell_off x → Met b x cell
met {b} {x} h g z q =
    let a : 1 ≤ x = omega (arith, z) in
    let i = cell_in b h x a g in
    record { some = a; most = i.most; fits = omega (arith, i.fits); leads = rw q (h.cells x a g) }

-- ---- the spot of an index

spot-step : (b : List ℕ) (m at i : ℕ) → 0 < m → spot_from b m at i
    ≡ cond (eqb (get_or b at 0) 0) at (cond (leb i (index_behind b at)) at (spot_from b (m - 1) (cell_off (get_or b at 0)) i))
unfolding spot_from
spot-step b zero at i h = absurd (omega arith)
spot-step b (suc m) at i h =
    let e : m ≡ suc m - 1 = omega arith in
    ap (λ (k : ℕ). cond (eqb (get_or b at 0) 0) at (cond (leb i (index_behind b at)) at (spot_from b k (cell_off (get_or b at 0)) i))) e

-- after n steps the search is at the link at byte `at`: from there it ends where it ends from the link at byte `from`
pub record Seeking (b : List ℕ) (from i at n : ℕ) : Type 0 where
  pub turns : n ≤ steps
  pub within : LinkIn b at
  pub gives : spot_from b (steps - n) at i ≡ spot_from b steps from i

module _ {b : List ℕ} {from i at n : ℕ} (s : Seeking b from i at n) where
  -- it ends here
  abbrev Ends : Type 0
  Ends = (at ≡ spot_from b steps from i) × LinkIn b at

  pub spot_out : steps ≤ n → Ends
  unfolding spot_from
  spot_out h = let e : steps - n ≡ 0 = omega arith in (ap (λ (m : ℕ). spot_from b m at i) (sym e) ∙ s.gives, s.within)

  -- the link leads to x
  module _ (h : n < steps) {x : ℕ} (q : x ≡ get_or b at 0) where
    pub spot-end : x ≡ 0 → Ends
    spot-end z = (sym (spot-step b (steps - n) at i (omega arith) ∙ rw (eq-eqb (get_or b at 0) 0 (sym q ∙ z))) ∙ s.gives, s.within)

    -- to a cell at `cell`, of index y
    module _ (some : x ≡ 0 → ⊥) {cell y : ℕ} (c : cell ≡ cell_off x) (e : y ≡ get_or b (cell + 1) 0) where
      is_some : eqb (get_or b at 0) 0 ≡ false
      is_some = ne_eqb (get_or b at 0) 0 (λ z. some (q ∙ z))

      behind : index_behind b at ≡ y
      behind = sym (e ∙ (λ t. get_or b (c t + 1) 0) ∙ ap (λ (k : ℕ). get_or b (cell_off k + 1) 0) q)

      pub spot-here : i ≤ y → Ends
      spot-here g =
          let stays : leb i (index_behind b at) ≡ true = le-leb i (index_behind b at) (omega (arith, behind)) in
          (sym (spot-step b (steps - n) at i (omega arith) ∙ rw (is_some, stays)) ∙ s.gives, s.within)

      pub spot-more : y < i → Links b → Seeking b from i cell (n + 1)
      spot-more g l =
          let m : steps - n - 1 ≡ steps - (n + 1) = omega arith in
          let goes : leb i (index_behind b at) ≡ false = lt-leb i (index_behind b at) (omega (arith, behind)) in
          let k = met l (omega (arith, q, s.within.leads)) some c in
          record {
            turns = omega arith;
            within = record { inside = omega (arith, k.fits); leads = k.leads };
            gives = sym (spot-step b (steps - n) at i (omega arith)
                ∙ rw (is_some, goes) (λ t. spot_from b (m t) ((ap cell_off (sym q) ∙ sym c) t) i)) ∙ s.gives;
          }

-- ---- pieces one by one

pub sizes_none : sizes [] ≡ 0
unfolding sizes
sizes_none = refl

pub sizes_more : (c : Cell) (l : List Cell) → sizes (c ∷ l) ≡ length c.bytes + sizes l
unfolding sizes
sizes_more c l = refl

-- how many have a state
abbrev pub state_count : ℕ → List Cell → ℕ
state_count state l = occurs state (map piece_state l)

pub count_none : (state : ℕ) → state_count state [] ≡ 0
count_none state = refl

pub count_more : (state : ℕ) (c : Cell) (l : List Cell) → state_count state (c ∷ l) ≡ one (eqb state c.state) + state_count state l
count_more state c l = refl

-- joined behind what `out` has up to `at`
pub joined_none : (out : List ℕ) (at : ℕ) → put out at (joined []) ≡ out
unfolding joined
joined_none out at = put-nil out at

pub joined_more : (out : List ℕ) (at : ℕ) (c : Cell) (l : List Cell) → at + length c.bytes ≤ length out
    → put out at (joined (c ∷ l)) ≡ put (put out at c.bytes) (at + length c.bytes) (joined l)
unfolding joined
joined_more out at c l h = sym (put-put out at (at + length c.bytes) c.bytes (joined l) h refl)

-- no more than a walk has steps
pub few : (p : Pieces) → length (pieces_left p) ≤ steps
few p = omega (arith, pieces_few p, p.few)

pub ruleset seeks = (met, spot_out, spot-end, spot-here, spot-more)

pub ruleset walks = (sizes_none, sizes_more, count_none, count_more, joined_none, joined_more, few)
