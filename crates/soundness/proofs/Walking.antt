-- The rows of a table and the marks of their places, as the code reads them. Assumes nothing.
use Prim.Native.Nat.{ℕ, suc, ◌+◌, ◌*◌, ◌-◌, ◌≤◌, ◌<◌}
use native.Mathlib.Omega.{arith}
use native.Mathlib.Nat.{mul-le-mul_left}
use native.Mathlib.Numerals.{add-one}
use mathlib.Core.Path.{◌≡◌, refl, ap, ◌∙◌}
use mathlib.Core.Bool.{true, ◌&&◌}
use mathlib.Core.List.{List}
use lib.ListN.{length, get_or, take, drop}
use lib.Seq.{get_or-take, get_or-drop}
use lib.Dec.{eqb}
use Rattle.octets.specs.PartsLaws.{length_part}
use Rattle.machine.specs.Rows.{row_off}
use Rattle.machine_laws.specs.Marks.{all_marked, walk_end, walk-far, walk-twice, walk-bad, walk_more, walk-out}
use Rattle.machine_laws.specs.Rows.{off-step}
use Rattle.soundness.specs.declared.chain.Table.{Table}
use Rattle.soundness.specs.Walked.{row_of}

-- ---- marks

pub marked_none : (m : List ℕ) → all_marked m 0 ≡ true
unfolding all_marked
marked_none m = refl

pub marked_more : (m : List ℕ) (i : ℕ) → all_marked m (i + 1) ≡ (all_marked m i && eqb (get_or m (i + 1) 0) 1)
unfolding all_marked
marked_more m i = rw (add-one i)

-- the mark at i behind the first
pub mark_at : (m : List ℕ) (n i : ℕ) → i < n → get_or (take n (drop 1 m)) i 0 ≡ get_or m (i + 1) 0
mark_at m n i h = get_or-take n (drop 1 m) i 0 h ∙ get_or-drop 1 m i 0 ∙ ap (λ (k : ℕ). get_or m k 0) (let e : 1 + i ≡ i + 1 = omega arith in e)

pub ruleset marks = (marked_none, marked_more, mark_at)

-- ---- rows

-- the row at x ends inside
pub row_long : (t : Table) (b : List ℕ) (x : ℕ) → t.start + t.size * t.count ≤ length b → 0 < x → x ≤ t.count → length (row_of t b x) ≡ t.size
row_long t b x h s q =
    let e : suc x - 1 ≡ x = omega arith in
    length_part b (row_off t.start t.size x) t.size
    (omega (arith, off-step t.start t.size x (omega (arith, s)), ap (λ (k : ℕ). t.start + t.size * k) e, mul-le-mul_left t.size q, h))

-- what the turns of the walk that marks leave
pub ruleset turns = (walk_end, walk-far, walk-twice, walk-bad, walk_more, walk-out)
