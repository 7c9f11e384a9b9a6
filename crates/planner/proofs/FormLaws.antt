-- The plan in closed form: 1,364 as often as it fits, the rest, zeros; exactly for ceil(length / 1,300) ≤ number ≤ the smaller of 30 and top + 1. Here
-- against the test `keeps`; that this is what the calls do stands in PlanLaws. Assumes nothing.
use Rattle.std.specs.Prelude.{ℕ, zero, suc, ◌+◌, ◌*◌, ◌-◌, ◌≤◌, min, ◌≡◌, refl, Bool, true, false, ◌&&◌, ◌||◌, List, [], ◌∷◌, length, eqb, leb}
use Rattle.std.proofs.Common.{arith, ap, eqb-true, eq-eqb, leb-true, leb-false, le-leb, le-ltb}
use Rattle.octets.specs.BoolsLaws.{cases, clash, split, both}
use Rattle.packet.specs.Frame.{largest_piece}
use Rattle.machine.specs.Limits.{longest, least_piece, most_cells, most_of_source, slots_of, top_of}
use Rattle.kept.specs.Sizes.{sum, less}
use Rattle.kept.specs.Kept.{long_enough, keeps}
use Rattle.kept.proofs.KeepsLaws.{longs, keeps-facts, facts-keeps}
use Rattle.planner.specs.Form.{planned, plannable}
use Rattle.planner.proofs.FirstLaws.{Sized, Listed}

-- ---- the list given

pub length-planned : (k n : ℕ) → length (planned k n) ≡ k
unfolding planned
length-planned zero n = refl
length-planned (suc k) n = ap suc (length-planned k (n - largest_piece))

sized_planned : (k n : ℕ) → Sized (planned k n)
unfolding planned
sized_planned zero n = tt
sized_planned (suc k) n = (omega arith, sized_planned k (n - largest_piece))

pub listed-planned : (k n : ℕ) → Listed k (planned k n)
listed-planned k n = (length-planned k n, sized_planned k n)

sum-planned : (k n : ℕ) → n ≤ largest_piece * k → sum (planned k n) ≡ n
unfolding planned
sum-planned zero n h = omega arith
sum-planned (suc k) n h = omega (arith, sum-planned k (n - largest_piece) (omega arith))

or-true : (p : Bool) → (p || true) ≡ true
or-true true = refl
or-true false = refl

-- a short piece ends the message
longs-planned : (total i o k n : ℕ) → o + n ≡ total → longs total i o (planned k n) ≡ true
unfolding planned longs
longs-planned total i o zero n e = refl
longs-planned total i o (suc k) n e =
    let size = min largest_piece n in
    both (long_enough total i o size) (longs total (suc i) (o + size) (planned k (n - largest_piece)))
    (cases (leb least_piece size)
    (λ t. rw t)
    (λ t. let m = leb-false least_piece size t in
    let q : o + size ≡ total = omega arith in
    rw (t, eq-eqb (o + size) total q) (or-true (eqb i (top_of total)))))
    (longs-planned total (suc i) (o + size) k (n - largest_piece) (omega arith))

pub plannable-facts : (total k : ℕ) → plannable total k ≡ true → (slots_of total ≤ k) × (k ≤ most_of_source) × (k ≤ suc (top_of total))
plannable-facts total k h =
    let b = split (leb (slots_of total) k) (leb k most_of_source && leb k (suc (top_of total))) h in
    let d = split (leb k most_of_source) (leb k (suc (top_of total))) b.1 in
    (leb-true (slots_of total) k b.0, leb-true k most_of_source d.0, leb-true k (suc (top_of total)) d.1)

pub planned-kept : (total k : ℕ) → total ≤ longest → plannable total k ≡ true → keeps total most_cells (planned k total) ≡ true
planned-kept total k a h =
    let f = plannable-facts total k h in
    let n = length-planned k total in
    facts-keeps total most_cells (planned k total)
    (record {
      short = a;
      sized = sized_planned k total;
      adds = sum-planned k total (omega (arith, f.0));
      slots = omega (arith, f.0);
      tops = omega (arith, f.2);
      source = omega (arith, f.1);
      room = omega (arith, f.1);
      long = longs-planned total 0 0 k total (omega arith);
    })

-- ---- no greater list

greatest : (k n : ℕ) (l : List ℕ) → length l ≡ k → sum l ≡ n → Sized l → less (planned k n) l ≡ false
unfolding planned less
greatest zero n [] a b s = refl
greatest zero n (x ∷ l) a b s = absurd (omega arith)
greatest (suc k) n [] a b s = refl
greatest (suc k) n (x ∷ l) a b s =
    let w : x ≤ min largest_piece n = omega (arith, s.0) in
    rw (le-ltb (min largest_piece n) x w)
    (cases (eqb (min largest_piece n) x)
    (λ t. rw t (greatest k (n - largest_piece) l (omega arith) (omega (arith, eqb-true (min largest_piece n) x t)) s.1))
    (λ t. rw t))

pub planned-greatest : (total k : ℕ) (l : List ℕ) → Listed k l → keeps total most_cells l ≡ true → less (planned k total) l ≡ false
planned-greatest total k l s t = greatest k total l s.0 (keeps-facts total most_cells l t).adds s.1

-- ---- otherwise none

pub kept-plannable : (total k : ℕ) (l : List ℕ) → length l ≡ k → keeps total most_cells l ≡ true → plannable total k ≡ true
kept-plannable total k l e h =
    let f = keeps-facts total most_cells l h in
    rw (
      le-leb (slots_of total) k (omega (arith, f.slots)),
      le-leb k most_of_source (omega (arith, f.source)),
      le-leb k (suc (top_of total))
          (omega (arith, f.tops)),
    )

pub planned-none : (total k : ℕ) → plannable total k ≡ false → (l : List ℕ) → length l ≡ k → keeps total most_cells l ≡ false
planned-none total k h l e = cases (keeps total most_cells l) (λ t. clash (kept-plannable total k l e t) h) (λ t. t)
