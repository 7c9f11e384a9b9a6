-- A fresh receiver of at least 12 cells keeps every cut and finishes it. Assumes nothing.
use Rattle.std.specs.Prelude.{ℕ, suc, ◌+◌, ◌*◌, ◌≤◌, ◌<◌, ◌≡◌, refl, true, List, [], ◌∷◌, length, eqb}
use Rattle.std.proofs.Common.{arith, ap, eqb-true, le-leb, ne_eqb}
use Rattle.octets.specs.BoolsLaws.{cases, split}
use Rattle.octets.specs.CompareLaws.{same_refl}
use Rattle.octets.specs.Lists.{all, All}
use Rattle.octets.specs.ListsLaws.{all_true, all-to}
use Rattle.octets.specs.Bools.{one}
use Rattle.packet.specs.Frame.{largest_piece}
use Rattle.machine.specs.Limits.{least_piece}
use Rattle.kept.specs.Sizes.{sum}
use Rattle.kept.specs.Kept.{keeps}
use Rattle.kept.proofs.KeepsLaws.{longs, facts-keeps}
use Rattle.cutter.specs.Cuts.{unit, largest_cut, is_size, is_cut, most_units, cuts, stands}
use Rattle.cutter.proofs.CutsLaws.{size-facts, each-once}

-- no size is short
longs-cut : (total i o : ℕ) (l : List ℕ) → all is_size l ≡ true → longs total i o l ≡ true
unfolding longs
longs-cut total i o [] h = refl
longs-cut total i o (x ∷ l) h =
    let a = split (is_size x) (all is_size l) h in
    rw (le-leb least_piece x (size-facts x a.0).1) (longs-cut total (suc i) (o + x) l a.1)

-- a cut has at most a piece for each 250 bytes, and at least one for each 1,250
most-cut : (l : List ℕ) → all is_size l ≡ true → unit * length l ≤ sum l
most-cut [] h = omega arith
most-cut (x ∷ l) h = let a = split (is_size x) (all is_size l) h in omega (arith, (size-facts x a.0).1, most-cut l a.1)

least-cut : (l : List ℕ) → all is_size l ≡ true → sum l ≤ largest_cut * length l
least-cut [] h = omega arith
least-cut (x ∷ l) h = let a = split (is_size x) (all is_size l) h in omega (arith, (size-facts x a.0).2, least-cut l a.1)

pub cut-kept : (n cells : ℕ) (l : List ℕ) → 1 ≤ n → n ≤ most_units → most_units ≤ cells → is_cut (unit * n) l ≡ true → keeps (unit * n) cells l ≡ true
cut-kept n cells l a b c h =
    let s = split (all is_size l) (eqb (sum l) (unit * n)) h in
    let e : sum l ≡ unit * n = eqb-true (sum l) (unit * n) s.1 in
    let most : unit * length l ≤ sum l = most-cut l s.0 in
    let least : sum l ≤ largest_cut * length l = least-cut l s.0 in
    facts-keeps (unit * n) cells l
    (record {
      short = omega arith;
      sized =
          all-to (λ x. is_size x ≡ true) (λ x. x ≤ largest_piece) l (λ x k. omega (arith, (size-facts x k).2)) (all_true is_size l s.0);
      adds = e;
      slots = omega arith;
      tops = rw (ne_eqb (unit * n) 0 (λ z. omega arith)) (omega arith);
      source = omega arith;
      room = omega arith;
      long = longs-cut (unit * n) 0 0 l s.0;
    })

-- what is so of every list that stands among some is so of each of them
all-standing : (P : List ℕ → Type 0) (g : List (List ℕ)) → ((l : List ℕ) → 0 < stands l g → P l) → All P g
all-standing P [] f = tt
all-standing P (m ∷ g) f = (f m (rw (same_refl m) (omega arith)), all-standing P g (λ l h. f l (omega arith)))

-- each list is a cut
pub all-cuts : (n : ℕ) → All (λ l. is_cut (unit * n) l ≡ true) (cuts n)
all-cuts n =
    all-standing (λ l. is_cut (unit * n) l ≡ true) (cuts n)
    (λ l h. cases (is_cut (unit * n) l) (λ e. e) (λ e. absurd (omega (arith, each-once n l, ap one e))))
