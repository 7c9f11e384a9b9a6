-- The test `keeps` in closed form: bounds on the number of pieces and on each size, what the sizes add up to, and which pieces may be short.
-- Assumes nothing.
use Rattle.std.specs.Prelude.{ℕ, suc, ◌+◌, ◌≤◌, ◌<◌, ◌≡◌, refl, Bool, true, ◌&&◌, List, [], ◌∷◌, length, eqb, leb, ltb}
use Rattle.std.proofs.Common.{arith, eqb-true, eq-eqb, leb-true, le-leb, ltb-true, lt-ltb}
use Rattle.octets.specs.Lists.{All}
use Rattle.octets.specs.BoolsLaws.{split, both}
use Rattle.packet.specs.Frame.{largest_piece}
use Rattle.machine.specs.Limits.{longest, most_of_source, slots_of, top_of}
use Rattle.kept.specs.Sizes.{sum}
use Rattle.kept.specs.Kept.{long_enough, piece_fits, fits, keeps}

-- each piece from index i and offset o on is long enough
unfoldable pub longs : ℕ → ℕ → ℕ → List ℕ → Bool
longs total i o [] = true
longs total i o (size ∷ l) = long_enough total i o size && longs total (suc i) (o + size) l

-- what the test asks, in closed form
pub record Keeps (total cells : ℕ) (l : List ℕ) : Type 0 where
  pub short : total ≤ longest
  pub sized : All (λ x. x ≤ largest_piece) l
  pub adds : sum l ≡ total
  pub slots : slots_of total ≤ length l
  pub tops : length l ≤ suc (top_of total)
  pub source : length l ≤ most_of_source
  pub room : length l ≤ cells
  pub long : longs total 0 0 l ≡ true

-- a piece that fits, as facts
pub record Fits (total cells i o size : ℕ) : Type 0 where
  pub sized : size ≤ largest_piece
  pub inside : o + size ≤ total
  pub tops : i ≤ top_of total
  pub long : long_enough total i o size ≡ true
  pub source : i < most_of_source
  pub room : i < cells

pub piece-facts : (total cells i o size : ℕ) → piece_fits total cells i o size ≡ true → Fits total cells i o size
piece-facts total cells i o size t =
    let a = split (leb size largest_piece) _ t in
    let b = split (leb (o + size) total) _ a.1 in
    let d = split (leb i (top_of total)) _ b.1 in
    let e = split (long_enough total i o size) _ d.1 in
    let g = split (ltb i most_of_source) (ltb i cells) e.1 in
    record {
      sized = leb-true size largest_piece a.0;
      inside = leb-true (o + size) total b.0;
      tops = leb-true i (top_of total) d.0;
      long = e.0;
      source = ltb-true i most_of_source g.0;
      room = ltb-true i cells g.1;
    }

pub facts-piece : (total cells i o size : ℕ) → Fits total cells i o size → piece_fits total cells i o size ≡ true
facts-piece total cells i o size f =
    rw (
      le-leb size largest_piece f.sized,
      le-leb (o + size) total f.inside,
      le-leb i (top_of total) f.tops,
      f.long,
      lt-ltb i most_of_source f.source,
      lt-ltb i cells f.room,
    )

-- the same of the pieces from index i and offset o on
record From (total cells i o : ℕ) (l : List ℕ) : Type 0 where
  sized : All (λ x. x ≤ largest_piece) l
  adds : o + sum l ≡ total
  slots : slots_of total ≤ i + length l
  tops : i + length l ≤ suc (top_of total)
  source : i + length l ≤ most_of_source
  room : i + length l ≤ cells
  long : longs total i o l ≡ true

from-fits : (total cells i o : ℕ) (l : List ℕ) → i ≤ suc (top_of total) → i ≤ most_of_source → i ≤ cells → fits total cells i o l ≡ true
    → From total cells i o l
unfolding fits longs
from-fits total cells i o [] a b d t =
    let s = split (leb (slots_of total) i) (eqb o total) t in
    record {
      sized = tt;
      adds = omega (arith, eqb-true o total s.1);
      slots = omega (arith, leb-true (slots_of total) i s.0);
      tops = omega arith;
      source = omega arith;
      room = omega arith;
      long = refl;
    }
from-fits total cells i o (size ∷ l) a b d t =
    let s = split (piece_fits total cells i o size) (fits total cells (suc i) (o + size) l) t in
    let p = piece-facts total cells i o size s.0 in
    let f = from-fits total cells (suc i) (o + size) l (omega (arith, p.tops)) (omega (arith, p.source)) (omega (arith, p.room)) s.1 in
    record {
      sized = (p.sized, f.sized);
      adds = omega (arith, f.adds);
      slots = omega (arith, f.slots);
      tops = omega (arith, f.tops);
      source = omega (arith, f.source);
      room = omega (arith, f.room);
      long = both (long_enough total i o size) (longs total (suc i) (o + size) l) p.long f.long;
    }

fits-from : (total cells i o : ℕ) (l : List ℕ) → From total cells i o l → fits total cells i o l ≡ true
unfolding fits longs
fits-from total cells i o [] f =
    both (leb (slots_of total) i) (eqb o total) (le-leb (slots_of total) i (omega (arith, f.slots))) (eq-eqb o total (omega (arith, f.adds)))
fits-from total cells i o (size ∷ l) f =
    let s = split (long_enough total i o size) (longs total (suc i) (o + size) l) f.long in
    both (piece_fits total cells i o size) (fits total cells (suc i) (o + size) l)
    (facts-piece total cells i o size
    (record {
      sized = f.sized.0;
      inside = omega (arith, f.adds);
      tops = omega (arith, f.tops);
      long = s.0;
      source = omega (arith, f.source);
      room = omega (arith, f.room);
    }))
    (fits-from total cells (suc i) (o + size) l
    (record {
      sized = f.sized.1;
      adds = omega (arith, f.adds);
      slots = omega (arith, f.slots);
      tops = omega (arith, f.tops);
      source = omega (arith, f.source);
      room = omega (arith, f.room);
      long = s.1;
    }))

-- the test says exactly that
pub keeps-facts : (total cells : ℕ) (l : List ℕ) → keeps total cells l ≡ true → Keeps total cells l
keeps-facts total cells l t =
    let s = split (leb total longest) (fits total cells 0 0 l) t in
    let f = from-fits total cells 0 0 l (omega arith) (omega arith) (omega arith) s.1 in
    record {
      short = leb-true total longest s.0;
      sized = f.sized;
      adds = omega (arith, f.adds);
      slots = omega (arith, f.slots);
      tops = omega (arith, f.tops);
      source = omega (arith, f.source);
      room = omega (arith, f.room);
      long = f.long;
    }

pub facts-keeps : (total cells : ℕ) (l : List ℕ) → Keeps total cells l → keeps total cells l ≡ true
facts-keeps total cells l k =
    both (leb total longest) (fits total cells 0 0 l) (le-leb total longest k.short)
    (fits-from total cells 0 0 l
    (record {
      sized = k.sized;
      adds = omega (arith, k.adds);
      slots = omega (arith, k.slots);
      tops = omega (arith, k.tops);
      source = omega (arith, k.source);
      room = omega (arith, k.room);
      long = k.long;
    }))
