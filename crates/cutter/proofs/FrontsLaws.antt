-- Laws of lines that begin alike, as the code writes them. Assumes nothing.
use Rattle.std.specs.Prelude.{ℕ, suc, ◌+◌, ◌*◌, ◌-◌, ◌/◌, ◌%◌, ◌≤◌, ◌<◌, ◌≡◌, true, drop, ltb}
use Rattle.std.proofs.Common.{arith, sym, ◌∙◌, length-append, lt-ltb, le-ltb, ltb-true, ltb-false}
use Rattle.std.proofs.Math.Path.{refl, ap}
use mathlib.Core.List.{List, [], ◌∷◌, ◌++◌, map, append_assoc, append-nil}
use Rattle.std.proofs.Math.ListN.{length, take}
use Rattle.std.proofs.Math.Seq.{take_at}
use Rattle.octets.specs.Octets.{put}
use Rattle.octets.specs.PartsLaws.{more, length-put}
use Rattle.octets.specs.BoolsLaws.{cases, clash}
use Rattle.octets.specs.Lists.{All}
use Rattle.script.specs.Input.{line_feed}
use Rattle.script.specs.Decimal.{digits_of, decimal_of}
use Rattle.cutter.specs.Cuts.{unit, largest_cut, is_size, grow}
use Rattle.cutter.proofs.CutsLaws.{heads, heads-grow, size-facts, size-next}
use Rattle.cutter.specs.Text.{blank, item, line_of}
use Rattle.cutter.specs.Fronts.{digit, Wrote, lines_behind, growing, Room}

-- ---- sizes in decimal

pub decimal-three : (n : ℕ) → 100 ≤ n → n < 1000 → decimal_of n ≡ digit (n / 100) ∷ digit (n / 10) ∷ digit n ∷ []
unfolding digits_of
decimal-three n a b =
    rw (le-ltb n 10 (omega arith), le-ltb (n / 10) 10 (omega arith), lt-ltb (n / 10 / 10) 10 (omega arith))
    (let p : n / 10 / 10 ≡ n / 100 % 10 = omega arith in rw p)

pub decimal-four : (n : ℕ) → 1000 ≤ n → n < 10000 → decimal_of n ≡ digit (n / 1000) ∷ digit (n / 100) ∷ digit (n / 10) ∷ digit n ∷ []
unfolding digits_of
decimal-four n a b =
    rw
    (le-ltb n 10 (omega arith), le-ltb (n / 10) 10 (omega arith), le-ltb (n / 10 / 10) 10 (omega arith), lt-ltb (n / 10 / 10 / 10) 10 (omega arith))
    (let p : n / 10 / 10 / 10 ≡ n / 1000 % 10 = omega arith in
    let q : n / 10 / 10 ≡ n / 100 = omega arith in
    rw (p, q))

-- a number and the byte behind it
pub length_three : (n end : ℕ) → 100 ≤ n → n < 1000 → length (item n end) ≡ 4
length_three n end a b = ap (λ (l : List ℕ). length (l ++ (end ∷ []))) (decimal-three n a b)

pub length-four : (n end : ℕ) → 1000 ≤ n → n < 10000 → length (item n end) ≡ 5
length-four n end a b = ap (λ (l : List ℕ). length (l ++ (end ∷ []))) (decimal-four n a b)

-- a size and the byte behind it take at most 4 bytes for each unit
item-short : (s end : ℕ) → is_size s ≡ true → length (item s end) ≤ 4 * (s / unit)
item-short s end h =
    let z = size-facts s h in
    cases (ltb s 1000)
    (λ e. omega (arith, z.1, length_three s end (omega (arith, z.1)) (ltb-true s 1000 e)))
    (λ e. omega (arith, ltb-false s 1000 e, length-four s end (ltb-false s 1000 e) (omega (arith, z.2))))

-- ---- writes

-- what is written right behind
pub wrote_then : {b m l v w : List ℕ} {at end last : ℕ} → Wrote b at v m end → Wrote m end w l last → at + length v ≤ length b
    → Wrote b at (v ++ w) l last
wrote_then {b} {m} {l} {v} {w} {at} {end} x y h =
    record { is = more b m l at end v w x.is y.is x.ends h; ends = omega (arith, x.ends, y.ends, length-append v w) }

-- the same text by another name
pub wrote_as : {b l v w : List ℕ} {at end : ℕ} → v ≡ w → Wrote b at v l end → Wrote b at w l end
wrote_as e x = rw (← e) x

-- what is written at the start of a buffer is shown there
module _ {b d v : List ℕ} {n : ℕ} (wrote : Wrote b 0 v d n) (h : length v ≤ length b) where
  pub shown-within : n ≤ length d
  shown-within = omega (arith, ap length wrote.is, length-put b 0 v (omega arith), wrote.ends)

  pub shown : take n d ≡ v
  unfolding put
  shown =
      let ends : n ≡ length v = omega (arith, wrote.ends) in
      ap (λ (k : ℕ). take k d) ends ∙ ap (take (length v)) wrote.is ∙ take_at v (drop (0 + length v) b) (length v) refl

-- ---- lines

lines-append : (p : List ℕ) (g h : List (List ℕ)) → lines_behind p (g ++ h) ≡ lines_behind p g ++ lines_behind p h
unfolding lines_behind
lines-append p [] h = refl
lines-append p (l ∷ g) h =
    ap (λ (x : List ℕ). (p ++ line_of l) ++ x) (lines-append p g h) ∙ sym (append_assoc (p ++ line_of l) (lines_behind p g) (lines_behind p h))

-- a size before each line is a longer front
lines-map : (p : List ℕ) (s : ℕ) (g : List (List ℕ)) → All (λ l. heads unit l ≡ true) g
    → lines_behind p (map (λ (l : List ℕ). s ∷ l) g) ≡ lines_behind (p ++ item s blank) g
unfolding lines_behind line_of
lines-map p s [] h = refl
lines-map p s ([] ∷ g) h = clash h.0 refl
lines-map p s ((y ∷ l) ∷ g) h = (λ i. sym (append_assoc p (item s blank) (line_of (y ∷ l))) i ++ lines-map p s g h.1 i)

module _ (front : List ℕ) (size : ℕ) where
  -- nothing is left: the size ends its line
  pub growing-none : (left : ℕ) → left ≡ 0 → growing front size left ≡ front ++ item size line_feed
  unfolding lines_behind line_of grow
  growing-none left e = ap (growing front size) e ∙ append-nil (front ++ item size line_feed)

  module _ (left : ℕ) (some : left ≡ 0 → ⊥) where
    one_more : left ≡ suc (left - 1)
    one_more = omega arith

    -- the size ends, and another begins; or it grows
    pub growing-more : size < largest_cut
        → growing front size left ≡ growing (front ++ item size blank) unit (left - 1) ++ growing front (size + unit) (left - 1)
    unfolding grow
    growing-more h =
        let longer = map (λ (l : List ℕ). size ∷ l) (grow unit (left - 1)) in
        ap (growing front size) one_more
        ∙ rw (lt-ltb size largest_cut h) (lines-append front longer (grow (size + unit) (left - 1)))
        ∙ ap (λ (x : List ℕ). x ++ growing front (size + unit) (left - 1)) (lines-map front size (grow unit (left - 1)) (heads-grow (left - 1) unit))

    -- the largest size only ends
    pub growing-last : largest_cut ≤ size → growing front size left ≡ growing (front ++ item size blank) unit (left - 1)
    unfolding grow
    growing-last h =
        ap (growing front size) one_more
        ∙ rw (le-ltb size largest_cut h, append-nil) (lines-map front size (grow unit (left - 1)) (heads-grow (left - 1) unit))

-- ---- room

module _ {front : List ℕ} {size left : ℕ} {out : List ℕ} {at : ℕ} (room : Room front size left out at) where
  pub room-line : left ≡ 0 → at + length (front ++ item size line_feed) ≤ length out
  room-line e = omega (arith, room.fits, ap length (growing-none front size left e))

  -- a size ends and there is more: the front grows
  module _ (some : left ≡ 0 → ⊥) where
    pub front-short : length (front ++ item size blank) ≤ 44
    front-short = omega (arith, room.short, item-short size blank room.sized, length-append front (item size blank))

    first_fits : at + length (growing (front ++ item size blank) unit (left - 1)) ≤ length out
    first_fits =
        let first = growing (front ++ item size blank) unit (left - 1) in
        let rest = growing front (size + unit) (left - 1) in
        cases (ltb size largest_cut)
        (λ e. omega (arith, room.fits, ap length (growing-more front size left some (ltb-true size largest_cut e)), length-append first rest))
        (λ e. omega (arith, room.fits, ap length (growing-last front size left some (ltb-false size largest_cut e))))

    -- .. in a buffer of 44 bytes
    module _ {buffer longer : List ℕ} {n : ℕ} (grown : Wrote buffer 0 (front ++ item size blank) longer n) (long : length buffer ≡ 44) where
      pub longer-within : n ≤ length longer
      longer-within = shown-within grown (omega (arith, front-short))

      longer-is : take n longer ≡ front ++ item size blank
      longer-is = shown grown (omega (arith, front-short))

      pub room-first : Room (take n longer) unit (left - 1) out at
      room-first =
          rw longer-is
          (record {
            sized = refl;
            short = omega (arith, room.short, item-short size blank room.sized, length-append front (item size blank));
            fits = first_fits;
          })

      -- the lines behind the longer front are written
      module _ {mid : List ℕ} {end : ℕ} (wrote : Wrote out at (growing (take n longer) unit (left - 1)) mid end) where
        first-wrote : Wrote out at (growing (front ++ item size blank) unit (left - 1)) mid end
        first-wrote = wrote_as (ap (λ (p : List ℕ). growing p unit (left - 1)) longer-is) wrote

        pub wrote-last : largest_cut ≤ size → Wrote out at (growing front size left) mid end
        wrote-last h = wrote_as (sym (growing-last front size left some h)) first-wrote

        -- those of a larger size come behind them
        module _ (h : size < largest_cut) where
          pub room-second : Room front (size + unit) (left - 1) mid end
          room-second =
              let first = growing (front ++ item size blank) unit (left - 1) in
              let rest = growing front (size + unit) (left - 1) in
              record {
                sized = size-next size room.sized (lt-ltb size largest_cut h);
                short = omega (arith, room.short);
                fits =
                    omega (
                      arith,
                      room.fits,
                      ap length (growing-more front size left some h),
                      length-append first rest,
                      ap length first-wrote.is,
                      length-put out at first first_fits,
                      first-wrote.ends,
                    );
              }

          pub wrote-both : {after : List ℕ} {last : ℕ} → Wrote mid end (growing front (size + unit) (left - 1)) after last
              → Wrote out at (growing front size left) after last
          wrote-both second = wrote_as (sym (growing-more front size left some h)) (wrote_then first-wrote second first_fits)
