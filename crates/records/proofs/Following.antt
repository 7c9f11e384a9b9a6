-- The turns of `find`: what is left to follow from the link gives what the whole gives. Assumes nothing.
use Prim.Native.Nat.{ℕ, suc, ◌+◌, ◌-◌, ◌≤◌, ◌<◌}
use native.Mathlib.Omega.{arith}
use mathlib.Core.Path.{◌≡◌, sym, ap, ◌∙◌}
use mathlib.Core.Bool.{Bool, true, false}
use mathlib.Core.List.{List}
use lib.ListN.{get_or, take, drop}
use Rattle.octets.specs.Octets.{part, same}
use Rattle.octets.specs.PartsLaws.{part_of}
use Rattle.machine.specs.Limits.{rec_count}
use Rattle.machine.specs.Values.{same_key}
use Rattle.machine.specs.Layout.{rec_off, id_at, id_width}
use Rattle.machine_writes.specs.Links.{RecLink}
use Rattle.records.specs.Seek.{id_in, seek_from, seek}
use Rattle.records.specs.SoughtLaws.{seek-end, seek-here, seek-next}

-- what holds at each turn, with n links passed
pub record Following (k b : List ℕ) (at link n : ℕ) : Type 0 where
  pub turns : n ≤ suc rec_count
  pub within : RecLink b link
  pub gives : seek_from k b (suc rec_count - n) link ≡ seek k b at

module _ {k b : List ℕ} {at link n : ℕ} (h : Following k b at link n) where
  pub ends-out : suc rec_count ≤ n → link ≡ seek k b at
  unfolding seek_from
  ends-out g = let e : suc rec_count - n ≡ 0 = omega arith in (rw e at h.gives)

  module _ (g : n < suc rec_count) where
    fuel : suc rec_count - n ≡ suc (rec_count - n)
    fuel = omega arith

    left : seek_from k b (suc (rec_count - n)) link ≡ seek k b at
    left = ap (λ (m : ℕ). seek_from k b m link) (sym fuel) ∙ h.gives

    -- the link leads to the place p
    module _ {p : ℕ} (read : p ≡ get_or b link 0) where
      pub ends-zero : p ≡ 0 → link ≡ seek k b at
      ends-zero e = sym (seek-end k b (rec_count - n) link (sym read ∙ e)) ∙ left

      -- and there the row starts whose id is compared
      module _ (z : p ≡ 0 → ⊥) {row : ℕ} (starts : row ≡ rec_off p) {q : Bool}
          (equal : q ≡ same k (take (row + id_at + id_width - (row + id_at)) (drop (row + id_at) b))) where
        some : get_or b link 0 ≡ 0 → ⊥
        some e = z (read ∙ e)

        at_row : row ≡ rec_off (get_or b link 0)
        at_row = starts ∙ ap rec_off read

        tested : q ≡ same_key k (id_in b (get_or b link 0))
        unfolding same_key
        tested =
            equal ∙ ap (same k) (part_of b (row + id_at) (row + id_at + id_width) id_width (omega arith) ∙ ap (λ (o : ℕ). part b (o + id_at) id_width) at_row)

        pub ends-here : q ≡ true → link ≡ seek k b at
        ends-here e = sym (seek-here k b (rec_count - n) link some (sym tested ∙ e)) ∙ left

        pub goes_on : q ≡ false → RecLink b (rec_off p) → Following k b at row (n + 1)
        goes_on e r = record {
          turns = omega arith;
          within = rw starts r;
          gives = (λ i. seek_from k b (next i) (at_row i)) ∙ sym (seek-next k b (rec_count - n) link some (sym tested ∙ e)) ∙ left;
        }
          where
            next : suc rec_count - (n + 1) ≡ rec_count - n
            next = omega arith

pub ruleset follows = (ends-out, ends-zero, ends-here, goes_on)
