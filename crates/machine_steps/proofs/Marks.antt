-- Pieces with other marks: a map over the cells that keeps each one's place, index and bytes keeps their places, their order, their cut and their
-- data. Acknowledging and stamping are such maps. Assumes nothing.
use Rattle.std.specs.Prelude.{ℕ, suc, ◌<◌, ◌≡◌, Bool, true, cond, ◌&&◌, ◌||◌, eqb, leb}
use Rattle.std.proofs.Common.{arith}
use Rattle.std.proofs.Math.Path.{refl}
use mathlib.Core.List.{List, [], ◌∷◌, map}
use Rattle.std.specs.Prelude.{◌-◌}
use Rattle.octets.specs.Octets.{capacity}
use Rattle.machine.specs.Limits.{cut_by}
use Rattle.octets.specs.BoolsLaws.{cases}
use Rattle.machine.specs.Codes.{role_send, piece_sent, piece_acked}
use Rattle.machine.specs.Values.{Cell}
use Rattle.machine.specs.Layout.{number_limit, cell_place}
use Rattle.machine.specs.Sound.{cell_fits, rising, sizes, is_cut}
use Rattle.machine.specs.Pieces.{joined}
use Rattle.machine.specs.Choice.{among}
use Rattle.machine.specs.Send.{marked, ack_cell, stamped}
use Rattle.machine.specs.Typed.{TypedClock}

-- f changes nothing but a sender's marks, and those to marks that fit
pub record Marks (f : Cell → Cell) : Type 0 where
  pub place : (c : Cell) → (f c).place ≡ c.place
  pub index : (c : Cell) → (f c).index ≡ c.index
  pub bytes : (c : Cell) → (f c).bytes ≡ c.bytes
  pub fits : (c : Cell) → cell_fits role_send c ≡ true → cell_fits role_send (f c) ≡ true
  pub stamp : (c : Cell) → c.stamp < number_limit → (f c).stamp < number_limit

-- ---- what such a map keeps

module _ (f : Cell → Cell) (m : Marks f) where
  pub places-map : (l : List Cell) → map cell_place (map f l) ≡ map cell_place l
  places-map [] = refl
  places-map (c ∷ l) = rw (m.place c, places-map l)

  pub rising-map : (low high : ℕ) (l : List Cell) → rising low high (map f l) ≡ rising low high l
  unfolding rising
  rising-map low high [] = refl
  rising-map low high (c ∷ l) = rw (m.index c, rising-map (suc c.index) high l)

  pub sizes-map : (l : List Cell) → sizes (map f l) ≡ sizes l
  unfolding sizes
  sizes-map [] = refl
  sizes-map (c ∷ l) = rw (m.bytes c, sizes-map l)

  pub cut-map : (n : ℕ) (l : List Cell) → is_cut n (map f l) ≡ is_cut n l
  unfolding is_cut
  cut-map n [] = refl
  cut-map n (c ∷ l) = rw (m.bytes c, cut-map (n - cut_by) l)

  pub joined-map : (l : List Cell) → joined (map f l) ≡ joined l
  unfolding joined
  joined-map [] = refl
  joined-map (c ∷ l) = rw (m.bytes c, joined-map l)

-- ---- such maps

pub marks-same : Marks (λ c. c)
marks-same = record { place = λ c. refl; index = λ c. refl; bytes = λ c. refl; fits = λ c h. h; stamp = λ c h. h }

-- the cells that pass a test get a stamp and a state
pub marks-if : (test : Cell → Bool) (stamp state : ℕ) → stamp < number_limit → (leb state piece_acked && (eqb state piece_sent || eqb stamp 0)) ≡ true
    → Marks (λ c. cond (test c) (marked c stamp state) c)
marks-if test stamp state b f = record {
  place = λ c. cases (test c) (λ e. rw e) (λ e. rw e);
  index = λ c. cases (test c) (λ e. rw e) (λ e. rw e);
  bytes = λ c. cases (test c) (λ e. rw e) (λ e. rw e);
  fits = λ c h. cases (test c) (λ e. rw e f) (λ e. rw e h);
  stamp = λ c h. cases (test c) (λ e. rw e b) (λ e. rw e h);
}

pub marks-ack : (index : ℕ) → Marks (ack_cell index)
unfolding capacity
marks-ack index = marks-if (λ c. eqb c.index index) 0 piece_acked (omega arith) refl

pub marks-stamped : (clock : ℕ) (those : List Cell) → TypedClock clock → Marks (stamped clock those)
marks-stamped clock those t = marks-if (λ c. among those c.index) clock piece_sent t refl
