-- A search for a key, as a call makes it: what it ended at, and what a row of refusals that asks a record comes to. Assumes nothing.
use Rattle.std.specs.Prelude.{ℕ, ◌≡◌, refl, true, false, List, []}
use Rattle.std.proofs.Common.{arith, sym, ap, ◌∙◌, eq-eqb, ne_eqb}
use Rattle.std.proofs.Math.Option.{Option}
use Rattle.octets.specs.Octets.{Bytes}
use Rattle.machine.specs.Values.{Rec, Key}
use Rattle.machine.specs.Layout.{held_at, decode}
use Rattle.machine.specs.Sound.{sound}
use Rattle.machine.specs.Receive.{found}
use Rattle.machine.specs.Refusals.{Refusals, refusal, asks_of}
use Rattle.records.specs.Seek.{seek}
use Rattle.records.specs.HeldAt.{met_at, place_at, rec_in, key_in, HeldAt, Searched}
use Rattle.records.specs.MetLaws.{held-met, sought-key, sought-held}
use Rattle.records.specs.RefuseLaws.{stop}

-- the search for key k in the bytes of a sound store ended at the link at byte `at`
pub record Search (role : ℕ) (b : List ℕ) (k : Key) (at : ℕ) : Type 0 where
  pub bytes : Bytes b
  pub sound : sound role b ≡ true
  pub is : at ≡ seek k b held_at

module _ {role : ℕ} {b : List ℕ} {k : Key} {at : ℕ} (h : Search role b k at) where
  pub ended : Searched role b at
  ended = record { sound = h.sound; key = k; is = h.is }

  pub met : met_at b at ≡ found k (decode b).held
  met = ap (met_at b) h.is ∙ sym (held-met role b h.bytes h.sound k)

  module _ (some : place_at b at ≡ 0 → ⊥) where
    pub here : HeldAt role b at
    here = sought-held role b h.bytes h.sound k at h.is (omega (arith, some))

    pub own_key : key_in b at ≡ k
    own_key = sought-key role b h.bytes h.sound k at h.is (omega (arith, some))

-- ---- a row that asks the record that was met

module _ {role : ℕ} {b : List ℕ} {at : ℕ} (h : Searched role b at) (tests : Rec → Refusals) where
  pub none-met : place_at b at ≡ 0 → 8 ≡ refusal (asks_of (met_at b at) tests)
  none-met e = sym (rw (eq-eqb (place_at b at) 0 e) (stop false 8 [] refl))

  pub asks-met : (place_at b at ≡ 0 → ⊥) → refusal (asks_of (met_at b at) tests) ≡ refusal (tests (rec_in b at))
  asks-met e = rw (ne_eqb (place_at b at) 0 e)

  pub some-met : refusal (asks_of (met_at b at) tests) ≡ 0 → place_at b at ≡ 0 → ⊥
  some-met z e = absurd (let w : ◌≡◌ {A = ℕ} 8 0 = none-met e ∙ z in omega arith)

-- a row that asks the record with the key, decided by the record that was met
module _ {role : ℕ} {b : List ℕ} {k : Key} {at : ℕ} (h : Search role b k at) (tests : Rec → Refusals) {n : ℕ}
    (e : n ≡ refusal (asks_of (met_at b at) tests)) where
  pub number_is : n ≡ refusal (asks_of (found k (decode b).held) tests)
  number_is = e ∙ ap (λ (o : Option Rec). refusal (asks_of o tests)) (met h)

  -- it refuses nothing: the record is there, and passed its tests
  module _ (z : n ≡ 0) where
    some : place_at b at ≡ 0 → ⊥
    some = some-met (ended h) tests (sym e ∙ z)

    pub passed : refusal (tests (rec_in b at)) ≡ 0
    passed = sym (asks-met (ended h) tests some) ∙ sym e ∙ z

    pub held-here : HeldAt role b at
    held-here = here h some

    pub held-key : key_in b at ≡ k
    held-key = own_key h some
