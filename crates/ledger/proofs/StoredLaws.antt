-- Bytes that are a store of a role: sound for that role, and for no other. Assumes nothing.
use Rattle.std.specs.Prelude.{ℕ, ◌≡◌, true, List}
use Rattle.std.proofs.Math.Path.{sym}
use Rattle.std.proofs.Common.{ap, ◌∙◌}
use borrow.Author.Tests.{eqb-true}
use Rattle.machine.specs.Values.{Store}
use Rattle.machine.specs.Layout.{encode, decode}
use Rattle.machine.specs.Sound.{head_tests, sound_tests, sound}
use Rattle.machine.specs.Valid.{Valid}
use Rattle.machine_laws.specs.Tests.{every_true}
use Rattle.machine_laws.specs.ValidSound.{valid-sound}

pub record Stored (role : ℕ) (b : List ℕ) : Type 0 where
  pub valid : Valid role (decode b)
  pub bytes : encode (decode b) ≡ b

-- a valid store's bytes are
pub valid-stored : (role : ℕ) (s : Store) → Valid role s → Stored role (encode s)
valid-stored role s v = let e = (valid-sound role s v).1 in record { valid = rw e v; bytes = ap encode e }

module _ (role : ℕ) (b : List ℕ) (h : Stored role b) where
  pub stored-sound : sound role b ≡ true
  stored-sound = rw h.bytes at (valid-sound role (decode b) h.valid).0

  -- what is sound for a place is a store of the place's role
  pub sound-role : (place : ℕ) → sound place b ≡ true → role ≡ place
  unfolding sound
  sound-role place t =
      let f = every_true (head_tests place b (decode b)) (every_true (sound_tests place b (decode b)) t).0 in
      sym h.valid.in_role ∙ eqb-true (decode b).setup.role place f.1.1.1.0
