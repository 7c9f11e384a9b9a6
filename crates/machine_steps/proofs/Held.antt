-- What a valid store tells of a record that is found among the held ones. Assumes nothing.
use Rattle.std.specs.Prelude.{ℕ, ◌≡◌}
use Rattle.std.proofs.Math.Option.{some}
use Rattle.octets.specs.ListsLaws.{all_left}
use Rattle.machine.specs.Codes.{held_kind}
use Rattle.machine.specs.Values.{Rec, Store, Key, same_key}
use Rattle.machine.specs.Valid.{RecSized, Valid}
use Rattle.machine.specs.Receive.{rec_key, found}
use Rattle.machine_laws.specs.Fine.{Fine, fits-fine}
use Rattle.machine_laws.specs.Keys.{key-eq, key-refl}
use Rattle.machine_steps.proofs.Find.{all_found, find-own}
use Rattle.machine_steps.proofs.Keeps.{Fits}

-- it is found by its own key
pub held-own : (k : Key) (r : Rec) (s : Store) → found k s.held ≡ some r → found (rec_key r) s.held ≡ some r
held-own k r s e = find-own same_key rec_key key-eq key-refl k r s.held e

module _ (role : ℕ) (k : Key) (r : Rec) (s : Store) (e : found k s.held ≡ some r) (v : Valid role s) where
  pub held-fine : Fine role (held_kind role) r
  held-fine = fits-fine role (held_kind role) r (all_found same_key rec_key (Fits role (held_kind role)) k r s.held e v.held)

  pub held-sized : RecSized r
  held-sized = all_found same_key rec_key RecSized k r s.held e (all_left RecSized s.held s.whole v.sized)
