-- A held record that is dropped, in a store of either role: aborted, and the second deadline wake. Assumes nothing.
use Rattle.std.specs.Prelude.{ℕ, ◌≡◌, refl, ◌++◌}
use Rattle.std.proofs.Common.{arith}
use Rattle.std.proofs.Math.Option.{Option, none, some}
use Rattle.machine.specs.Codes.{held_kind}
use Rattle.machine.specs.Values.{Rec, Store, Key, same_key}
use Rattle.machine.specs.Sources.{cells_from}
use Rattle.machine.specs.Valid.{RecSized, Valid}
use Rattle.machine.specs.Find.{without}
use Rattle.machine.specs.Receive.{rec_key, found, dropped, drop_at, drop_step}
use Rattle.machine_laws.specs.Keys.{key-eq, key-refl}
use Rattle.machine_steps.proofs.Find.{all_without, total-without, without-append}
use Rattle.machine_steps.proofs.Unique.{unique-without}
use Rattle.machine_steps.proofs.Keys.{distinct-unique}
use Rattle.machine_steps.proofs.Counts.{own_place, in_cells, held-from, occurs-freed}
use Rattle.machine_steps.proofs.Keeps.{Fits, keeps-valid}
use Rattle.machine_steps.proofs.Held.{held-own}

pub drop-at : (role : ℕ) (k : Key) (o : Option Rec) (s : Store) → found k s.held ≡ o → Valid role s → Valid role (drop_at o s)
unfolding drop_at
drop-at role k none s e v = v
drop-at role k (some r) s e v =
    let h : found (rec_key r) s.held ≡ some r = held-own k r s e in
    let u : without same_key rec_key (rec_key r) (s.held ++ s.whole) ≡ dropped (rec_key r) s.held ++ s.whole =
    without-append same_key rec_key (rec_key r) r s.held s.whole h in
    keeps-valid role s (drop_at (some r) s)
    (record {
      setup = refl;
      held = all_without same_key rec_key (Fits role (held_kind role)) (rec_key r) s.held v.held;
      whole = v.whole;
      kinds = v.kinds;
      recs = λ n. omega (arith, total-without same_key rec_key (own_place n) (rec_key r) r s.held h);
      cells = λ n. omega (arith, total-without same_key rec_key (in_cells n) (rec_key r) r s.held h, occurs-freed n r s.free_cells);
      ids = rw (← u) (unique-without same_key rec_key key-eq key-refl (rec_key r) (s.held ++ s.whole) (distinct-unique (s.held ++ s.whole) v.ids));
      sized = rw (← u) (all_without same_key rec_key RecSized (rec_key r) (s.held ++ s.whole) v.sized);
      sources = λ o a. omega (arith, total-without same_key rec_key (cells_from a) (rec_key r) r s.held h, held-from a s, v.sources o a);
    })
    v

pub drop-valid : (role : ℕ) (k : Key) (s : Store) → Valid role s → Valid role (drop_step k s)
drop-valid role k s v = drop-at role k (found k s.held) s refl v
