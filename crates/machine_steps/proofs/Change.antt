-- A held record that is changed where it stands, and a new one that goes first, in a store of either role. Assumes nothing.
use Rattle.std.specs.Prelude.{ℕ, ◌+◌, ◌≤◌, ◌<◌, ◌≡◌, refl, List, ◌∷◌, ◌++◌, length, eqb}
use Rattle.std.proofs.Common.{arith, ap}
use Rattle.std.proofs.Math.Option.{none, some}
use Rattle.octets.specs.Bools.{one}
use Rattle.octets.specs.ListsLaws.{all_join}
use Rattle.machine.specs.Limits.{most_of_source}
use Rattle.machine.specs.Codes.{role_receive, held_kind}
use Rattle.machine.specs.Values.{Rec, Store, same_key}
use Rattle.machine.specs.Chains.{first}
use Rattle.machine.specs.Counting.{occurs}
use Rattle.machine.specs.Sources.{cells_from}
use Rattle.machine.specs.Valid.{RecSized, Valid}
use Rattle.machine.specs.Find.{swap}
use Rattle.machine.specs.Pieces.{rest}
use Rattle.machine.specs.Receive.{rec_key, found, replaced}
use Rattle.machine_laws.specs.Keys.{key-eq, key-refl}
use Rattle.machine_steps.proofs.Find.{Differs, none-absent, all-swap, total-swap, swap-append}
use Rattle.machine_steps.proofs.Unique.{unique-swap}
use Rattle.machine_steps.proofs.Keys.{distinct-unique}
use Rattle.machine_steps.proofs.Counts.{own_place, in_cells, from_source, held-from, occurs-rest}
use Rattle.machine_steps.proofs.Keeps.{Fits, keeps-valid}

-- q stands for the held record with its key, and `cells` are the free cells
abbrev pub changed : Rec → List ℕ → Store → Store
changed q cells s = record { setup = s.setup; free = s.free; held = replaced q s.held; whole = s.whole; free_cells = cells }

pub change-valid : (role : ℕ) (r q : Rec) (cells : List ℕ) (s : Store) → found (rec_key q) s.held ≡ some r → q.place ≡ r.place
    → ((k : ℕ) → occurs k cells + in_cells k q ≡ occurs k s.free_cells + in_cells k r) → Fits role (held_kind role) q → RecSized q
    → (role ≡ role_receive → (a : List ℕ) → from_source a s + cells_from a q ≤ most_of_source + cells_from a r) → Valid role s → Valid role (changed q cells s)
change-valid role r q cells s e p c f z h v =
    let u : swap same_key rec_key q (s.held ++ s.whole) ≡ replaced q s.held ++ s.whole = swap-append same_key rec_key q r s.held s.whole e in
    keeps-valid role s (changed q cells s)
    (record {
      setup = refl;
      held = all-swap same_key rec_key (Fits role (held_kind role)) q s.held f v.held;
      whole = v.whole;
      kinds = v.kinds;
      recs = λ k. omega (arith, total-swap same_key rec_key (own_place k) q r s.held e, ap (λ (n : ℕ). one (eqb k n)) p);
      cells = λ k. omega (arith, total-swap same_key rec_key (in_cells k) q r s.held e, c k);
      ids = rw (← u) (unique-swap same_key rec_key key-eq key-refl q (s.held ++ s.whole) (distinct-unique (s.held ++ s.whole) v.ids));
      sized = rw (← u) (all-swap same_key rec_key RecSized q (s.held ++ s.whole) z v.sized);
      sources = λ o a. omega (arith, total-swap same_key rec_key (cells_from a) q r s.held e, h o a);
    })
    v

-- q takes the first free record and goes first, and `cells` are the free cells
abbrev pub added : Rec → List ℕ → Store → Store
added q cells s = record { setup = s.setup; free = rest s.free; held = q ∷ s.held; whole = s.whole; free_cells = cells }

pub add-valid : (role : ℕ) (q : Rec) (cells : List ℕ) (s : Store) → found (rec_key q) s.held ≡ none → found (rec_key q) s.whole ≡ none
    → 0 < length s.free → q.place ≡ first s.free → ((k : ℕ) → occurs k cells + in_cells k q ≡ occurs k s.free_cells)
    → Fits role (held_kind role) q → RecSized q → (role ≡ role_receive → (a : List ℕ) → cells_from a q ≡ 0) → Valid role s → Valid role (added q cells s)
add-valid role q cells s h w n p c f z g v =
    keeps-valid role s (added q cells s)
    (record {
      setup = refl;
      held = (f, v.held);
      whole = v.whole;
      kinds = v.kinds;
      recs = λ k. omega (arith, occurs-rest k s.free n, ap (λ (x : ℕ). one (eqb k x)) p);
      cells = λ k. omega (arith, c k);
      ids = (
        all_join (Differs same_key rec_key (rec_key q)) s.held s.whole
            (none-absent same_key rec_key (rec_key q) s.held h) (none-absent same_key rec_key (rec_key q) s.whole w),
        distinct-unique (s.held ++ s.whole) v.ids,
      );
      sized = (z, v.sized);
      sources = λ o a. omega (arith, g o a, held-from a s, v.sources o a);
    })
    v
