-- Take: the oldest whole record that is dropped leaves a receive store valid. Assumes nothing.
use Rattle.std.proofs.Common.{arith, ap}
use Rattle.std.specs.Prelude.{◌≡◌, refl, List, [], ◌∷◌, ◌++◌}
use Rattle.octets.specs.Lists.{All}
use Rattle.machine.specs.Codes.{role_receive, kind_whole}
use Rattle.machine.specs.Values.{Rec, Store, same_key}
use Rattle.machine.specs.Counting.{total}
use Rattle.machine.specs.Sources.{cells_from}
use Rattle.machine.specs.Valid.{RecSized, Valid}
use Rattle.machine.specs.Receive.{rec_key, take_from, take_step}
use Rattle.machine_steps.proofs.Unique.{all-skip, unique-skip}
use Rattle.machine_steps.proofs.Keys.{distinct-unique}
use Rattle.machine_steps.proofs.Counts.{own_place, in_cells, held-from, occurs-freed}
use Rattle.machine_steps.proofs.Keeps.{Fits, keeps-valid}

take-from : (l : List Rec) (s : Store) → s.whole ≡ l → Valid role_receive s → Valid role_receive (take_from l s)
unfolding take_from
take-from [] s e v = v
take-from (r ∷ l) s e v =
    let w : All (Fits role_receive kind_whole) (r ∷ l) = rw e at v.whole in
    keeps-valid role_receive s (take_from (r ∷ l) s)
    (record {
      setup = refl;
      held = v.held;
      whole = w.1;
      kinds = refl;
      recs = λ k. omega (arith, ap (total (own_place k)) e);
      cells = λ k. omega (arith, ap (total (in_cells k)) e, occurs-freed k r s.free_cells);
      ids = unique-skip same_key rec_key r s.held l (distinct-unique (s.held ++ (r ∷ l)) (rw e at v.ids));
      sized = all-skip RecSized r s.held l (rw e at v.sized);
      sources = λ o a. omega (arith, ap (total (cells_from a)) e, held-from a s, v.sources o a);
    })
    v

pub take-valid : (s : Store) → Valid role_receive s → Valid role_receive (take_step s)
take-valid s v = take-from s.whole s refl v
