-- The cells that records hold for a source, record by record. Assumes nothing.
use Prim.Native.Nat.{ℕ, ◌+◌, ◌≤◌}
use native.Mathlib.Omega.{arith}
use mathlib.Core.Path.{◌≡◌, refl, sym, ◌∙◌}
use mathlib.Core.Bool.{Bool, true, false}
use mathlib.Core.List.{List, [], ◌∷◌, ◌++◌, map}
use lib.ListN.{length, get_or}
use Rattle.octets.specs.Octets.{same, part}
use Rattle.machine.specs.Values.{Rec}
use Rattle.machine.specs.Sources.{cells_from, held_by}
use Rattle.machine.specs.Layout.{held_at, whole_at, first_cell_at, source_at, address_width, rec_at, rec_of, rec_chain, read_cells, read_rec, decode}
use Rattle.machine_laws.specs.Counting.{total-append}
use Rattle.soundness.specs.declared.records.Records.{Records}
use Rattle.soundness.specs.Places.{places}
use Rattle.soundness.proofs.Walks.{places_few}

-- a record's source is compared
module _ (source b : List ℕ) (p : ℕ) {q : Bool} (e : q ≡ same source (part (rec_at b p) source_at address_width)) where
  pub none_from : q ≡ false → 0 ≡ cells_from source (read_rec b p)
  unfolding cells_from rec_of
  none_from z = sym (rw (sym e ∙ z))

  pub some_from : q ≡ true → {n : ℕ} → n ≡ length (read_cells b (get_or (rec_at b p) first_cell_at 0)) → n ≡ cells_from source (read_rec b p)
  unfolding cells_from rec_of
  some_from z k = k ∙ sym (rw (sym e ∙ z))

pub held_none : (source : List ℕ) → held_by source [] ≡ 0
held_none source = refl

pub held_first : (source : List ℕ) (r : Rec) (l : List Rec) → held_by source (r ∷ l) ≡ cells_from source r + held_by source l
held_first source r l = refl

-- no more records than a walk has steps
pub few : (r : Records) → length (places r) ≤ 9
few r = omega (arith, places_few r, r.few)

-- both chains of a store
pub both_chains : (source b : List ℕ) {n m : ℕ} → n ≡ held_by source (map (read_rec b) (rec_chain b (get_or b held_at 0)))
    → m ≡ held_by source (map (read_rec b) (rec_chain b (get_or b whole_at 0))) → n + m ≡ held_by source ((decode b).held ++ (decode b).whole)
unfolding decode
both_chains source b e f =
    let at : ℕ → List Rec = λ head. map (read_rec b) (rec_chain b (get_or b head 0)) in
    omega (arith, e, f, total-append (cells_from source) (at held_at) (at whole_at))

pub ruleset shares = (none_from, some_from, held_none, held_first, few, both_chains)
