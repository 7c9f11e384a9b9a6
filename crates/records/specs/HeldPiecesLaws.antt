-- The pieces of a held record are a chain, and no place in it stands twice. Assumes nothing.
use Rattle.std.specs.Prelude.{ℕ, suc, ◌≤◌, ◌≡◌, List, ◌∷◌, ◌++◌, map}
use Rattle.std.proofs.Common.{arith, sym, ap, ◌∙◌, subst, append_assoc}
use Rattle.std.proofs.Math.Option.{some}
use Rattle.octets.specs.ListsLaws.{all_left}
use Rattle.machine.specs.Limits.{most_cells}
use Rattle.machine.specs.Values.{Rec, Store, Key, same_key}
use Rattle.machine.specs.Chains.{first, link}
use Rattle.machine.specs.Counting.{occurs}
use Rattle.machine.specs.Layout.{cell_place, cell_at}
use Rattle.machine.specs.Sound.{piece_places}
use Rattle.machine.specs.Valid.{Valid}
use Rattle.machine.specs.Receive.{rec_key, found}
use Rattle.machine_laws.specs.Counting.{Few}
use Rattle.machine_laws.specs.Chains.{Linked, walk-chain}
use Rattle.machine_laws.specs.Rep.{Rep}
use Rattle.machine_laws.specs.Walks.{Walks, cells-once, pieces-walk}
use Rattle.machine_writes.specs.Split.{Split, found-split}
use Rattle.machine_writes.specs.Release.{pieces-around}
use Rattle.machine_steps.proofs.Find.{all_found}

-- the pieces of a record are linked
pub pieces-linked : (b : List ℕ) (C : ℕ) (r : Rec) → C ≤ most_cells → Walks b r
    → Few C (map cell_place r.cells) → Linked (link (cell_at b)) (map cell_place r.cells)
pieces-linked b C r m e u =
    subst (Linked (link (cell_at b))) e
    (walk-chain (link (cell_at b)) C (suc most_cells) (first (map cell_place r.cells)) (omega arith) (subst (Few C) (sym e) u)).links

module _ (role : ℕ) (s : Store) (v : Valid role s) (k : Key) (r : Rec) (e : found k s.held ≡ some r) where
  pub pieces-once : Few s.setup.cells (map cell_place r.cells)
  pieces-once n =
      let q : Split same_key rec_key k r s.held = found-split same_key rec_key k r s.held e in
      omega (
        arith,
        cells-once role s v n,
        ap (λ (x : List Rec). occurs n (piece_places (x ++ s.whole))) q.is
            ∙ ap (λ (x : List Rec). occurs n (piece_places x)) (append_assoc q.before (r ∷ q.behind) s.whole)
            ∙ pieces-around q.before r (q.behind ++ s.whole) n,
      )

  pub pieces-chain : (b : List ℕ) → Rep s b → Linked (link (cell_at b)) (map cell_place r.cells)
  pieces-chain b rep =
      pieces-linked b s.setup.cells r v.most
      (all_found same_key rec_key (Walks b) k r s.held e (all_left (Walks b) s.held s.whole (pieces-walk role s v b rep))) pieces-once
