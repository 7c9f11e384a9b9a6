-- A held record is dropped: it leaves the held chain and is released. Assumes nothing.
use Rattle.std.specs.Prelude.{ℕ, ◌≡◌, List, [], ◌∷◌, ◌++◌, map}
use Rattle.std.proofs.Common.{arith, sym, ap, ◌∙◌, subst, append_assoc}
use Rattle.std.proofs.Math.Path.{refl}
use Rattle.octets.specs.Octets.{put}
use Rattle.machine.specs.Codes.{held_kind, kind_whole}
use Rattle.machine.specs.Values.{Rec, Store}
use Rattle.machine.specs.Chains.{first, chain_rows}
use Rattle.machine.specs.Counting.{occurs}
use Rattle.machine.specs.Layout.{held_at, rec_place, rec_row, pieces_rows, head_row, rec_at, cell_at}
use Rattle.machine.specs.Sound.{piece_places}
use Rattle.machine.specs.Valid.{Valid}
use Rattle.machine_laws.specs.Counting.{occurs-append}
use Rattle.machine_laws.specs.Rows.{Held, held-join}
use Rattle.machine_laws.specs.StoreRows.{held-pieces}
use Rattle.machine_laws.specs.Rep.{Rep}
use Rattle.machine_laws.specs.Walks.{cells-once}
use Rattle.machine_writes.specs.Unheld
use Rattle.machine_writes.specs.Unheld.{led_to}
use Rattle.machine_writes.specs.Release.{pieces-around, held-around, release_bytes, release_store, Loose, release-rep}

module _ (role : ℕ) (s : Store) (v : Valid role s) (b : List ℕ) (rep : Rep s b) (l : List Rec) (r : Rec) (m : List Rec) (is : s.held ≡ l ++ (r ∷ m)) where
  abbrev kind : ℕ
  kind = held_kind s.setup.role

  abbrev u : List ℕ
  u = led_to kind b l m

  all-pieces : s.held ++ s.whole ≡ l ++ (r ∷ (m ++ s.whole))
  all-pieces = ap (λ (x : List Rec). x ++ s.whole) is ∙ append_assoc l (r ∷ m) s.whole

  heads : put (head_row s) held_at (first (map rec_place (l ++ m)) ∷ []) ≡ head_row (record { setup = s.setup; free = s.free; held = l ++ m; whole = s.whole; free_cells = s.free_cells })
  unfolding put
  heads = refl

  loose : Loose s b u r (l ++ m) s.whole
  loose = record {
    size = Unheld.unheld-long role s v b rep l r m is ∙ rep.size;
    cells = Unheld.unheld-cells role s v b rep l r m is;
    free = Unheld.unheld-free role s v b rep l r m is;
    lines = held-join (rec_at u) (chain_rows rec_place (rec_row kind) (l ++ m)) (chain_rows rec_place (rec_row kind_whole) s.whole)
        (Unheld.unheld-chain role s v b rep l r m is) (Unheld.unheld-whole role s v b rep l r m is);
    recs = λ k. omega (arith, Unheld.counted role s v b rep l r m is k, ap (occurs k) (Unheld.map-append role s v b rep l r m is l m) ∙ occurs-append k (map rec_place l) (map rec_place m));
    head = Unheld.unheld-head role s v b rep l r m is ∙ heads;
    counted = λ k. omega (
      arith,
      cells-once role s v k,
      ap (λ (x : List Rec). occurs k (piece_places x)) all-pieces ∙ pieces-around l r (m ++ s.whole) k,
      ap (λ (x : List Rec). occurs k (piece_places x)) (append_assoc l m s.whole),
    );
    rest = subst (λ (x : List Rec). Held (cell_at b) (pieces_rows x)) (sym (append_assoc l m s.whole))
        (held-around (cell_at b) l r (m ++ s.whole) (subst (λ (x : List Rec). Held (cell_at b) (pieces_rows x)) all-pieces (held-pieces s (cell_at b) rep.cells)));
  }

  pub drop_rep : Rep (release_store s r (l ++ m) s.whole) (release_bytes s u r)
  drop_rep = release-rep s b u r (l ++ m) s.whole rep loose
