-- The oldest whole record is taken out and released. Assumes nothing.
use Rattle.std.specs.Prelude.{ℕ, ◌≤◌, ◌≡◌, List, [], ◌∷◌, ◌++◌, map, length}
use Rattle.std.proofs.Common.{arith, ap, ◌∙◌, subst}
use Rattle.std.proofs.Math.Path.{refl}
use Rattle.octets.specs.Octets.{put}
use Rattle.machine.specs.Limits.{head_bytes, rec_bytes}
use Rattle.machine.specs.Codes.{held_kind, kind_whole}
use Rattle.machine.specs.Values.{Rec, Store}
use Rattle.machine.specs.Rows.{Row}
use Rattle.machine.specs.Chains.{first, chain_rows}
use Rattle.machine.specs.Counting.{occurs}
use Rattle.machine.specs.Layout.{whole_at, rec_place, free_place, free_row, rec_row, pieces_rows, head_row, rec_at, cell_at}
use Rattle.machine.specs.Sound.{piece_places}
use Rattle.machine.specs.Valid.{Valid}
use Rattle.machine_laws.specs.Rows.{Held, held-join, held_same}
use Rattle.machine_laws.specs.StoreRows.{held-free, held-held, held_whole, held-pieces}
use Rattle.machine_laws.specs.Rep.{Rep}
use Rattle.machine_laws.specs.Walks.{recs-once, cells-once}
use Rattle.octets.specs.PartsLaws.{length-put}
use Rattle.machine_laws.specs.Write.{head-write, head-leaves-recs, head-leaves-cells}
use Rattle.machine_writes.specs.Release.{pieces-around, held-around, release_bytes, release_store, Loose, release-rep}

module _ (role : ℕ) (s : Store) (v : Valid role s) (b : List ℕ) (rep : Rep s b) (r : Rec) (l : List Rec) (is : s.whole ≡ r ∷ l) where
  abbrev kind : ℕ
  kind = held_kind s.setup.role

  -- the head's link to the first whole record leads to the next
  abbrev u : List ℕ
  u = put b whole_at (first (map rec_place l) ∷ [])

  room : head_bytes ≤ length b
  room = omega (arith, rep.size)

  heads : put (head_row s) whole_at (first (map rec_place l) ∷ []) ≡ head_row (record { setup = s.setup; free = s.free; held = s.held; whole = l; free_cells = s.free_cells })
  unfolding put
  heads = refl

  same : (n : List Row) → Held (rec_at b) n → Held (rec_at u) n
  same n h = held_same (rec_at b) (rec_at u) n (λ k q. head-leaves-recs whole_at (first (map rec_place l) ∷ []) b (omega arith) room k) h

  loose : Loose s b u r s.held l
  loose = record {
    size = length-put b whole_at (first (map rec_place l) ∷ []) (omega (arith, room)) ∙ rep.size;
    cells = λ k. head-leaves-cells whole_at (first (map rec_place l) ∷ []) b (omega arith) room k;
    free = same (chain_rows free_place (free_row rec_bytes) s.free) (held-free s (rec_at b) rep.recs);
    lines = held-join (rec_at u) (chain_rows rec_place (rec_row kind) s.held) (chain_rows rec_place (rec_row kind_whole) l)
        (same (chain_rows rec_place (rec_row kind) s.held) (held-held s (rec_at b) rep.recs))
        (same (chain_rows rec_place (rec_row kind_whole) l) (subst (λ (x : List Rec). Held (rec_at b) (chain_rows rec_place (rec_row kind_whole) x)) is (held_whole s (rec_at b) rep.recs)).1);
    recs = λ k. omega (arith, recs-once role s v k, ap (λ (x : List Rec). occurs k (map rec_place x)) is);
    head = head-write whole_at (first (map rec_place l) ∷ []) b (omega arith) room ∙ ap (λ (x : List ℕ). put x whole_at (first (map rec_place l) ∷ [])) rep.head ∙ heads;
    counted = λ k. omega (arith, cells-once role s v k, ap (λ (x : List Rec). occurs k (piece_places (s.held ++ x))) is ∙ pieces-around s.held r l k);
    rest = held-around (cell_at b) s.held r l (subst (λ (x : List Rec). Held (cell_at b) (pieces_rows (s.held ++ x))) is (held-pieces s (cell_at b) rep.cells));
  }

  pub take_rep : Rep (release_store s r s.held l) (release_bytes s u r)
  take_rep = release-rep s b u r s.held l rep loose
