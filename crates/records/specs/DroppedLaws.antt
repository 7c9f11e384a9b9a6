-- Dropping a held record and taking the oldest whole one, from bytes to stores. Assumes nothing.
use Rattle.std.specs.Prelude.{ℕ, ◌+◌, ◌≤◌, ◌<◌, ◌≡◌, refl, length, get_or}
use Rattle.std.proofs.Common.{arith, zero-add, ap, ◌∙◌, subst}
use Rattle.std.proofs.Math.Path.{sym}
use mathlib.Core.List.{List, [], ◌∷◌, ◌++◌, map}
use Rattle.std.proofs.Math.Option.{Option, some}
use Rattle.octets.specs.Octets.{put, Bytes}
use Rattle.octets.specs.Lists.{All}
use Rattle.octets.specs.ListsLaws.{all_left, all_right}
use Rattle.octets.specs.PartsLaws.{get_or-part, get_or-put-before, get_or-put-after, length-put}
use Rattle.machine.specs.Limits.{head_bytes, rec_count, rec_bytes, most_cells, store_bytes}
use Rattle.machine.specs.Codes.{role_receive, held_kind, kind_whole}
use Rattle.machine.specs.Values.{Rec, Store, Key, same_key}
use Rattle.machine.specs.Chains.{first, link, chain_rows}
use Rattle.machine.specs.Counting.{occurs}
use Rattle.machine.specs.Layout.{free_at, held_at, whole_at, free_cells_at, first_cell_at, rec_off, rec_place, cell_place}
use Rattle.machine.specs.Layout.{free_row, rec_row, head_row, rec_at, cell_at, encode, decode}
use Rattle.machine.specs.Sound.{piece_places}
use Rattle.machine.specs.Valid.{RecSized, Valid}
use Rattle.machine.specs.Receive.{rec_key, found, dropped, drop_at, drop_step, take_from, take_step}
use Rattle.machine_laws.specs.Counting.{Few, self, one_inside}
use Rattle.machine_laws.specs.Rows.{Held, held-right}
use Rattle.machine_laws.specs.Chains.{Linked, rows_to, chain-append}
use Rattle.machine_laws.specs.FreeRow.{free-length}
use Rattle.machine_laws.specs.Keys.{key-eq, key-refl}
use Rattle.machine_laws.specs.StoreRows.{held-held, held_whole}
use Rattle.machine_laws.specs.Write.{write-row, rec-leaves-cells, head-leaves-cells}
use Rattle.machine_laws.specs.Rep.{Rep, rep-encode}
use Rattle.machine_laws.specs.Walks.{Walks, recs-once, cells-once, head_byte, pieces-walk}
use Rattle.machine_writes.specs.Split.{Split, found-split}
use Rattle.machine_writes.specs.Unheld
use Rattle.machine_writes.specs.Unheld.{led_to, link_behind}
use Rattle.machine_writes.specs.FreeRecord.{rec_freed}
use Rattle.machine_writes.specs.Release.{pieces-around, release_bytes, release_store}
use Rattle.machine_writes.specs.Drop.{drop_rep}
use Rattle.machine_writes.specs.Take.{take_rep}
use Rattle.machine_steps.proofs.Find.{find-key, all_found}
use Rattle.machine_steps.proofs.Drop.{drop-valid}
use Rattle.machine_steps.proofs.Take.{take-valid}
use Rattle.records.specs.Seek.{seek}
use Rattle.records.specs.InChainsLaws.{held_found}
use Rattle.records.specs.HeldAt.{rec_in, key_in, HeldAt}
use Rattle.records.specs.MetLaws.{valid, rep, held-here, here-links, here-link}
use Rattle.records.specs.AroundLaws.{next-is, first-is}
use Rattle.records.specs.HeldPiecesLaws.{pieces-linked, pieces-once, pieces-chain}
use Rattle.records.specs.Clearing.{clear_from}
use Rattle.records.specs.ClearedLaws.{linked-same, clear-freed}
use Rattle.records.specs.Releasing.{rec_free, released, unlinked, Droppable}
use Rattle.records.specs.ReleasedLaws.{free-kept}
use Rattle.records.specs.Dropping.{Takable}

-- ---- release

-- the bytes u, in which r is in no chain any more, have the cells of b; r's pieces are a chain there
record Out (s : Store) (b u : List ℕ) (r : Rec) : Type 0 where
  most : s.setup.cells ≤ most_cells
  size : length u ≡ store_bytes s.setup.cells
  cells : (k : ℕ) → cell_at u k ≡ cell_at b k
  free : get_or u free_at 0 ≡ first s.free
  free_cells : get_or u free_cells_at 0 ≡ first s.free_cells
  place : (0 < r.place) × (r.place ≤ rec_count)
  once : Few s.setup.cells (map cell_place r.cells)
  linked : Linked (link (cell_at b)) (map cell_place r.cells)

release-is : (s : Store) (b u : List ℕ) (r : Rec) → Out s b u r → released r.place (first (map cell_place r.cells)) u ≡ release_bytes s u r
release-is s b u r h =
    let p = r.place in
    let C = s.setup.cells in
    let row : List ℕ = free_row rec_bytes (first s.free) p in
    let w = write-row head_bytes rec_bytes p row u h.place.0 (omega (arith, h.place.0, h.place.1, h.size))
    (free-length rec_bytes (first s.free) p (omega arith)) in
    let room : head_bytes ≤ length (put u (rec_off p) row) = omega (arith, w.long, h.size) in
    let e : rec_free p u ≡ rec_freed u s.free p = λ i. put (put u (rec_off p) (free_row rec_bytes (h.free i) p)) free_at (p ∷ []) in
    let same : (k : ℕ) → cell_at (rec_freed u s.free p) k ≡ cell_at b k =
    λ k. head-leaves-cells free_at (p ∷ []) (put u (rec_off p) row) (omega arith) room k
    ∙ rec-leaves-cells p row u (put u (rec_off p) row) w h.place.1 k ∙ h.cells k in
    ap (clear_from (first (map cell_place r.cells))) e
    ∙ clear-freed (first s.free_cells) C (map cell_place r.cells) s.free_cells (rec_freed u s.free p) h.most
    (length-put (put u (rec_off p) row) free_at (p ∷ []) (omega (arith, room)) ∙ w.long ∙ h.size) h.once
    (linked-same (link (cell_at b)) (link (cell_at (rec_freed u s.free p))) (map cell_place r.cells)
    (λ k q. ap (λ (l : List ℕ). get_or l 0 0) (same k)) h.linked)
    refl
    (ap (λ (l : List ℕ). get_or l free_cells_at 0) (sym e) ∙ free-kept p u h.place.0 h.place.1 (omega (arith, h.size)) ∙ h.free_cells)

-- the row of the record is in the bytes
module _ (b : List ℕ) (kind next : ℕ) (r : Rec) (z : RecSized r) (e : rec_at b r.place ≡ rec_row kind next r) where
  -- unlinking is a release, once the link to the record leads to the next
  unlink-is : (s : Store) (at o : ℕ) → at ≡ o → get_or b at 0 ≡ r.place → Out s b (put b o (next ∷ [])) r
      → unlinked at b ≡ release_bytes s (put b o (next ∷ [])) r
  unlink-is s at o f g out =
      (λ i. released (g i) (get_or b (rec_off (g i) + first_cell_at) 0) (put b (f i) (get_or b (rec_off (g i)) 0 ∷ [])))
      ∙ (λ i. released r.place (first-is b kind next r z e i) (put b o (next-is b kind next r z e i ∷ [])))
      ∙ release-is s b (put b o (next ∷ [])) r out

-- ---- drop

module _ (role : ℕ) (s : Store) (v : Valid role s) (b : List ℕ) (rep : Rep s b) (k : Key) (r : Rec) (e : found k s.held ≡ some r) where
  abbrev kind : ℕ
  kind = held_kind s.setup.role

  q : Split same_key rec_key k r s.held
  q = found-split same_key rec_key k r s.held e

  abbrev l : List Rec
  l = q.before

  abbrev m : List Rec
  m = q.behind

  abbrev u : List ℕ
  u = led_to kind b l m

  row-held : rec_at b r.place ≡ rec_row kind (first (map rec_place m)) r
  row-held =
      (held-right (rec_at b) (rows_to rec_place (rec_row kind) r.place l) (chain_rows rec_place (rec_row kind) (r ∷ m))
      (subst (Held (rec_at b)) (ap (chain_rows rec_place (rec_row kind)) q.is ∙ chain-append rec_place (rec_row kind) l (r ∷ m))
      (held-held s (rec_at b) rep.recs))).0

  head-kept : (j : ℕ) → j < head_bytes → get_or u j 0 ≡ get_or (put (head_row s) held_at (first (map rec_place (l ++ m)) ∷ [])) j 0
  head-kept j h =
      ap (λ (x : ℕ). get_or u x 0) (sym (zero-add j)) ∙ sym (get_or-part u 0 head_bytes j h)
      ∙ ap (λ (x : List ℕ). get_or x j 0) (Unheld.unheld-head role s v b rep l r m q.is)

  out-held : Out s b u r
  unfolding put
  out-held = record {
    most = v.most;
    size = Unheld.unheld-long role s v b rep l r m q.is ∙ rep.size;
    cells = Unheld.unheld-cells role s v b rep l r m q.is;
    free = head-kept free_at (omega arith);
    free_cells = head-kept free_cells_at (omega arith);
    place = Unheld.within role s v b rep l r m q.is;
    once = pieces-once role s v k r e;
    linked = pieces-chain role s v k r e b rep;
  }

  store-dropped : release_store s r (l ++ m) s.whole ≡ drop_step k s
  unfolding drop_at
  store-dropped =
      (λ i. release_store s r (sym q.removed i) s.whole)
      ∙ (λ i. release_store s r (dropped (find-key same_key rec_key key-eq key-refl k r s.held e i) s.held) s.whole)
      ∙ sym (ap (λ (o : Option Rec). drop_at o s) e)

  dropped-encode : unlinked (seek k b held_at) b ≡ encode (drop_step k s)
  dropped-encode =
      let z = held_found role s v b rep k r e q in
      unlink-is b kind (first (map rec_place m)) r
      (all_found same_key rec_key RecSized k r s.held e (all_left RecSized s.held s.whole v.sized)) row-held
      s (seek k b held_at) (link_behind kind l) z.is z.leads out-held
      ∙ rep-encode role (drop_step k s) (drop-valid role k s v) (release_bytes s u r)
      (subst (λ (x : Store). Rep x (release_bytes s u r)) store-dropped (drop_rep role s v b rep l r m q.is))

-- ---- take

module _ (s : Store) (v : Valid role_receive s) (b : List ℕ) (rep : Rep s b) (r : Rec) (l : List Rec) (is : s.whole ≡ r ∷ l) where
  abbrev taken : List ℕ
  taken = put b whole_at (first (map rec_place l) ∷ [])

  room : head_bytes ≤ length b
  room = omega (arith, rep.size)

  row-whole : rec_at b r.place ≡ rec_row kind_whole (first (map rec_place l)) r
  row-whole = (subst (λ (x : List Rec). Held (rec_at b) (chain_rows rec_place (rec_row kind_whole) x)) is (held_whole s (rec_at b) rep.recs)).0

  once-whole : Few s.setup.cells (map cell_place r.cells)
  once-whole n = omega (arith, cells-once role_receive s v n, ap (λ (x : List Rec). occurs n (piece_places (s.held ++ x))) is ∙ pieces-around s.held r l n)

  whole_of : (P : Rec → Type 0) → All P (s.held ++ s.whole) → P r
  whole_of P h = (subst (All P) is (all_right P s.held s.whole h)).0

  out-whole : Out s b taken r
  out-whole = record {
    most = v.most;
    size = length-put b whole_at (first (map rec_place l) ∷ []) (omega (arith, room)) ∙ rep.size;
    cells = λ k. head-leaves-cells whole_at (first (map rec_place l) ∷ []) b (omega arith) room k;
    free = get_or-put-before b whole_at (first (map rec_place l) ∷ []) (omega (arith, room)) free_at (omega arith)
        ∙ head_byte role_receive s v b rep free_at (omega arith);
    free_cells = get_or-put-after b whole_at (first (map rec_place l) ∷ []) (omega (arith, room)) free_cells_at (omega arith)
        ∙ head_byte role_receive s v b rep free_cells_at (omega arith);
    place = one_inside rec_count r.place
        (omega (arith, recs-once role_receive s v r.place, ap (λ (x : List Rec). occurs r.place (map rec_place x)) is, self r.place));
    once = once-whole;
    linked = pieces-linked b s.setup.cells r v.most (whole_of (Walks b) (pieces-walk role_receive s v b rep)) once-whole;
  }

  store-taken : release_store s r s.held l ≡ take_step s
  unfolding take_from
  store-taken = sym (ap (λ (x : List Rec). take_from x s) is)

  taken-encode : unlinked whole_at b ≡ encode (take_step s)
  taken-encode =
      unlink-is b kind_whole (first (map rec_place l)) r (whole_of RecSized v.sized) row-whole
      s whole_at whole_at refl (head_byte role_receive s v b rep whole_at (omega arith) ∙ ap (λ (x : List Rec). first (map rec_place x)) is) out-whole
      ∙ rep-encode role_receive (take_step s) (take-valid s v) (release_bytes s taken r)
      (subst (λ (x : Store). Rep x (release_bytes s taken r)) store-taken (take_rep role_receive s v b rep r l is))

-- ---- sound bytes

-- a held record can be dropped
module _ (role : ℕ) (b : List ℕ) (y : Bytes b) (at : ℕ) (h : HeldAt role b at) where
  pub here-droppable : Droppable at b
  here-droppable = record { links = here-links role b y at h; led = here-link role b y at h; some = h.some }

  pub unlinked-drops : unlinked at b ≡ encode (drop_step (key_in b at) (decode b))
  unlinked-drops =
      ap (λ (o : ℕ). unlinked o b) h.is
      ∙ dropped-encode role (decode b) (valid role b y h.sound) b (rep role b y h.sound) (key_in b at) (rec_in b at) (held-here role b y at h)

pub unlinked-takes : (b : List ℕ) → Bytes b → Takable b → unlinked whole_at b ≡ encode (take_step (decode b))
unlinked-takes b y h = go (decode b).whole refl
  where
    v : Valid role_receive (decode b)
    v = valid role_receive b y h.sound

    w : Rep (decode b) b
    w = rep role_receive b y h.sound

    go : (l : List Rec) → (decode b).whole ≡ l → unlinked whole_at b ≡ encode (take_step (decode b))
    go [] e =
        absurd (omega (arith, h.linked.some, head_byte role_receive (decode b) v b w whole_at (omega arith), ap (λ (x : List Rec). first (map rec_place x)) e))
    go (r ∷ l) e = taken-encode (decode b) v b w r l e

pub ruleset drops = (here-droppable, unlinked-drops, unlinked-takes)
