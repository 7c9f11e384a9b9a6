-- A held record becomes whole: it leaves the held chain, its link and kind are written, and the whole chain leads to it. Assumes nothing.
use Rattle.std.specs.Prelude.{ℕ, suc, ◌+◌, ◌*◌, ◌-◌, ◌≤◌, ◌<◌, ◌≡◌, length, eqb}
use Rattle.std.proofs.Common.{zero-add, add-zero, arith, ◌∙◌, subst}
use Rattle.std.proofs.Math.Path.{refl, sym, ap}
use mathlib.Core.List.{List, [], ◌∷◌, ◌++◌, map, append_assoc}
use Rattle.std.proofs.Math.ListN.{get_or}
use Rattle.octets.specs.Octets.{part, put}
use Rattle.octets.specs.Bools.{one}
use Rattle.octets.specs.BoolsLaws.{one-le}
use Rattle.octets.specs.Lists.{All}
use Rattle.octets.specs.PartsLaws.{get_or-part}
use Rattle.machine.specs.Limits.{head_bytes, rec_count, rec_bytes, cell_bytes, store_bytes}
use Rattle.machine.specs.Codes.{held_kind, kind_whole}
use Rattle.machine.specs.Values.{Rec, Store}
use Rattle.machine.specs.Rows.{Row, pad}
use Rattle.machine_laws.specs.Rows.{places, Held, held-left, held-right, held-join, held_same}
use Rattle.machine.specs.Chains.{first, chain_rows}
use Rattle.machine.specs.Counting.{occurs, inside}
use Rattle.machine.specs.Layout.{form, held_at, whole_at, rec_place, cell_place, free_place, free_row, rec_row, cell_row, pieces_rows, head_row, rec_at, cell_at}
use Rattle.machine.specs.Layout.{rec_off, cell_off}
use Rattle.machine.specs.Valid.{Valid}
use Rattle.machine_laws.specs.Counting.{self, occurs-append, few-inside, one_inside}
use Rattle.machine_laws.specs.Chains.{lead, rows_to, chain-places}
use Rattle.machine_laws.specs.FreeRow.{free-map}
use Rattle.machine_laws.specs.StoreRows.{rows_append, held-recs, held-cells, held-free_cells, held-pieces}
use Rattle.machine_laws.specs.Rep.{Rep}
use Rattle.machine_laws.specs.Write.{Wrote, write-field, held-stay, rec-leaves-head, rec-leaves-cells}
use Rattle.machine_writes.specs.Link
use Rattle.machine_writes.specs.Link.{link_at, chain-rows}
use Rattle.machine_writes.specs.HeadLink.{Led, lead-on}
use Rattle.machine_writes.specs.Unheld
use Rattle.machine_writes.specs.Unheld.{led_to, rec_tail, rec-parts}
use Rattle.machine_writes.specs.Release.{held-around}

-- where the link behind the whole chain stands
abbrev pub link_last : List Rec → ℕ
link_last whole = link_at rec_place (rec_row kind_whole) head_bytes rec_bytes whole_at whole

-- the bytes b of s with the held record r, which stands between l and m, as the last whole one
abbrev pub done_bytes : Store → List ℕ → List Rec → Rec → List Rec → List ℕ
done_bytes s b l r m = put (put (led_to (held_kind s.setup.role) b l m) (rec_off r.place) (0 ∷ kind_whole ∷ [])) (link_last s.whole) (r.place ∷ [])

abbrev pub done_store : Store → List Rec → Rec → List Rec → Store
done_store s l r m = record { setup = s.setup; free = s.free; held = l ++ m; whole = s.whole ++ (r ∷ []); free_cells = s.free_cells }

-- link and kind are a record's first two bytes
pub rec-kind : (kind next : ℕ) (r : Rec) → put (rec_row kind next r) 0 (0 ∷ kind_whole ∷ []) ≡ rec_row kind_whole 0 r
unfolding put rec_row
rec-kind kind next r = refl

module _ (role : ℕ) (s : Store) (v : Valid role s) (b : List ℕ) (rep : Rep s b) (l : List Rec) (r : Rec) (m : List Rec) (is : s.held ≡ l ++ (r ∷ m)) where
  abbrev kind : ℕ
  kind = held_kind s.setup.role

  abbrev p : ℕ
  p = r.place

  abbrev u : List ℕ
  u = led_to kind b l m

  abbrev x : List ℕ
  x = put u (rec_off p) (0 ∷ kind_whole ∷ [])

  u-size : length u ≡ store_bytes s.setup.cells
  u-size = Unheld.unheld-long role s v b rep l r m is ∙ rep.size

  counted : (k : ℕ) → occurs k s.free + (occurs k (map rec_place l) + (one (eqb k p) + occurs k (map rec_place m)) + occurs k (map rec_place s.whole)) ≡ one (inside rec_count k)
  counted = Unheld.counted role s v b rep l r m is

  within : (0 < p) × (p ≤ rec_count)
  within = Unheld.within role s v b rep l r m is

  wrote : Wrote head_bytes rec_bytes p (put (rec_at u p) 0 (0 ∷ kind_whole ∷ [])) u x
  wrote =
      subst (λ (o : ℕ). Wrote head_bytes rec_bytes p (put (rec_at u p) 0 (0 ∷ kind_whole ∷ [])) u (put u o (0 ∷ kind_whole ∷ []))) (add-zero (rec_off p))
      (write-field head_bytes rec_bytes p 0 (0 ∷ kind_whole ∷ []) u within.0 (omega (arith, within.0, within.1, u-size)) (omega arith))

  own : rec_at x p ≡ rec_row kind_whole 0 r
  own = wrote.here ∙ ap (λ (y : List ℕ). put y 0 (0 ∷ kind_whole ∷ [])) (Unheld.unheld-own role s v b rep l r m is) ∙ rec-kind kind (first (map rec_place m)) r

  -- rows of other records stay
  stay : (n : List Row) → ((k : ℕ) → occurs k (places n) + one (eqb k p) ≤ one (inside rec_count k)) → Held (rec_at u) n → Held (rec_at x) n
  stay n i h = held-stay head_bytes rec_bytes p (put (rec_at u p) 0 (0 ∷ kind_whole ∷ [])) u x wrote n (omega (arith, i 0)) (omega (arith, i p, self p, one-le (inside rec_count p))) h

  whole-places : (k : ℕ) → occurs k (places (chain_rows rec_place (rec_row kind_whole) s.whole)) ≡ occurs k (map rec_place s.whole)
  whole-places k = ap (occurs k) (chain-places rec_place (rec_row kind_whole) s.whole)

  whole-rows : Held (rec_at x) (rows_to rec_place (rec_row kind_whole) 0 s.whole)
  whole-rows =
      subst (Held (rec_at x)) (chain-rows rec_place (rec_row kind_whole) s.whole)
      (stay (chain_rows rec_place (rec_row kind_whole) s.whole) (λ k. omega (arith, counted k, whole-places k)) (Unheld.unheld-whole role s v b rep l r m is))

  x-head : part x 0 head_bytes ≡ put (head_row s) held_at (first (map rec_place (l ++ m)) ∷ [])
  x-head = rec-leaves-head p (put (rec_at u p) 0 (0 ∷ kind_whole ∷ [])) u x wrote ∙ Unheld.unheld-head role s v b rep l r m is

  starts : get_or x whole_at 0 ≡ lead 0 (map rec_place s.whole)
  unfolding put
  starts =
      ap (λ (o : ℕ). get_or x o 0) (sym (zero-add whole_at)) ∙ sym (get_or-part x 0 head_bytes whole_at (omega arith)) ∙ ap (λ (y : List ℕ). get_or y whole_at 0) x-head ∙ firsts s.whole
    where
      firsts : (n : List Rec) → first (map rec_place n) ≡ lead 0 (map rec_place n)
      firsts [] = refl
      firsts (a ∷ n) = refl

  stand : All (λ (a : Rec). (0 < rec_place a) × (head_bytes + rec_bytes * (suc (rec_place a) - 1) ≤ length x)) s.whole
  stand = go s.whole (few-inside rec_count (map rec_place s.whole) (λ k. omega (arith, counted k)))
    where
      go : (n : List Rec) → All (λ q. (0 < q) × (q ≤ rec_count)) (map rec_place n) → All (λ (a : Rec). (0 < rec_place a) × (head_bytes + rec_bytes * (suc (rec_place a) - 1) ≤ length x)) n
      go [] h = tt
      go (a ∷ n) h = ((h.0.0, omega (arith, h.0.1, h.0.0, wrote.long, u-size)), go n h.1)

  led : Led rec_place (rec_row kind_whole) (rec_tail kind_whole) (rec-parts kind_whole) head_bytes rec_bytes (omega arith) (omega arith) whole_at p s.whole x (done_bytes s b l r m)
  led =
      lead-on rec_place (rec_row kind_whole) (rec_tail kind_whole) (rec-parts kind_whole) head_bytes rec_bytes (omega arith) (omega arith) whole_at 0 p s.whole x
      (omega arith) (omega (arith, wrote.long, u-size)) stand (λ k. omega (arith, counted k, one-le (inside rec_count k))) starts whole-rows

  abbrev done : List ℕ
  done = done_bytes s b l r m

  keep : (n : List Row) → ((k : ℕ) → occurs k (places n) + occurs k (map rec_place s.whole) ≤ one (inside rec_count k)) → Held (rec_at x) n → Held (rec_at done) n
  keep n i h = led.rows n (omega (arith, i 0)) (λ k q. omega (arith, i k, one-le (inside rec_count k))) h

  held-places : (k : ℕ) → occurs k (places (chain_rows rec_place (rec_row kind) (l ++ m))) ≡ occurs k (map rec_place l) + occurs k (map rec_place m)
  held-places k =
      ap (occurs k) (chain-places rec_place (rec_row kind) (l ++ m) ∙ Unheld.map-append role s v b rep l r m is l m) ∙ occurs-append k (map rec_place l) (map rec_place m)

  done_held : Held (rec_at done) (chain_rows rec_place (rec_row kind) (l ++ m))
  done_held =
      keep (chain_rows rec_place (rec_row kind) (l ++ m)) (λ k. omega (arith, counted k, held-places k))
      (stay (chain_rows rec_place (rec_row kind) (l ++ m)) (λ k. omega (arith, counted k, held-places k)) (Unheld.unheld-chain role s v b rep l r m is))

  free-places : (k : ℕ) → occurs k (places (chain_rows free_place (free_row rec_bytes) s.free)) ≡ occurs k s.free
  free-places k = ap (occurs k) (chain-places free_place (free_row rec_bytes) s.free ∙ free-map s.free)

  done-free : Held (rec_at done) (chain_rows free_place (free_row rec_bytes) s.free)
  done-free =
      keep (chain_rows free_place (free_row rec_bytes) s.free) (λ k. omega (arith, counted k, free-places k))
      (stay (chain_rows free_place (free_row rec_bytes) s.free) (λ k. omega (arith, counted k, free-places k)) (Unheld.unheld-free role s v b rep l r m is))

  done-whole : Held (rec_at done) (chain_rows rec_place (rec_row kind_whole) (s.whole ++ (r ∷ [])))
  done-whole =
      let last = rows_to rec_place (rec_row kind_whole) 0 (r ∷ []) in
      subst (Held (rec_at done)) (sym (chain-rows rec_place (rec_row kind_whole) (s.whole ++ (r ∷ [])) ∙ Link.rows_append rec_place (rec_row kind_whole) 0 s.whole (r ∷ [])))
      (held-join (rec_at done) (rows_to rec_place (rec_row kind_whole) p s.whole) last led.chain (keep last (λ k. omega (arith, counted k)) (own, tt)))

  done-cells : (k : ℕ) → cell_at done k ≡ cell_at b k
  done-cells k =
      led.beyond (cell_off k) cell_bytes (λ j q. let i = one_inside rec_count j (omega (arith, counted j)) in omega (arith, i.0, i.1)) (omega arith)
      ∙ rec-leaves-cells p (put (rec_at u p) 0 (0 ∷ kind_whole ∷ [])) u x wrote within.1 k
      ∙ Unheld.unheld-cells role s v b rep l r m is k

  -- the pieces of r come last
  done-pieces : Held (cell_at b) (pieces_rows ((l ++ m) ++ (s.whole ++ (r ∷ []))))
  done-pieces =
      let all : Held (cell_at b) (pieces_rows (l ++ (r ∷ (m ++ s.whole)))) =
      subst (λ (y : List Rec). Held (cell_at b) (pieces_rows y)) (ap (λ (y : List Rec). y ++ s.whole) is ∙ append_assoc l (r ∷ m) s.whole) (held-pieces s (cell_at b) rep.cells) in
      let back = held-right (cell_at b) (pieces_rows l) (chain_rows cell_place cell_row r.cells ++ pieces_rows (m ++ s.whole)) (subst (Held (cell_at b)) (rows_append l (r ∷ (m ++ s.whole))) all) in
      let mine = held-left (cell_at b) (chain_rows cell_place cell_row r.cells) (pieces_rows (m ++ s.whole)) back in
      let e : (l ++ m) ++ (s.whole ++ (r ∷ [])) ≡ (l ++ (m ++ s.whole)) ++ (r ∷ []) =
      sym (append_assoc (l ++ m) s.whole (r ∷ [])) ∙ ap (λ (y : List Rec). y ++ (r ∷ [])) (append_assoc l m s.whole) in
      subst (λ (y : List Rec). Held (cell_at b) (pieces_rows y)) (sym e)
      (subst (Held (cell_at b)) (sym (rows_append (l ++ (m ++ s.whole)) (r ∷ [])))
      (held-join (cell_at b) (pieces_rows (l ++ (m ++ s.whole))) (pieces_rows (r ∷ [])) (held-around (cell_at b) l r (m ++ s.whole) all)
      (held-join (cell_at b) (chain_rows cell_place cell_row r.cells) [] mine tt)))

  heads : put (put (head_row s) held_at (first (map rec_place (l ++ m)) ∷ [])) whole_at (lead p (map rec_place s.whole) ∷ []) ≡ head_row (done_store s l r m)
  unfolding put
  heads = ap (λ (y : ℕ). pad head_bytes (first s.free ∷ first (map rec_place (l ++ m)) ∷ y ∷ first s.free_cells ∷ form ∷ s.setup.cells ∷ s.setup.role ∷ [])) (leads s.whole)
    where
      leads : (n : List Rec) → lead p (map rec_place n) ≡ first (map rec_place (n ++ (r ∷ [])))
      leads [] = refl
      leads (a ∷ n) = refl

  pub done-rep : Rep (done_store s l r m) done
  done-rep = record {
    size = led.long ∙ wrote.long ∙ u-size;
    head = led.head ∙ ap (λ (y : List ℕ). put y whole_at (lead p (map rec_place s.whole) ∷ [])) x-head ∙ heads;
    recs = held-recs (done_store s l r m) (rec_at done) done-free done_held done-whole;
    cells = held-cells (done_store s l r m) (cell_at done)
        (held_same (cell_at b) (cell_at done) (chain_rows free_place (free_row cell_bytes) s.free_cells) (λ k q. done-cells k) (held-free_cells s (cell_at b) rep.cells))
        (held_same (cell_at b) (cell_at done) (pieces_rows ((l ++ m) ++ (s.whole ++ (r ∷ [])))) (λ k q. done-cells k) done-pieces);
  }
