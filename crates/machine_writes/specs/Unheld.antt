-- A held record is taken out of the held chain: the link to it leads on to what follows it. Its own row stays as it was. Assumes nothing.
use Rattle.std.specs.Prelude.{ℕ, suc, ◌+◌, ◌*◌, ◌-◌, ◌≤◌, ◌<◌, ◌≡◌, refl, List, [], ◌∷◌, ◌++◌, map, length, get_or, drop, eqb}
use Rattle.std.proofs.Common.{arith, sym, ap, ◌∙◌, subst}
use Rattle.octets.specs.Octets.{part, put}
use Rattle.octets.specs.Bools.{one}
use Rattle.octets.specs.BoolsLaws.{one-le}
use Rattle.octets.specs.Lists.{All}
use Rattle.machine.specs.Limits.{head_bytes, rec_count, rec_bytes, cell_bytes}
use Rattle.machine.specs.Codes.{held_kind, kind_whole}
use Rattle.machine.specs.Values.{Rec, Store}
use Rattle.machine_laws.specs.Rows.{places, Held, held-left, held-right, held-join}
use Rattle.machine.specs.Chains.{first, chain_rows}
use Rattle.machine.specs.Counting.{occurs, inside}
use Rattle.machine.specs.Layout.{held_at, rec_place, free_place, free_row, rec_row, head_row, rec_at, cell_at, cell_off}
use Rattle.machine.specs.Valid.{Valid}
use Rattle.machine_laws.specs.Counting.{self, occurs-append, few-inside, one_inside}
use Rattle.machine_laws.specs.Chains.{lead, rows_to}
use Rattle.machine_laws.specs.FreeRow.{free-map}
use Rattle.machine_laws.specs.StoreRows.{held-free, held-held, held_whole}
use Rattle.machine_laws.specs.Rep.{Rep}
use Rattle.machine_laws.specs.Walks.{recs-once, head_byte}
use Rattle.machine_writes.specs.Link.{link_at, rows_append, chain-rows, rows-places}
use Rattle.machine_writes.specs.HeadLink.{Led, lead-on}

-- a record's row without its link
abbrev pub rec_tail : ℕ → Rec → List ℕ
rec_tail kind r = drop 1 (rec_row kind 0 r)

pub rec-parts : (kind n : ℕ) (r : Rec) → rec_row kind n r ≡ n ∷ rec_tail kind r
unfolding rec_row
rec-parts kind n r = refl

-- where the link to what follows the records l of the held chain stands
abbrev pub link_behind : ℕ → List Rec → ℕ
link_behind kind l = link_at rec_place (rec_row kind) head_bytes rec_bytes held_at l

-- the bytes b where the records l of the held chain lead to the records m
abbrev pub led_to : ℕ → List ℕ → List Rec → List Rec → List ℕ
led_to kind b l m = put b (link_behind kind l) (first (map rec_place m) ∷ [])

module _ (role : ℕ) (s : Store) (v : Valid role s) (b : List ℕ) (rep : Rep s b) (l : List Rec) (r : Rec) (m : List Rec) (is : s.held ≡ l ++ (r ∷ m)) where
  abbrev kind : ℕ
  kind = held_kind s.setup.role

  abbrev next : ℕ
  next = first (map rec_place m)

  -- the bytes without r in the chain
  abbrev unheld : List ℕ
  unheld = led_to kind b l m

  -- ---- places

  pub map-append : (l m : List Rec) → map rec_place (l ++ m) ≡ map rec_place l ++ map rec_place m
  map-append [] m = refl
  map-append (a ∷ l) m = ap (λ (x : List ℕ). rec_place a ∷ x) (map-append l m)

  pub counted : (k : ℕ) → occurs k s.free + (occurs k (map rec_place l) + (one (eqb k r.place) + occurs k (map rec_place m)) + occurs k (map rec_place s.whole)) ≡ one (inside rec_count k)
  counted k =
      let e : occurs k (map rec_place s.held) ≡ occurs k (map rec_place l) + (one (eqb k r.place) + occurs k (map rec_place m)) =
      ap (λ (x : List Rec). occurs k (map rec_place x)) is ∙ ap (occurs k) (map-append l (r ∷ m)) ∙ occurs-append k (map rec_place l) (r.place ∷ map rec_place m) in
      omega (arith, recs-once role s v k)

  pub within : (0 < r.place) × (r.place ≤ rec_count)
  within = one_inside rec_count r.place (omega (arith, counted r.place, self r.place))

  stand : All (λ (a : Rec). (0 < rec_place a) × (head_bytes + rec_bytes * (suc (rec_place a) - 1) ≤ length b)) l
  stand = go l (few-inside rec_count (map rec_place l) (λ k. omega (arith, counted k)))
    where
      go : (l : List Rec) → All (λ p. (0 < p) × (p ≤ rec_count)) (map rec_place l) → All (λ (a : Rec). (0 < rec_place a) × (head_bytes + rec_bytes * (suc (rec_place a) - 1) ≤ length b)) l
      go [] h = tt
      go (a ∷ l) h = ((h.0.0, omega (arith, h.0.1, h.0.0, rep.size)), go l h.1)

  -- ---- the chain as it was

  rows : Held (rec_at b) (rows_to rec_place (rec_row kind) 0 (l ++ (r ∷ m)))
  rows = subst (Held (rec_at b)) (chain-rows rec_place (rec_row kind) s.held ∙ ap (rows_to rec_place (rec_row kind) 0) is) (held-held s (rec_at b) rep.recs)

  split : Held (rec_at b) (rows_to rec_place (rec_row kind) r.place l ++ rows_to rec_place (rec_row kind) 0 (r ∷ m))
  split = subst (Held (rec_at b)) (rows_append rec_place (rec_row kind) 0 l (r ∷ m)) rows

  front : Held (rec_at b) (rows_to rec_place (rec_row kind) r.place l)
  front = held-left (rec_at b) (rows_to rec_place (rec_row kind) r.place l) (rows_to rec_place (rec_row kind) 0 (r ∷ m)) split

  back : Held (rec_at b) (rows_to rec_place (rec_row kind) 0 (r ∷ m))
  back = held-right (rec_at b) (rows_to rec_place (rec_row kind) r.place l) (rows_to rec_place (rec_row kind) 0 (r ∷ m)) split

  starts : get_or b held_at 0 ≡ lead r.place (map rec_place l)
  starts = head_byte role s v b rep held_at (omega arith) ∙ ap (λ (x : List Rec). first (map rec_place x)) is ∙ go l
    where
      go : (l : List Rec) → first (map rec_place (l ++ (r ∷ m))) ≡ lead r.place (map rec_place l)
      go [] = refl
      go (a ∷ l) = refl

  -- ---- the write

  pub led : Led rec_place (rec_row kind) (rec_tail kind) (rec-parts kind) head_bytes rec_bytes (omega arith) (omega arith) held_at next l b unheld
  led =
      lead-on rec_place (rec_row kind) (rec_tail kind) (rec-parts kind) head_bytes rec_bytes (omega arith) (omega arith) held_at r.place next l b
      (omega arith) (omega (arith, rep.size)) stand (λ k. omega (arith, counted k, one-le (inside rec_count k))) starts front

  -- ---- what it leaves

  firsts : (l : List Rec) → lead 0 (map rec_place l) ≡ first (map rec_place l)
  firsts [] = refl
  firsts (a ∷ l) = refl

  joins : (l : List Rec) → lead next (map rec_place l) ≡ first (map rec_place (l ++ m))
  joins [] = refl
  joins (a ∷ l) = refl

  -- rows of a chain of other records stay
  pub stays : {A : Type 0} (place : A → ℕ) (line : ℕ → A → List ℕ) (z : ℕ) (n : List A) → ((k : ℕ) → occurs k (map place n) + occurs k (map rec_place l) ≤ one (inside rec_count k))
      → Held (rec_at b) (rows_to place line z n) → Held (rec_at unheld) (rows_to place line z n)
  stays place line z n u h =
      let e : (k : ℕ) → occurs k (places (rows_to place line z n)) ≡ occurs k (map place n) = λ k. ap (occurs k) (rows-places place line z n) in
      led.rows (rows_to place line z n) (e 0 ∙ (omega (arith, u 0))) (λ k q. e k ∙ (omega (arith, u k, one-le (inside rec_count k)))) h

  pub unheld-chain : Held (rec_at unheld) (chain_rows rec_place (rec_row kind) (l ++ m))
  unheld-chain =
      let e = chain-rows rec_place (rec_row kind) (l ++ m) ∙ rows_append rec_place (rec_row kind) 0 l m
      ∙ ap (λ (x : ℕ). rows_to rec_place (rec_row kind) x l ++ rows_to rec_place (rec_row kind) 0 m) (firsts m) in
      subst (Held (rec_at unheld)) (sym e)
      (held-join (rec_at unheld) (rows_to rec_place (rec_row kind) next l) (rows_to rec_place (rec_row kind) 0 m) led.chain
      (stays rec_place (rec_row kind) 0 m (λ k. omega (arith, counted k)) back.1))

  -- the record's own row
  pub unheld-own : rec_at unheld r.place ≡ rec_row kind next r
  unheld-own =
      (stays rec_place (rec_row kind) next (r ∷ []) (λ k. omega (arith, counted k)) (back.0 ∙ ap (λ (x : ℕ). rec_row kind x r) (firsts m), tt)).0

  pub unheld-free : Held (rec_at unheld) (chain_rows free_place (free_row rec_bytes) s.free)
  unheld-free =
      subst (Held (rec_at unheld)) (sym (chain-rows free_place (free_row rec_bytes) s.free))
      (stays free_place (free_row rec_bytes) 0 s.free (λ k. omega (arith, counted k, ap (occurs k) (free-map s.free)))
      (subst (Held (rec_at b)) (chain-rows free_place (free_row rec_bytes) s.free) (held-free s (rec_at b) rep.recs)))

  pub unheld-whole : Held (rec_at unheld) (chain_rows rec_place (rec_row kind_whole) s.whole)
  unheld-whole =
      subst (Held (rec_at unheld)) (sym (chain-rows rec_place (rec_row kind_whole) s.whole))
      (stays rec_place (rec_row kind_whole) 0 s.whole (λ k. omega (arith, counted k))
      (subst (Held (rec_at b)) (chain-rows rec_place (rec_row kind_whole) s.whole) (held_whole s (rec_at b) rep.recs)))

  pub unheld-cells : (k : ℕ) → cell_at unheld k ≡ cell_at b k
  unheld-cells k =
      led.beyond (cell_off k) cell_bytes
      (λ j q. let i = one_inside rec_count j (omega (arith, counted j)) in omega (arith, i.0, i.1))
      (omega arith)

  pub unheld-head : part unheld 0 head_bytes ≡ put (head_row s) held_at (first (map rec_place (l ++ m)) ∷ [])
  unheld-head = led.head ∙ (λ i. put (rep.head i) held_at (joins l i ∷ []))

  pub unheld-long : length unheld ≡ length b
  unheld-long = led.long
