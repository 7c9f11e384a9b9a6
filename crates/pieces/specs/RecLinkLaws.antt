-- The link behind a part of a record's chain of cells is written: the record's own link to its first cell, where the part is empty, or else the link
-- of the part's last cell. Assumes nothing.
use Rattle.std.specs.Prelude.{ℕ, suc, ◌+◌, ◌*◌, ◌-◌, ◌≤◌, ◌<◌, ◌≡◌, refl, List, [], ◌∷◌, map, length, get_or, drop}
use Rattle.std.proofs.Common.{arith, sym, ◌∙◌}
use Rattle.octets.specs.Octets.{part, put}
use Rattle.octets.specs.Lists.{All}
use Rattle.octets.specs.ListsLaws.{all-to}
use Rattle.octets.specs.PartsLaws.{length_part, get_or-part}
use Rattle.machine.specs.Limits.{head_bytes, rec_count, rec_bytes, cell_bytes, store_bytes}
use Rattle.machine.specs.Values.{Cell}
use Rattle.machine.specs.Rows.{Row}
use Rattle.machine_laws.specs.Rows.{places, Held, held_same}
use Rattle.machine.specs.Counting.{occurs}
use Rattle.machine.specs.Layout.{first_cell_at, cell_place, cell_row, rec_off, rec_at, cell_at}
use Rattle.machine_laws.specs.Chains.{lead, rows_to}
use Rattle.machine_laws.specs.Write.{write-field, rec-leaves-head, rec-leaves-cells, cell-leaves-head, cell-leaves-recs}
use Rattle.machine_writes.specs.Link.{link_at, last_of, last_has, last-in, link-wrote, link-stay, relink}
use Rattle.machine_writes.specs.HeadLink.{put_same}
use Rattle.pieces.specs.SpotLaws.{link_behind}
use Rattle.pieces.specs.InPlace.{first_link}

-- a cell's row without its link
abbrev cell_tail : Cell → List ℕ
cell_tail c = drop 1 (cell_row 0 c)

cell_parts : (n : ℕ) (c : Cell) → cell_row n c ≡ n ∷ cell_tail c
unfolding cell_row
cell_parts n c = refl

-- b' is b with p as what follows the pieces l of the record at place k
pub record Led (k p : ℕ) (l : List Cell) (b b' : List ℕ) : Type 0 where
  pub long : length b' ≡ length b
  pub head : part b' 0 head_bytes ≡ part b 0 head_bytes
  pub own : rec_at b' k ≡ put (rec_at b k) first_cell_at (lead p (map cell_place l) ∷ [])
  pub others : (j : ℕ) → 0 < j → j ≤ rec_count → (j ≡ k → ⊥) → rec_at b' j ≡ rec_at b j
  pub chain : Held (cell_at b') (rows_to cell_place cell_row p l)
  pub rows : (lines : List Row) → occurs 0 (places lines) ≡ 0 → ((j : ℕ) → 0 < occurs j (map cell_place l) → occurs j (places lines) ≡ 0)
      → Held (cell_at b) lines → Held (cell_at b') lines

pub lead-on : (C k p x : ℕ) (l : List Cell) (b : List ℕ) → 0 < k → k ≤ rec_count → length b ≡ store_bytes C
    → All (λ (a : Cell). (0 < a.place) × (a.place ≤ C)) l → ((j : ℕ) → occurs j (map cell_place l) ≤ 1)
    → get_or b (first_link k) 0 ≡ lead x (map cell_place l) → Held (cell_at b) (rows_to cell_place cell_row x l)
    → Led k p l b (put b (link_behind (first_link k) l) (p ∷ []))
unfolding link_at
lead-on C k p x [] b a g size i u e h =
    let d : List ℕ = put b (first_link k) (p ∷ []) in
    let row : List ℕ = put (rec_at b k) first_cell_at (p ∷ []) in
    let w = write-field head_bytes rec_bytes k first_cell_at (p ∷ []) b a (omega arith) (omega arith) in
    record {
      long = w.long;
      head = rec-leaves-head k row b d w;
      own = w.here;
      others = λ j y z n. w.others j y n;
      chain = tt;
      rows = λ lines y z q. held_same (cell_at b) (cell_at d) lines (λ j o. rec-leaves-cells k row b d w g j) q;
    }
lead-on C k p x (a ∷ l) b y g size i u e h =
    let q : ℕ = first_link k in
    let stand : All (λ (c : Cell). (0 < c.place) × (store_bytes 0 + cell_bytes * (suc c.place - 1) ≤ length b)) (a ∷ l) =
    all-to (λ (c : Cell). (0 < c.place) × (c.place ≤ C)) (λ (c : Cell). (0 < c.place) × (store_bytes 0 + cell_bytes * (suc c.place - 1) ≤ length b)) (a ∷ l)
    (λ c z. (z.0, omega (arith, z.0, z.1))) i in
    let last = last_has cell_place cell_row (store_bytes 0) cell_bytes
    (λ (c : Cell). (0 < c.place) × (store_bytes 0 + cell_bytes * (suc c.place - 1) ≤ length b)) a l stand in
    let n : ℕ = cell_place (last_of cell_place cell_row (store_bytes 0) cell_bytes a l) in
    let d : List ℕ = put b (link_behind q (a ∷ l)) (p ∷ []) in
    let row : List ℕ = put (cell_at b n) 0 (p ∷ []) in
    let w = link-wrote cell_place cell_row (store_bytes 0) cell_bytes cell_tail cell_parts b p q a l (omega arith) last.0 last.1 in
    record {
      long = w.long;
      head = cell-leaves-head n row b d w;
      own = cell-leaves-recs n row b d w k g
          ∙ sym (put_same (rec_at b k) first_cell_at a.place (omega (arith, length_part b (rec_off k) rec_bytes (omega arith)))
          (get_or-part b (rec_off k) rec_bytes first_cell_at (omega arith) ∙ e));
      others = λ j s z o. cell-leaves-recs n row b d w j z;
      chain = relink cell_place cell_row (store_bytes 0) cell_bytes cell_tail cell_parts b p q x (a ∷ l) (omega arith) stand u h;
      rows = λ lines s z o. link-stay cell_place cell_row (store_bytes 0) cell_bytes cell_tail cell_parts b p q a l lines (omega arith) last.0 last.1 s
          (z n (last-in cell_place cell_row (store_bytes 0) cell_bytes a l)) o;
    }
