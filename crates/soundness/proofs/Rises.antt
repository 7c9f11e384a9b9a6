-- Free rows written one behind the other, and the bytes of a fresh store. Assumes nothing.
use Prim.Native.Nat.{ℕ, zero, suc, ◌+◌, ◌*◌, ◌-◌, ◌≤◌, ◌<◌}
use native.Mathlib.Omega.{arith}
use native.Mathlib.Decide.{ℕ_discrete}
use native.Mathlib.Numerals.{add-one}
use native.Mathlib.Nat.{add-zero}
use mathlib.Core.Path.{◌≡◌, refl, sym, ap, ◌∙◌}
use mathlib.Core.Bool.{true}
use mathlib.Core.List.{List, [], ◌∷◌, ◌++◌, append_assoc, append-nil}
use lib.ListN.{length}
use lib.Dec.{eqb}
use borrow.Author.Tests.{eq-eqb, ne_eqb, eqb-true}
use Rattle.octets.specs.Octets.{put}
use Rattle.octets.specs.BoolsLaws.{cases}
use Rattle.octets.specs.PartsLaws.{more, put-nil, put_whole}
use Rattle.octets.specs.WrittenLaws.{wrote, then}
use Rattle.machine.specs.Limits.{head_bytes, rec_count, rec_bytes, cell_bytes, store_bytes}
use Rattle.machine.specs.Codes.{role_receive, role_send, is_role}
use Rattle.machine.specs.Rows.{row_at, table}
use Rattle.machine.specs.Chains.{first, chain_rows}
use Rattle.machine.specs.Counting.{rise}
use Rattle.machine.specs.Layout.{free_place, free_row, rec_rows, cell_rows, encode}
use Rattle.machine.specs.Sound.{fresh}
use Rattle.machine_laws.specs.Rows.{table_same, table-length}
use Rattle.machine_laws.specs.FreeRow.{free-length}
use Rattle.soundness.specs.declared.chain.Table.{Table}
use Rattle.soundness.specs.Walked.{cell_table}
use Rattle.soundness.specs.Rising.{free_link, free_table}

-- ---- rows one behind the other

table-snoc : (f : ℕ → List ℕ) (k n : ℕ) → table f k n ++ f (k + n) ≡ table f k (suc n)
table-snoc f k zero = ap f (add-zero k) ∙ sym (append-nil (f k))
table-snoc f k (suc n) =
    let e : k + suc n ≡ suc k + n = omega arith in
    append_assoc (f k) (table f (suc k) n) (f (k + suc n)) ∙ ap (λ (l : List ℕ). f k ++ l) (ap (λ (j : ℕ). table f (suc k) n ++ f j) e ∙ table-snoc f (suc k) n)

module _ (size last : ℕ) (p : 1 ≤ size) where
  table-size : (a n : ℕ) → a + length (free_table size last n) ≡ a + size * n
  table-size a n =
      let l = table-length a size (λ k. free_row size (free_link last k) k) 1 n (omega arith) (λ k x y. free-length size (free_link last k) k p) in
      let e : 1 + n - 1 ≡ n = omega arith in
      omega (arith, l, ap (λ (k : ℕ). a + size * k) e)

  -- one row more
  pub rows_more : (b m l : List ℕ) (a n next : ℕ) → next ≡ free_link last (n + 1)
      → m ≡ put b a (free_table size last n) → l ≡ put m (a + size * n) (free_row size next 0)
      → a + size * n ≤ length b
      → l ≡ put b a (free_table size last (n + 1))
  rows_more b m l a n next q e f h =
      more b m l a (a + size * n) (free_table size last n) (free_row size (free_link last (n + 1)) 0) e
      (f ∙ ap (λ (x : ℕ). put m (a + size * n) (free_row size x 0)) q) (sym (table-size a n)) (omega (arith, table-size a n))
      ∙ ap (put b a)
      (ap (λ (j : ℕ). free_table size last n ++ free_row size (free_link last j) 0) (add-one n ∙ sym (one-add n))
      ∙ table-snoc (λ k. free_row size (free_link last k) k) 1 n
      ∙ ap (free_table size last) (sym (add-one n)))
    where
      one-add : (n : ℕ) → 1 + n ≡ suc n
      one-add n = omega arith

pub rows_none : (b : List ℕ) (a : ℕ) → put b a [] ≡ b
rows_none b a = put-nil b a

-- ---- a fresh store

-- the rows of a chain that rises
rise-at : (size last i n k : ℕ) → i + n ≡ suc last → i ≤ k → k < i + n
    → row_at (chain_rows free_place (free_row size) (rise i n) ++ []) k ≡ free_row size (free_link last k) k
unfolding rise
rise-at size last i zero k e h g = absurd (omega arith)
rise-at size last i (suc zero) k e h g =
    let w : k ≡ i = omega arith in
    let z : k ≡ last = omega arith in
    rw (eq-eqb k i w, eq-eqb k last z)
rise-at size last i (suc (suc n)) k e h g =
    elim (ℕ_discrete k i) [
      | yes w ↦ rw (eq-eqb k i w, ne_eqb k last (λ z. omega arith)) (ap (λ (j : ℕ). free_row size j k) (ap suc (sym w)))
      | no w ↦ rw (ne_eqb k i w) (rise-at size last (suc i) (suc n) k (omega arith) (omega (arith, w)) (omega arith))
    ]

rise-first : (n : ℕ) → 1 ≤ n → first (rise 1 n) ≡ 1
unfolding rise
rise-first zero h = absurd (omega arith)
rise-first (suc n) h = refl

-- the head of a fresh store
abbrev pub fresh_head : ℕ → ℕ → List ℕ
fresh_head role cells = 1 ∷ 0 ∷ 0 ∷ 1 ∷ 1 ∷ cells ∷ role ∷ 0 ∷ 0 ∷ 0 ∷ 0 ∷ 0 ∷ 0 ∷ 0 ∷ 0 ∷ 0 ∷ []

fresh-is : (role cells : ℕ) → 1 ≤ cells
    → fresh_head role cells ++ (free_table rec_bytes rec_count rec_count ++ free_table cell_bytes cells cells) ≡ encode (fresh role cells)
unfolding encode
fresh-is role cells h =
    let recs = table_same (λ k. free_row rec_bytes (free_link rec_count k) k) (row_at (rec_rows (fresh role cells))) 1 rec_count
    (λ k a z. sym (rise-at rec_bytes rec_count 1 rec_count k refl a z)) in
    let rest = table_same (λ k. free_row cell_bytes (free_link cells k) k) (row_at (cell_rows (fresh role cells))) 1 cells
    (λ k a z. sym (rise-at cell_bytes cells 1 cells k (omega arith) a z)) in
    λ i. (sym (rise-first rec_count (omega arith)) i ∷ 0 ∷ 0 ∷ sym (rise-first cells h) i ∷ 1 ∷ cells ∷ role ∷ 0 ∷ 0 ∷ 0 ∷ 0 ∷ 0 ∷ 0 ∷ 0 ∷ 0 ∷ 0 ∷ [])
    ++ (recs i ++ rest i)

-- three writes over all bytes
pub fresh_written : (role cells : ℕ) (b m l o : List ℕ) (t : Table) → 1 ≤ cells → length b ≡ store_bytes cells
    → m ≡ put b 0 (fresh_head role cells)
    → l ≡ put m head_bytes (free_table rec_bytes rec_count rec_count)
    → t ≡ cell_table cells → o ≡ put l t.start (free_table t.size t.count t.count) → o ≡ encode (fresh role cells)
fresh_written role cells b m l o t h e p q f s =
    let r : o ≡ put l (store_bytes 0) (free_table cell_bytes cells cells) =
    s ∙ ap (λ (u : Table). put l u.start (free_table u.size u.count u.count)) f in
    let recs : length (free_table rec_bytes rec_count rec_count)
    ≡ rec_bytes * rec_count = omega (arith, table-size rec_bytes rec_count (omega arith) 0 rec_count) in
    let rest : length (free_table cell_bytes cells cells) ≡ cell_bytes * cells = omega (arith, table-size cell_bytes cells (omega arith) 0 cells) in
    let w = then (free_table cell_bytes cells cells) (cell_bytes * cells)
    (then (free_table rec_bytes rec_count rec_count) (rec_bytes * rec_count) (wrote {a = 0} {n = head_bytes} p refl (omega (arith, e))) q recs
    (omega (arith, e))) r rest (omega (arith, e)) in
    w.is ∙ put_whole b ((fresh_head role cells ++ free_table rec_bytes rec_count rec_count) ++ free_table cell_bytes cells cells) (w.size ∙ sym e)
    ∙ append_assoc (fresh_head role cells) (free_table rec_bytes rec_count rec_count) (free_table cell_bytes cells cells) ∙ fresh-is role cells h

pub role_small : (role : ℕ) → is_role role ≡ true → role ≤ 2
role_small role h =
    cases (eqb role role_receive)
    (λ e. omega (arith, eqb-true role role_receive e))
    (λ e. let q : eqb role role_send ≡ true = rw e at h in omega (arith, eqb-true role role_send q))
