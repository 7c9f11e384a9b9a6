-- Freeing a chain of cells: links stay in range on the way, and along the links of a chain it is `cells_freed`. Assumes nothing.
use Prim.Native.Nat.{ℕ, zero, suc, ◌+◌, ◌≤◌, ◌<◌}
use Rattle.std.proofs.Common.{arith, sym, ◌∙◌, eq-eqb, ne_eqb}
use Rattle.std.proofs.Math.Decide.{ℕ_discrete}
use Rattle.std.specs.Prelude.{◌≡◌, length, eqb}
use Rattle.std.proofs.Math.Path.{refl, ap}
use mathlib.Core.List.{List, [], ◌∷◌}
use Rattle.std.proofs.Math.ListN.{get_or}
use Rattle.octets.specs.Octets.{put}
use Rattle.octets.specs.Bools.{one}
use Rattle.octets.specs.BoolsLaws.{one-le, cases}
use Rattle.octets.specs.PartsLaws.{get_or-put-after, length-put}
use Rattle.machine.specs.Limits.{cell_bytes, most_cells, store_bytes}
use Rattle.machine.specs.Chains.{first, link}
use Rattle.machine.specs.Counting.{occurs, inside}
use Rattle.machine.specs.Layout.{free_cells_at, cell_off, cell_at, free_row}
use Rattle.machine_laws.specs.Counting.{Few, self, one_inside, few-inside, few-short}
use Rattle.machine_laws.specs.Chains.{Linked, lead}
use Rattle.machine_laws.specs.FreeRow.{free-length}
use Rattle.machine_laws.specs.Write.{Wrote, write-row}
use Rattle.machine_writes.specs.Clear.{cleared}
use Rattle.machine_writes.specs.FreeCells.{cells_freed}
use Rattle.machine_writes.specs.Byte.{first_byte}
use Rattle.machine_writes.specs.Links.{count, Links}
use Rattle.records.specs.Clearing.{or_else, cell_free, free_from, clear_from, Clearable}

-- a cell's link is the first byte of its row
pub cell-link-is : (b : List ℕ) (k : ℕ) → get_or b (cell_off k) 0 ≡ link (cell_at b) k
cell-link-is b k = first_byte b (cell_off k) cell_bytes (omega arith)

-- ---- links in range

pub links-chain : (b : List ℕ) (p : ℕ) → Links b → p ≤ count b → Clearable p (get_or b free_cells_at 0) b
links-chain b p h g = record { count = count b; most = h.most; long = h.long; links = h.cells; start = g; stop = h.free_cells }

-- a write to the head or a record that leaves the link to the free cells leaves all links of cells
pub chain-put : (p : ℕ) (b : List ℕ) (o : ℕ) (v : List ℕ) → Clearable p (get_or b free_cells_at 0) b
    → o + length v ≤ store_bytes 0 → get_or (put b o v) free_cells_at 0 ≡ get_or b free_cells_at 0
    → Clearable p (get_or (put b o v) free_cells_at 0) (put b o v)
chain-put p b o v h g e =
    let fits : o + length v ≤ length b = omega (arith, h.long) in
    record {
      count = h.count;
      most = h.most;
      long = length-put b o v fits ∙ h.long;
      links = λ k i j. omega (arith, h.links k i j, get_or-put-after b o v fits (cell_off k) (omega arith));
      start = h.start;
      stop = omega (arith, h.stop, e);
    }

or-else-le : (n end p : ℕ) → end ≤ n → p ≤ n → or_else end p ≤ n
or-else-le n end p h g = cases (eqb p 0) (λ e. rw e h) (λ e. rw e g)

module _ (p end : ℕ) (b : List ℕ) (h : Clearable p end b) (some : 0 < p) where
  abbrev row : List ℕ
  row = free_row cell_bytes (or_else end (get_or b (cell_off p) 0)) p

  wrote : Wrote (store_bytes 0) cell_bytes p row b (cell_free end p b)
  wrote =
      write-row (store_bytes 0) cell_bytes p row b some (omega (arith, h.long, h.start))
      (free-length cell_bytes (or_else end (get_or b (cell_off p) 0)) p (omega arith))

  links-stay : (k : ℕ) → 0 < k → k ≤ h.count → get_or (cell_free end p b) (cell_off k) 0 ≤ h.count
  links-stay k i j =
      elim (ℕ_discrete k p) [
        | yes e ↦ (let z : get_or (cell_free end p b) (cell_off k) 0 ≡ or_else end (get_or b (cell_off p) 0) =
            cell-link-is (cell_free end p b) k ∙ ap (link (cell_at (cell_free end p b))) e ∙ ap (λ (l : List ℕ). get_or l 0 0) wrote.here in
            omega (arith, or-else-le h.count end (get_or b (cell_off p) 0) h.stop (h.links p some h.start)))
        | no e ↦ (let z : get_or (cell_free end p b) (cell_off k) 0 ≡ get_or b (cell_off k) 0 =
            cell-link-is (cell_free end p b) k ∙ ap (λ (l : List ℕ). get_or l 0 0) (wrote.others k i e) ∙ sym (cell-link-is b k) in
            omega (arith, h.links k i j))
      ]

  pub chain_next : Clearable (get_or b (cell_off p) 0) end (cell_free end p b)
  chain_next = record { count = h.count; most = h.most; long = wrote.long ∙ h.long; links = links-stay; start = h.links p some h.start; stop = h.stop }

  pub cell-free-long : length (cell_free end p b) ≡ length b
  cell-free-long = wrote.long

-- ---- along a chain

pub linked-same : (f g : ℕ → ℕ) (ps : List ℕ) → ((k : ℕ) → 0 < occurs k ps → g k ≡ f k) → Linked f ps → Linked g ps
linked-same f g [] e h = tt
linked-same f g (p ∷ ps) e h = (e p (omega (arith, self p)) ∙ h.0, linked-same f g ps (λ k q. e k (omega arith)) h.1)

or-else-lead : (end n : ℕ) (ps : List ℕ) → Few n ps → or_else end (first ps) ≡ lead end ps
or-else-lead end n [] u = refl
or-else-lead end n (p ∷ ps) u = rw (ne_eqb p 0 (λ e. omega (arith, (few-inside n (p ∷ ps) u).0.0)))

module _ (end C : ℕ) where
  free-cleared : (n : ℕ) (ps b : List ℕ) → length b ≡ store_bytes C → Few C ps → Linked (link (cell_at b)) ps → length ps ≤ n
      → free_from end n (first ps) b ≡ cleared (store_bytes 0) cell_bytes end ps b
  unfolding free_from cleared
  free-cleared zero [] b s u l h = refl
  free-cleared (suc n) [] b s u l h = refl
  free-cleared zero (p ∷ ps) b s u l h = absurd (omega arith)
  free-cleared (suc n) (p ∷ ps) b s u l h =
      let in_p = (few-inside C (p ∷ ps) u).0 in
      let next : get_or b (cell_off p) 0 ≡ first ps = cell-link-is b p ∙ l.0 in
      let rest : Few C ps = λ k. omega (arith, u k) in
      let row : List ℕ = free_row cell_bytes (lead end ps) p in
      let w = write-row (store_bytes 0) cell_bytes p row b in_p.0 (omega (arith, s, in_p.1, in_p.0)) (free-length cell_bytes (lead end ps) p (omega arith)) in
      let to : or_else end (get_or b (cell_off p) 0) ≡ lead end ps = ap (or_else end) next ∙ or-else-lead end C ps rest in
      rw (ne_eqb p 0 (λ e. omega (arith, in_p.0)))
      ((λ i. free_from end n (next i) (put b (cell_off p) (free_row cell_bytes (to i) p)))
      ∙ free-cleared n ps (put b (cell_off p) row) (w.long ∙ s) rest
      (linked-same (link (cell_at b)) (link (cell_at (put b (cell_off p) row))) ps
      (λ k q. ap (λ (x : List ℕ). get_or x 0 0)
      (w.others k (few-pos C ps rest k q) (λ e. apart k p ps C u q e)))
      l.1)
      (omega arith))
    where
      few-pos : (n : ℕ) (ps : List ℕ) → Few n ps → (k : ℕ) → 0 < occurs k ps → 0 < k
      few-pos n ps u k q = (one_inside n k (omega (arith, u k))).0

      apart : (k p : ℕ) (ps : List ℕ) (n : ℕ) → Few n (p ∷ ps) → 0 < occurs k ps → k ≡ p → ⊥
      apart k p ps n u q e = let z : one (eqb k p) ≡ 1 = ap one (eq-eqb k p e) in omega (arith, u k, one-le (inside n k))

  -- the chain of the places ps is freed, in front of the free places FC
  pub clear-freed : (ps FC b : List ℕ) → C ≤ most_cells → length b ≡ store_bytes C → Few C ps
      → Linked (link (cell_at b)) ps → first FC ≡ end → get_or b free_cells_at 0 ≡ end
      → clear_from (first ps) b ≡ cells_freed b ps FC
  clear-freed ps FC b m s u l e f =
      (λ i. put (free_from (f i) (suc most_cells) (first ps) b) free_cells_at (or_else (f i) (first ps) ∷ []))
      ∙ (λ i. put (free-cleared (suc most_cells) ps b s u l (omega (arith, few-short C ps u)) i) free_cells_at (or-else-lead end C ps u i ∷ []))
      ∙ (λ i. put (cleared (store_bytes 0) cell_bytes (sym e i) ps b) free_cells_at (lead (sym e i) ps ∷ []))
