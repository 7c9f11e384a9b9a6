-- Rows freed one after the other: each becomes a free row that leads to the next, the last one to where the free chain went on. Assumes nothing.
use Rattle.std.specs.Prelude.{ℕ, suc, ◌+◌, ◌≤◌, ◌<◌, ◌≡◌, length}
use Rattle.std.proofs.Common.{arith, sym, ◌∙◌, subst}
use Rattle.std.proofs.Math.Path.{refl, ap}
use mathlib.Core.List.{List, [], ◌∷◌}
use Rattle.octets.specs.Octets.{part, put}
use Rattle.octets.specs.Lists.{All}
use Rattle.octets.specs.ListsLaws.{all-to}
use Rattle.machine.specs.Rows.{row_off}
use Rattle.machine.specs.Counting.{occurs}
use Rattle.machine.specs.Layout.{free_place, free_row}
use Rattle.machine_laws.specs.Rows.{Held}
use Rattle.machine_laws.specs.Chains.{lead, rows_to}
use Rattle.machine_laws.specs.FreeRow.{free-length, free-map}
use Rattle.machine_laws.specs.Write.{row_in}
use Rattle.machine_writes.specs.Laid.{laid, Fitting, laid-length, laid-other, laid-before, laid-held}

module _ (start size : ℕ) where
  -- the rows at the places become free, the last one leads to x
  unfoldable pub cleared : ℕ → List ℕ → List ℕ → List ℕ
  cleared x [] b = b
  cleared x (p ∷ ps) b = cleared x ps (put b (row_off start size p) (free_row size (lead x ps) p))

  -- places whose rows stand in n bytes
  abbrev pub Inside : ℕ → List ℕ → Type 0
  Inside n ps = All (λ p. (0 < p) × (row_off start size (suc p) ≤ n)) ps

  -- free rows are laid down
  is-laid : (x : ℕ) (ps b : List ℕ) → cleared x ps b ≡ laid free_place (free_row size) start size x ps b
  unfolding cleared laid
  is-laid x [] b = refl
  is-laid x (p ∷ ps) b =
      is-laid x ps (put b (row_off start size p) (free_row size (lead x ps) p))
      ∙ ap (λ (l : List ℕ). laid free_place (free_row size) start size x ps (put b (row_off start size p) (free_row size (lead x l) p))) (sym (free-map ps))

module _ (start size : ℕ) (some : 0 < size) (x : ℕ) (ps b : List ℕ) (h : Inside start size (length b) ps) where
  fitting : Fitting free_place (free_row size) start size (length b) ps
  fitting =
      all-to (λ p. (0 < p) × (row_off start size (suc p) ≤ length b)) (λ p. (0 < p) × (row_off start size (suc p) ≤ length b) × ((z : ℕ) → length (free_row size z p) ≡ size)) ps
      (λ p q. (q.0, q.1, λ z. free-length size z p some)) h

  pub cleared-length : length (cleared start size x ps b) ≡ length b
  cleared-length = ap length (is-laid start size x ps b) ∙ laid-length free_place (free_row size) start size x ps b fitting

  -- rows at other places stay
  pub cleared-other : (k : ℕ) → 0 < k → occurs k ps ≡ 0 → row_in start size (cleared start size x ps b) k ≡ row_in start size b k
  cleared-other k z n =
      ap (λ (c : List ℕ). row_in start size c k) (is-laid start size x ps b)
      ∙ laid-other free_place (free_row size) start size x ps b k fitting z (ap (occurs k) (free-map ps) ∙ n)

  -- what stands before the rows stays
  pub cleared-before : (o n : ℕ) → o + n ≤ start → part (cleared start size x ps b) o n ≡ part b o n
  cleared-before o n g = ap (λ (c : List ℕ). part c o n) (is-laid start size x ps b) ∙ laid-before free_place (free_row size) start size x ps b o n fitting g

  -- they are a part of a free chain that goes on at x
  pub cleared-held : ((k : ℕ) → occurs k ps ≤ 1) → Held (row_in start size (cleared start size x ps b)) (rows_to free_place (free_row size) x ps)
  cleared-held u =
      subst (λ (c : List ℕ). Held (row_in start size c) (rows_to free_place (free_row size) x ps)) (sym (is-laid start size x ps b))
      (laid-held free_place (free_row size) start size x ps b fitting (λ k. omega (arith, u k, ap (occurs k) (free-map ps))))
