-- The rows of a fresh free chain: fresh free chains rise from 1.
use Rattle.std.specs.Prelude.{ℕ, suc, cond, List, eqb}
use Rattle.machine.specs.Rows.{table}
use Rattle.machine.specs.Layout.{free_row}

-- the link of place k in a chain that rises to `last`
abbrev pub free_link : ℕ → ℕ → ℕ
free_link last k = cond (eqb k last) 0 (suc k)

-- the first n rows of such a chain
abbrev pub free_table : ℕ → ℕ → ℕ → List ℕ
free_table size last n = table (λ k. free_row size (free_link last k) k) 1 n
