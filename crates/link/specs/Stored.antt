-- The queue in a buffer: each entry behind its number of bytes (2).
use Rattle.std.specs.Prelude.{ℕ, ◌-◌, ◌≤◌, ◌<◌, ◌≡◌, List, [], ◌∷◌, ◌++◌, length, take, drop}
use Rattle.octets.specs.Lists.{All}
use Rattle.octets.specs.Octets.{part, be}
use Rattle.link.specs.Entries.{first_of, rest_of}

abbrev pub stored_entry : List ℕ → List ℕ
stored_entry e = be 2 (length e) ++ e

unfoldable pub stored : List (List ℕ) → List ℕ
stored [] = []
stored (e ∷ q) = stored_entry e ++ stored q

-- an entry whose number of bytes has room in two
abbrev pub Small : List ℕ → Type 0
Small e = length e < 65536

-- the queue q stands in the buffer b from head to tail
pub record Waits (b : List ℕ) (head tail : ℕ) (q : List (List ℕ)) : Type 0 where
  pub order : head ≤ tail
  pub within : tail ≤ length b
  pub is : part b head (tail - head) ≡ stored q
  pub small : All Small q

-- the first entry of a run ends at r
pub record Ends (run : List ℕ) (r : ℕ) : Type 0 where
  pub first : take r run ≡ first_of run
  pub rest : drop r run ≡ rest_of run
  pub within : r ≤ length run
