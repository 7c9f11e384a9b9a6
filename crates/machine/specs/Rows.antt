-- Rows of one size at places that count from 1, in general: how a row is made of fields, and how bytes are made of rows.
use Rattle.std.specs.Prelude.{ℕ, zero, suc, ◌+◌, ◌*◌, ◌-◌, Bool, cond, List, [], ◌∷◌, ◌++◌, length, replicate, eqb}
use Rattle.octets.specs.Octets.{part, zeros}

-- fields, one behind the other
abbrev pub join : List (List ℕ) → List ℕ
join [] = []
join (f ∷ fs) = f ++ join fs

-- l with zeros behind it, up to n bytes
abbrev pub pad : ℕ → List ℕ → List ℕ
pad n l = l ++ replicate (n - length l) 0

-- a row of n bytes is zero from o on
abbrev pub zero_from : ℕ → ℕ → List ℕ → Bool
zero_from n o row = zeros (part row o (n - o))

-- where the row at place k starts, where rows of a size stand one behind the other from a start on
abbrev pub row_off : ℕ → ℕ → ℕ → ℕ
row_off start size k = start + size * (k - 1)

-- a row and the place where it stands
pub record Row : Type 0 where
  pub place : ℕ
  pub bytes : List ℕ

-- the row at place k
abbrev pub row_at : List Row → ℕ → List ℕ
row_at [] k = []
row_at (r ∷ rows) k = cond (eqb k r.place) r.bytes (row_at rows k)

-- the rows of n places from k on, one behind the other
abbrev pub table : (ℕ → List ℕ) → ℕ → ℕ → List ℕ
table row k zero = []
table row k (suc n) = row k ++ table row (suc k) n
