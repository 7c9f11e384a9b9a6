-- Following a chain of records by its links, on bytes. The link is known by the byte where it stands: one of the head, or the first of a record.
use Rattle.std.specs.Prelude.{ℕ, zero, suc, ◌+◌, cond, List, get_or, eqb}
use Rattle.octets.specs.Octets.{part}
use Rattle.machine.specs.Limits.{rec_count}
use Rattle.machine.specs.Values.{Key, same_key}
use Rattle.machine.specs.Layout.{id_at, id_width, rec_off}

-- the id of the record at place p
abbrev pub id_in : List ℕ → ℕ → Key
id_in b p = part b (rec_off p + id_at) id_width

-- where the link to the first record with key k stands, or else the link that ends the chain: from the link at byte `at` on, past at most n links
unfoldable pub seek_from : Key → List ℕ → ℕ → ℕ → ℕ
seek_from k b zero at = at
seek_from k b (suc n) at = cond (eqb (get_or b at 0) 0) at (cond (same_key k (id_in b (get_or b at 0))) at (seek_from k b n (rec_off (get_or b at 0))))

-- past as many links as `decode` follows, so that a chain that does not end is left too
abbrev pub seek : Key → List ℕ → ℕ → ℕ
seek k b at = seek_from k b (suc rec_count) at
