-- What `sound` asks of bytes, as facts of the store that they hold: `Valid`. The laws say that a sound store is exactly the encoding of a valid one.
use Rattle.std.specs.Prelude.{ℕ, ◌≤◌, ◌<◌, ◌≡◌, true, ◌||◌, List, ◌++◌, length, eqb}
use Rattle.octets.specs.Octets.{Bytes}
use Rattle.octets.specs.Bools.{one}
use Rattle.octets.specs.Lists.{All}
use Rattle.packet.specs.Frame.{largest_piece}
use Rattle.machine.specs.Limits.{largest_topic, rec_count, most_cells, most_of_source}
use Rattle.machine.specs.Codes.{role_receive, kind_whole, held_kind, is_role}
use Rattle.machine.specs.Values.{Label, Cell, Rec, Store}
use Rattle.machine.specs.Counting.{occurs, inside}
use Rattle.machine.specs.Sources.{held_by}
use Rattle.machine.specs.Layout.{id_width, address_width, number_limit}
use Rattle.machine.specs.Sound.{rec_fits, no_rec, distinct, rec_places, cell_places}
use Rattle.machine.specs.Typed.{Exactly}

-- each place from 1 to n stands in a list once, and nothing else does
abbrev pub Once : ℕ → List ℕ → Type 0
Once n l = (k : ℕ) → occurs k l ≡ one (inside n k)

-- no source holds more in these records
abbrev pub Fair : ℕ → List Rec → Type 0
Fair most l = (source : List ℕ) → held_by source l ≤ most

-- at most n bytes
abbrev pub AtMost : ℕ → List ℕ → Type 0
AtMost n l = (length l ≤ n) × Bytes l

-- what the fields of a record's head, of a cell and of a record hold by their width
pub record LabelSized (h : Label) : Type 0 where
  pub id : Exactly id_width h.id
  pub source : Exactly address_width h.source
  pub destination : Exactly address_width h.destination
  pub total : h.total < number_limit
  pub topic : AtMost largest_topic h.topic

pub record CellSized (c : Cell) : Type 0 where
  pub bytes : AtMost largest_piece c.bytes
  pub stamp : c.stamp < number_limit

pub record RecSized (r : Rec) : Type 0 where
  pub label : LabelSized r.label
  pub created : r.sending.created < number_limit
  pub end : r.sending.end < number_limit
  pub cells : All CellSized r.cells

-- a store of a role that bytes can hold: the tests of `sound` as facts, and fields that fit their width
pub record Valid (role : ℕ) (s : Store) : Type 0 where
  pub some : 1 ≤ s.setup.cells
  pub most : s.setup.cells ≤ most_cells
  pub roles : is_role role ≡ true
  pub in_role : s.setup.role ≡ role
  pub held : All (λ (r : Rec). rec_fits role (held_kind role) r ≡ true) s.held
  pub whole : All (λ (r : Rec). rec_fits role kind_whole r ≡ true) s.whole
  pub kinds : (eqb role role_receive || no_rec s.whole) ≡ true
  pub recs : Once rec_count (rec_places s)
  pub cells : Once s.setup.cells (cell_places s)
  pub ids : distinct (s.held ++ s.whole) ≡ true
  pub sized : All RecSized (s.held ++ s.whole)
  pub sources : role ≡ role_receive → Fair most_of_source (s.held ++ s.whole)
