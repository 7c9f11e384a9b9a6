-- What a store holds, as a value: lists in the order of their chains, each record and cell with its place.
use Rattle.std.specs.Prelude.{ℕ, Bool, false, ◌&&◌, List, eqb}
use Rattle.std.proofs.Math.Option.{Option, none, some}
use Rattle.octets.specs.Octets.{same}

-- what an init says: alike in a record of a store and on a page of the ledger. `total` is its length in bytes.
pub record Label : Type 0 where
  pub id : List ℕ
  pub source : List ℕ
  pub destination : List ℕ
  pub reply : ℕ
  pub total : ℕ
  pub topic : List ℕ

-- a piece in its cell; `stamp` and `state` are the sender's
pub record Cell : Type 0 where
  pub place : ℕ
  pub index : ℕ
  pub bytes : List ℕ
  pub stamp : ℕ
  pub state : ℕ

-- what only the sender keeps of a record; created and end in milliseconds
pub record Sending : Type 0 where
  pub state : ℕ
  pub timed_out : ℕ
  pub created : ℕ
  pub end : ℕ

-- of a record that arrives or is whole: unused fields are zero
abbrev pub idle : Sending
idle = record { state = 0; timed_out = 0; created = 0; end = 0 }

-- a record with its chain of cells, in index order
pub record Rec : Type 0 where
  pub place : ℕ
  pub label : Label
  pub slots : ℕ
  pub sending : Sending
  pub cells : List Cell

-- what setup fixes: the cell count C and the role
pub record Setup : Type 0 where
  pub cells : ℕ
  pub role : ℕ

-- a store: free record places, held records (newest first), whole records (oldest first), free cell places
pub record Store : Type 0 where
  pub setup : Setup
  pub free : List ℕ
  pub held : List Rec
  pub whole : List Rec
  pub free_cells : List ℕ

-- ---- what a record is found by

-- ids unique: the key of a record is its id
abbrev pub Key : Type 0
Key = List ℕ

abbrev pub key_of : Label → Key
key_of h = h.id

-- two keys are one
unfoldable pub same_key : Key → Key → Bool
same_key j k = same j k

-- ---- an init that comes again

-- "equal in source, destination, length, topic and reply flag"
unfoldable pub equal_in_five : Label → Label → Bool
equal_in_five g h =
    same g.source h.source
    && same g.destination h.destination
    && eqb g.total h.total
    && same g.topic h.topic
    && eqb g.reply h.reply

-- an init says again what is there under its key: a record of a store, or a page of the ledger
abbrev pub repeats : {A : Type 0} → (A → Label) → Option A → Label → Bool
repeats label none h = false
repeats label (some a) h = equal_in_five (label a) h
