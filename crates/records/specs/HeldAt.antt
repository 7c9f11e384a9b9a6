-- The held record that a link leads to. Operations on a held record are handed the byte where the link to it stands; what they do is said about the
-- record that the bytes there hold.
use Rattle.std.specs.Prelude.{ℕ, ◌≤◌, ◌<◌, ◌≡◌, true, cond, List, length, get_or, eqb}
use Rattle.std.proofs.Math.Option.{Option, none, some}
use Rattle.machine.specs.Limits.{rec_count, store_bytes}
use Rattle.machine.specs.Codes.{role_receive, role_send}
use Rattle.machine.specs.Values.{Rec, Key}
use Rattle.machine.specs.Layout.{held_at, rec_at, read_rec}
use Rattle.machine.specs.Sound.{sound}
use Rattle.records.specs.Seek.{id_in, seek}

-- the record that the link at byte `link` leads to, if it leads to one
abbrev pub met_at : List ℕ → ℕ → Option Rec
met_at b link = cond (eqb (get_or b link 0) 0) none (some (read_rec b (get_or b link 0)))

-- the place that the link at byte `link` leads to, the row and the record there, and its key
abbrev pub place_at : List ℕ → ℕ → ℕ
place_at b link = get_or b link 0

abbrev pub row_in : List ℕ → ℕ → List ℕ
row_in b link = rec_at b (place_at b link)

abbrev pub rec_in : List ℕ → ℕ → Rec
rec_in b link = read_rec b (place_at b link)

abbrev pub key_in : List ℕ → ℕ → Key
key_in b link = id_in b (place_at b link)

-- a sound store, of some role
pub record Sound (b : List ℕ) : Type 0 where
  pub role : ℕ
  pub is : sound role b ≡ true

-- a sound store to receive, and one to send
abbrev pub Receives : List ℕ → Type 0
Receives b = sound role_receive b ≡ true

abbrev pub Sends : List ℕ → Type 0
Sends b = sound role_send b ≡ true

-- in a sound store b of a role, the link at byte `link` is the one that leads to a held record
pub record HeldAt (role : ℕ) (b : List ℕ) (link : ℕ) : Type 0 where
  pub sound : sound role b ≡ true
  pub some : 0 < place_at b link
  pub is : link ≡ seek (key_in b link) b held_at

-- in a sound store b of a role, a search along the held chain ended at the link at byte `link`
pub record Searched (role : ℕ) (b : List ℕ) (link : ℕ) : Type 0 where
  pub sound : sound role b ≡ true
  pub key : Key
  pub is : link ≡ seek key b held_at

-- in bytes b, the link at byte `link` leads to a place of a record
pub record Reached (b : List ℕ) (link : ℕ) : Type 0 where
  pub inside : link < length b
  pub some : 0 < place_at b link
  pub small : place_at b link ≤ rec_count
  pub long : store_bytes 0 ≤ length b
