-- What opening a record writes, on bytes: its row behind the link, then the link and the head's first two bytes.
use Rattle.std.specs.Prelude.{ℕ, suc, ◌+◌, ◌-◌, ◌≤◌, ◌<◌, ◌≡◌, true, List, [], ◌∷◌, ◌++◌, length, get_or, replicate}
use Rattle.std.proofs.Math.Option.{none}
use Rattle.octets.specs.Octets.{put, be}
use Rattle.octets.specs.Bools.{one}
use Rattle.packet.specs.declared.label.Label as carried
use Rattle.machine.specs.Limits.{longest, largest_topic, rec_count, store_bytes, slots_of}
use Rattle.machine.specs.Codes.{role_receive, state_init}
use Rattle.machine.specs.Values.{Label, Cell, Rec, key_of}
use Rattle.machine.specs.Layout.{free_at, held_at, id_width, address_width, number_width, rec_off, rec_row, decode}
use Rattle.machine.specs.Sound.{sound}
use Rattle.machine.specs.Receive.{found}
use Rattle.machine_steps.specs.LabelFine.{LabelFine}

-- a record is free
pub record Openable (b : List ℕ) : Type 0 where
  pub some : 0 < get_or b free_at 0
  pub small : get_or b free_at 0 ≤ rec_count
  pub long : store_bytes 0 ≤ length b

-- b with its first free record as the first held
abbrev pub opened : List ℕ → List ℕ
opened b =
    put (put b (rec_off (get_or b free_at 0)) (get_or b held_at 0 ∷ []))
    free_at (get_or b (rec_off (get_or b free_at 0)) 0 ∷ get_or b free_at 0 ∷ [])

-- what an init says, as the code carries it, with its topic
abbrev pub new_label : carried.Label → List ℕ → Label
new_label l topic = record { id = l.id; source = l.source; destination = l.destination; reply = one l.reply; total = l.total; topic = topic }

-- fields of a new record that have their widths
pub record FieldsFit (h : Label) : Type 0 where
  pub id : length h.id ≡ id_width
  pub source : length h.source ≡ address_width
  pub destination : length h.destination ≡ address_width
  pub total : h.total ≤ longest
  pub topic : length h.topic ≤ largest_topic

-- a new record at the place p; what arrives has neither created nor end, nor pieces yet
abbrev pub new_rec : ℕ → Label → ℕ → ℕ → List Cell → Rec
new_rec p h created end cells = record {
  place = p;
  label = h;
  slots = slots_of h.total;
  sending = record { state = state_init; timed_out = 0; created = created; end = end };
  cells = cells;
}

-- its row behind the link, in two parts: from its kind to its destination, and what follows; its first cell is at the place `cell`
abbrev pub front_of : ℕ → ℕ → Label → List ℕ
front_of kind cell h = (kind ∷ h.reply ∷ state_init ∷ 0 ∷ cell ∷ length h.topic ∷ slots_of h.total ∷ []) ++ h.id ++ h.source ++ h.destination

abbrev pub rest_of : ℕ → ℕ → ℕ → List ℕ → List ℕ
rest_of total created end topic = be number_width total ++ be number_width created ++ be number_width end ++ topic ++ replicate (suc largest_topic - length topic) 0

abbrev pub new_row : ℕ → ℕ → Label → ℕ → ℕ → List ℕ
new_row kind cell h created end = front_of kind cell h ++ rest_of h.total created end h.topic

-- b with that row in the first free record, which becomes the first held
abbrev pub opened_row : ℕ → ℕ → Label → ℕ → ℕ → List ℕ → List ℕ
opened_row kind cell h created end b = opened (put b (rec_off (get_or b free_at 0) + 1) (new_row kind cell h created end))

-- b with the record r, of a kind, in the first free place, as the first held
abbrev pub opened_with : ℕ → Rec → List ℕ → List ℕ
opened_with kind r b =
    put (put b (rec_off (get_or b free_at 0)) (rec_row kind (get_or b held_at 0) r))
    free_at (get_or b (rec_off (get_or b free_at 0)) 0 ∷ get_or b free_at 0 ∷ [])

-- a sound receive store with a free record, and a head whose id it does not hold
pub record Ready (b : List ℕ) (h : Label) : Type 0 where
  pub sound : sound role_receive b ≡ true
  pub free : Openable b
  pub held : found (key_of h) (decode b).held ≡ none
  pub whole : found (key_of h) (decode b).whole ≡ none
  pub fine : LabelFine h
