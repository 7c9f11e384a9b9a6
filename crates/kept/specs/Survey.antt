-- A survey in pieces, as calls: an init of a length, "its pieces sent after the init by rising index from 0, offsets running on, then the done"; and the
-- store in which it is whole.
use Rattle.std.specs.Prelude.{ℕ, suc, ◌+◌, ◌-◌, ◌≡◌, Bool, true, List, [], ◌∷◌, map, length, eqb}
use Rattle.octets.specs.Lists.{all}
use Rattle.octets.specs.Bools.{one}
use Rattle.blake3.specs.Tree.{blake3}
use Rattle.packet.specs.Outgoing.{init_packet, chunk_packet, done_packet}
use Rattle.machine.specs.Limits.{largest_topic}
use Rattle.machine.specs.Codes.{role_receive, role_send, yes}
use Rattle.machine.specs.Values.{Label, Cell, Rec, Store, idle}
use Rattle.machine.specs.Layout.{id_width, address_width, encode}
use Rattle.machine.specs.Rows.{join}
use Rattle.machine.specs.Counting.{rise}
use Rattle.machine.specs.Sound.{fresh}
use Rattle.machine.specs.Pieces.{new_cell}
use Rattle.machine.specs.Packet.{Packet, rules_row}
use Rattle.machine.specs.Refusals.{refusal}
use Rattle.machine.specs.Typed.{Exactly}
use Rattle.machine.specs.Valid.{AtMost}
use Rattle.ledger.specs.Run.{Stores, Call, packet, left, answered, fresh_stores}

-- what the packets of a survey share, and what the office's host hands over with each: the rule book and its mark for a known key
pub record Sender : Type 0 where
  pub id : List ℕ
  pub from : List ℕ
  pub to : List ℕ
  pub reply : Bool
  pub topic : List ℕ
  pub rules : List ℕ
  pub known : ℕ

-- "with open topic and known source key"; the fields have the widths of the interface
pub record Open (t : Sender) : Type 0 where
  pub id : Exactly id_width t.id
  pub from : Exactly address_width t.from
  pub to : Exactly address_width t.to
  pub topic : AtMost largest_topic t.topic
  pub rules : refusal (rules_row t.reply t.from t.topic t.rules) ≡ 0
  pub known : yes t.known ≡ true

-- ---- what is sent

-- the pieces from an index and an offset on, then the done
unfoldable pub frames_from : List ℕ → ℕ → List ℕ → ℕ → ℕ → List (List ℕ) → List (List ℕ)
frames_from id count sum i o [] = done_packet id count sum ∷ []
frames_from id count sum i o (b ∷ l) = chunk_packet id i o b ∷ frames_from id count sum (suc i) (o + length b) l

-- all of it: the done's count is the number of pieces, its sum that of all bytes
unfoldable pub frames_of : Sender → ℕ → List (List ℕ) → List (List ℕ)
frames_of t total pieces =
    init_packet t.id t.reply total t.topic ∷ frames_from t.id (length pieces) (blake3 (join pieces)) 0 0 pieces

-- a frame as it comes in
abbrev pub heard : Sender → List ℕ → Packet
heard t f = record { frame = f; from = t.from; to = t.to; rules = t.rules; known = t.known }

-- .. as calls, each with the same buffer for its reply
abbrev pub calls_of : Sender → ℕ → List (List ℕ) → List ℕ → List Call
calls_of t total pieces out = map (λ (f : List ℕ). packet (heard t f) out) (frames_of t total pieces)

-- every call is answered 0
abbrev pub accepted : List Call → Stores → Bool
accepted l s = all (λ (c : Call × ℕ). eqb c.1 0) (answered l s)

-- ---- what a fresh receiver makes of it

-- what the init says
abbrev pub label_of : Sender → ℕ → Label
label_of t total = record {
  id = t.id;
  source = t.from;
  destination = t.to;
  reply = one t.reply;
  total = total;
  topic = t.topic;
}

-- the pieces from index i on, each in the cell of the next place
unfoldable pub cells_of : ℕ → List (List ℕ) → List Cell
cells_of i [] = []
cells_of i (b ∷ l) = new_cell (suc i) i b ∷ cells_of (suc i) l

-- .. as a record at the first place
abbrev pub record_of : Sender → ℕ → List (List ℕ) → Rec
record_of t total pieces = record {
  place = 1;
  label = label_of t total;
  slots = length pieces;
  sending = idle;
  cells = cells_of 0 pieces;
}

-- a receive store of so many cells that has one whole survey and nothing else
abbrev pub whole_store : ℕ → Sender → ℕ → List (List ℕ) → Store
whole_store cells t total pieces = record {
  setup = record { cells = cells; role = role_receive };
  free = rise 2 7;
  held = [];
  whole = record_of t total pieces ∷ [];
  free_cells = rise (suc (length pieces)) (cells - length pieces);
}

-- "makes a whole message": every call is answered 0, and then the receive store has the survey whole; the send store is as it was
pub record MadeWhole (t : Sender) (cells d total : ℕ) (pieces : List (List ℕ)) (out : List ℕ) : Type 0 where
  pub answers : accepted (calls_of t total pieces out) (fresh_stores cells d) ≡ true
  pub stores : left (calls_of t total pieces out) (fresh_stores cells d)
      ≡ record { recv = encode (whole_store cells t total pieces); send = encode (fresh role_send d) }
