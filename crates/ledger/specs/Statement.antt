-- What demand 3 says of two stores and a ledger: the statement that `demand3` of Demand proves over every list of calls.
use Rattle.std.specs.Prelude.{ℕ, ◌≤◌, ◌≡◌, List, [], ◌∷◌, ◌++◌, ◌↔◌, length, get_or}
use Rattle.std.proofs.Math.Option.{some}
use Rattle.octets.specs.Octets.{put}
use Rattle.packet.specs.declared.header.Kind.TheVariants.{Done}
use Rattle.packet.specs.Frame.{done_end, done_count, done_sum, largest_frame}
use Rattle.machine.specs.Limits.{rec_bytes}
use Rattle.machine.specs.Codes.{role_receive, role_send, yes}
use Rattle.machine.specs.Layout.{label_of, topic_size_at}
use Rattle.machine.specs.Packet.{Packet, kind, asked, packet_room}
use Rattle.machine.specs.Take.{take_room, taken_room, take_of}
use Rattle.ledger.specs.Run.{Stores, packet, take_whole, answer}
use Rattle.ledger.specs.Ledger.{Page, Due, Ledger, whole_of}

-- "In role means roles 1 and 2"
abbrev pub InRole : Ledger → Type 0
InRole l = (l.recv_role ≡ role_receive) × (l.send_role ≡ role_send)

-- "A full frame of a done is then one of 52 to 1,400 bytes"
abbrev pub FullDone : List ℕ → Type 0
FullDone f = (done_end ≤ length f) × (length f ≤ largest_frame)

-- what take puts out for a page: a record's 328 bytes with the page's fields at their places, then its pieces joined by index
pub record Given (g : Page) (before after : List ℕ) : Type 0 where
  pub row : List ℕ
  pub sized : length row ≡ rec_bytes
  pub label : label_of row ≡ g.label
  pub topic_size : get_or row topic_size_at 0 ≡ length g.label.topic
  pub bytes : after ≡ put before 0 (row ++ whole_of g)

pub record Demand3 (s : Stores) (l : Ledger) : Type 0 where
  -- "a done after it, with a full frame and outgoing buffer and both stores in role, is acknowledged exactly when its id has an open page .. and .."
  pub done_by : (p : Packet) (out : List ℕ) → InRole l → kind p ≡ Done → FullDone p.frame → packet_room ≤ length out
      → (answer (packet p out) s ≡ 0)
      ↔ ((g : Page) × (l.book.pages (asked p) ≡ some g) × Due g (done_count p.frame) (done_sum p.frame) (yes p.known))
  -- "Take in role answers 23 exactly when the row is empty"
  pub take_none : (taken out : List ℕ) → InRole l → (answer (take_whole taken out) s ≡ 23) ↔ (l.book.row ≡ [])
  -- "else with full buffers 0"
  pub take_one : (taken out : List ℕ) (g : Page) (t : List Page) → InRole l → l.book.row ≡ g ∷ t
      → take_room ≤ length out → taken_room g.label.total ≤ length taken → answer (take_whole taken out) s ≡ 0
  -- "Whenever it answers 0, it puts out the first page's .."
  pub take_gives : (taken out : List ℕ) → answer (take_whole taken out) s ≡ 0
      → (g : Page) × (t : List Page) × (l.book.row ≡ g ∷ t) × Given g taken (take_of s.recv taken out).taken
