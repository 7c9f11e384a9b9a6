-- The ledger of demand 3 (PROTOCOL, "The ledger"): it is fed each call's arguments and answer number, nothing from a store.
use Rattle.std.specs.Prelude.{ℕ, zero, suc, ◌+◌, ◌<◌, max, ◌≡◌, Bool, true, cond, List, [], ◌∷◌, ◌++◌, length, eqb}
use Rattle.std.proofs.Math.Option.{Option, none, some}
use Rattle.blake3.specs.Tree.{blake3}
use Rattle.packet.specs.declared.header.Kind.{Kind}
use Rattle.packet.specs.declared.header.Kind.TheVariants.{Init, Chunk, Done, Read, Aborted, AckInit, AckChunk, AckDone, Nothing}
use Rattle.packet.specs.Frame.{chunk_index, piece}
use Rattle.machine.specs.Limits.{slots_of}
use Rattle.machine.specs.Codes.{role_receive, role_send}
use Rattle.machine.specs.Values.{Label, Key, same_key, repeats}
use Rattle.machine.specs.Packet.{Packet, kind, asked, init_label}
use Rattle.ledger.specs.Run.{receive, send, Call, setup, packet, push, wake, report, take_whole}

-- ---- pages

-- a piece: its index and its bytes
pub record Piece : Type 0 where
  pub index : ℕ
  pub bytes : List ℕ

-- a page: what the init that opened it said, and the pieces acknowledged since, the last first
pub record Page : Type 0 where
  pub label : Label
  pub pieces : List Piece

-- the piece last acknowledged for an index
unfoldable pub look : ℕ → List Piece → Option (List ℕ)
look i [] = none
look i (q ∷ l) = cond (eqb i q.index) (some q.bytes) (look i l)

-- "highest index + 1 (0 without pieces)"
unfoldable pub reach : List Piece → ℕ
reach [] = 0
reach (q ∷ l) = max (suc q.index) (reach l)

abbrev pub bytes_or : Option (List ℕ) → List ℕ
bytes_or none = []
bytes_or (some b) = b

-- the pieces of the n indices from i on, joined by index
unfoldable pub join_from : ℕ → ℕ → List Piece → List ℕ
join_from i zero l = []
join_from i (suc n) l = bytes_or (look i l) ++ join_from (suc i) n l

-- their sizes added up
unfoldable pub sizes_from : ℕ → ℕ → List Piece → ℕ
sizes_from i zero l = 0
sizes_from i (suc n) l = length (bytes_or (look i l)) + sizes_from (suc i) n l

-- "the larger of that init's length / 1,300 rounded up and highest index + 1"
abbrev pub count_of : Page → ℕ
count_of g = max (slots_of g.label.total) (reach g.pieces)

-- its pieces joined by index
abbrev pub whole_of : Page → List ℕ
whole_of g = join_from 0 (count_of g) g.pieces

-- demand 3's condition for a done on an open page
pub record Due (g : Page) (count : ℕ) (sum : List ℕ) (known : Bool) : Type 0 where
  pub counted : count ≡ count_of g
  pub filled : (i : ℕ) → i < count → look i g.pieces ≡ none → ⊥
  pub added : sizes_from 0 count g.pieces ≡ g.label.total
  pub summed : sum ≡ blake3 (whole_of g)
  pub keyed : known ≡ true

-- ---- the ledger

-- "open pages by id and a row of finished pages"
pub record Book : Type 0 where
  pub pages : Key → Option Page
  pub row : List Page

-- "the role last set for each store"
pub record Ledger : Type 0 where
  pub recv_role : ℕ
  pub send_role : ℕ
  pub book : Book

abbrev pub no_pages : Book
no_pages = record { pages = λ k. none; row = [] }

-- "at first 1 and 2", "at first none"
unfoldable pub opening : Ledger
opening = record { recv_role = role_receive; send_role = role_send; book = no_pages }

-- the pages with that of one key set
abbrev pub write : Key → Option Page → (Key → Option Page) → Key → Option Page
write k g f j = cond (same_key j k) g (f j)

abbrev pub with_page : Key → Option Page → Book → Book
with_page k g b = record { pages = write k g b.pages; row = b.row }

abbrev pub page_label : Page → Label
page_label g = g.label

-- a page that an init opens: "addresses, topic, length, reply flag, no pieces"
abbrev pub opened : Label → Page
opened h = record { label = h; pieces = [] }

-- "an init equal in these five to its id's open page changes nothing, and any other opens afresh"
unfoldable pub init_in : Option Page → Key → Label → Book → Book
init_in m k h b = cond (repeats page_label m h) b (with_page k (some (opened h)) b)

-- "Chunk: its piece's bytes become those of its index on the open page"
unfoldable pub chunk_in : Option Page → Key → Piece → Book → Book
chunk_in none k q b = b
chunk_in (some g) k q b = with_page k (some (record { label = g.label; pieces = q ∷ g.pieces })) b

-- "Done: the open page goes last in the row"
unfoldable pub done_in : Option Page → Key → Book → Book
done_in none k b = b
done_in (some g) k b = record { pages = write k none b.pages; row = b.row ++ (g ∷ []) }

-- a chunk's piece
abbrev pub piece_of : Packet → Piece
piece_of p = record { index = chunk_index p.frame; bytes = piece p.frame }

-- "Packets here are those without ack, kind by Steps"; "Aborted: the open page goes"
unfoldable pub packet_in : Kind → Packet → Book → Book
packet_in Init p b = init_in (b.pages (asked p)) (asked p) (init_label p) b
packet_in Chunk p b = chunk_in (b.pages (asked p)) (asked p) (piece_of p) b
packet_in Done p b = done_in (b.pages (asked p)) (asked p) b
packet_in Read p b = b
packet_in Aborted p b = with_page (asked p) none b
packet_in AckInit p b = b
packet_in AckChunk p b = b
packet_in AckDone p b = b
packet_in Nothing p b = b

abbrev pub later : List Page → List Page
later [] = []
later (g ∷ l) = l

abbrev pub with_book : Book → Ledger → Ledger
with_book b l = record { recv_role = l.recv_role; send_role = l.send_role; book = b }

-- "Setup notes the role; of the receive store, it also clears pages and row"; "Take: the first page leaves the row"
unfoldable pub enter : Call → Ledger → Ledger
enter (setup receive store role) l = record { recv_role = role; send_role = l.send_role; book = no_pages }
enter (setup send store role) l = record { recv_role = l.recv_role; send_role = role; book = l.book }
enter (packet p out) l = with_book (packet_in (kind p) p l.book) l
enter (push p out) l = l
enter (wake w out) l = l
enter (report id out) l = l
enter (take_whole taken out) l = with_book (record { pages = l.book.pages; row = later l.book.row }) l

-- "Only a call answered 0 changes it"
unfoldable pub ledger : List (Call × ℕ) → Ledger → Ledger
ledger [] l = l
ledger (c ∷ t) l = ledger t (cond (eqb c.1 0) (enter c.0 l) l)
