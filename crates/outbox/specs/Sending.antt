-- What is sent of a record and of its pieces, on bytes.
use Rattle.std.specs.Prelude.{ℕ, ◌+◌, ◌*◌, ◌≤◌, ◌≡◌, cond, List, [], ◌++◌, length, get_or}
use Rattle.octets.specs.Octets.{put}
use Rattle.packet.specs.declared.label.Label as carried
use Rattle.packet.specs.Frame.{chunk_piece_at}
use Rattle.packet.specs.Named.{Named}
use Rattle.packet.specs.Outgoing.{entry, chunk_packet}
use Rattle.packet.specs.Room.{entry_front}
use Rattle.machine.specs.Limits.{cut_by}
use Rattle.machine.specs.Codes.{piece_sent}
use Rattle.machine.specs.Values.{Cell, Rec, Store}
use Rattle.machine.specs.Layout.{count_at, read_cell, encode}
use Rattle.machine.specs.Choice.{chosen}
use Rattle.machine.specs.Send.{chunks_out, all_acked, done_out, unsettled, aborted_out}
use Rattle.machine_writes.specs.Links.{Links}
use Rattle.pieces.specs.InPlace.{remarked}

-- a chunk under a label: its offset is 1,300 times its index
abbrev pub chunk_of : carried.Label → Cell → List ℕ
chunk_of l c = entry l.source l.destination (chunk_packet l.id c.index (cut_by * c.index) c.bytes)

-- ---- what is asked and given

-- what stands before a piece in a run
abbrev pub chunk_front : ℕ
chunk_front = entry_front + chunk_piece_at

-- a cell of bytes with links in range, and room for its piece as a chunk
pub record Ready (b : List ℕ) (l : carried.Label) (k room : ℕ) : Type 0 where
  pub links : Links b
  pub some : 1 ≤ k
  pub most : k ≤ get_or b count_at 0
  pub named : Named l
  pub fits : chunk_front + length (read_cell b k).bytes ≤ room

-- the piece of the cell at place k was sent: it takes r bytes at the start of the run
pub record Sends (clock : ℕ) (l : carried.Label) (k : ℕ) (b run : List ℕ) (r : ℕ) (b' run' : List ℕ) : Type 0 where
  pub ends : r ≡ length (chunk_of l (read_cell b k))
  pub store : b' ≡ remarked b k clock piece_sent
  pub inside : r ≤ length run
  pub out : run' ≡ put run 0 (chunk_of l (read_cell b k))

-- `sent` stands at the start of the run, which goes on at r
pub record Starts (sent run : List ℕ) (r : ℕ) (run' : List ℕ) : Type 0 where
  pub ends : r ≡ length sent
  pub out : run' ≡ put run 0 sent

-- a record was woken: it sent that, with n pieces in it, those, and the store became s
pub record Wakes (s : Store) (sent : List ℕ) (those : List Cell) (run : List ℕ) (r n : ℕ) (b' run' : List ℕ) : Type 0 where
  pub starts : Starts sent run r run'
  pub counts : n ≡ length those
  pub store : b' ≡ encode s

-- what a record in progress sends: the chosen pieces, or the done
abbrev pub progress_out : ℕ → Rec → List ℕ
progress_out clock r = chunks_out r.label (chosen clock r.cells) ++ cond (all_acked r.cells) (done_out r) []

-- the aborted packet of a record in state 0 or 1
abbrev pub aborted_of : Rec → List ℕ
aborted_of r = cond (unsettled r) (aborted_out r.label) []
