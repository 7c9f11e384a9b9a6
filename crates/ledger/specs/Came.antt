-- What an accepted chunk leaves in the receive store: its piece is what came, no more and no less.
use Rattle.std.specs.Prelude.{ℕ, ◌≡◌, List, length}
use Rattle.std.proofs.Math.Option.{some}
use Rattle.octets.specs.Octets.{part}
use Rattle.packet.specs.Frame.{chunk_piece_at, chunk_index, chunk_size_field}
use Rattle.machine.specs.Values.{Rec}
use Rattle.machine.specs.Layout.{decode}
use Rattle.machine.specs.Pieces.{piece_bytes}
use Rattle.machine.specs.Receive.{found}
use Rattle.machine.specs.Packet.{Packet, asked}

-- of the packet's bytes those from byte 36 on, as many as its size field says
abbrev pub data_of : Packet → List ℕ
data_of p = part p.frame chunk_piece_at (chunk_size_field p.frame)

-- they are kept at the packet's index, of the survey of its id; so many came, and the field is neither capped nor filled up
pub record Kept (p : Packet) (recv : List ℕ) : Type 0 where
  pub survey : Rec
  pub held : found (asked p) (decode recv).held ≡ some survey
  pub bytes : piece_bytes (chunk_index p.frame) survey.cells ≡ some (data_of p)
  pub size : length (data_of p) ≡ chunk_size_field p.frame
