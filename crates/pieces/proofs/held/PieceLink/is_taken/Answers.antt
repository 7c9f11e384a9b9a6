-- Assumes nothing.
use Rattle.pieces.proofs.Spots.{taken}
use Rattle.pieces.proofs.held.PieceLink.is_taken.Goals as goal

pub returns : goal.returns
returns g c = let l = c.args.self in taken _ _ _ l.held.row.octets l.held.held l.spot c.holds.ensures
