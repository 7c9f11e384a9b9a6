-- Assumes nothing.
use Rattle.pieces.proofs.Spots.{links_here, first_in}
use Rattle.pieces.proofs.held.PieceLink.find.Goals as goal

pub invariant_of-first : goal.invariant_of-first
invariant_of-first g c =
    let h = c.args.held in
    record { links = links_here _ _ _ h.row.octets h.held; inside = first_in _ _ _ h.row.octets h.held c.first_link.ensures }
