-- The invariant: the spot from the link that is reached is the spot from the first. Assumes nothing.
use Rattle.pieces.proofs.Walks.{Seeking}
use Rattle.pieces.proofs.link.CellLink.seek.Given as goal

abbrev pub invariant-loop-n : goal.invariant-loop-n
invariant-loop-n l = Seeking l.self.store.now l.self.at l.index l.here l.n
