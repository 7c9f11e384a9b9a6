-- The measure is the number of bytes. Assumes nothing.
use Rattle.std.proofs.Common.{length}
use Rattle.blake3.proofs.tree.+subtree.Given as goal

abbrev pub decreases-subtree : goal.decreases-subtree
decreases-subtree l = length l.s.now
