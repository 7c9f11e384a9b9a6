-- Assumes nothing.
use mathlib.Core.Path.{ap, ◌∙◌}
use Rattle.std.proofs.Common.{rules}
use Rattle.blake3.specs.Tree.{blake3}
use Rattle.pieces.proofs.Sums.{sum_of}
use Rattle.pieces.proofs.walk.sum.Goals as goal

pub returns : goal.returns
returns c = c.hash.ensures ∙ ap blake3 (sum_of _ _ _ _ (search rules) c.join-n.ensures.0 c.join-n.ensures.1)
