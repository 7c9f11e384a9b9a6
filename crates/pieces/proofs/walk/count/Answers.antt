-- Assumes nothing.
use native.Mathlib.Omega.{arith}
use Rattle.std.proofs.Common.{refl}
use Rattle.std.proofs.lemmas.Iterator.Consumers.{YieldsList-from_first, count_from_yields_List}
use Rattle.soundness.specs.Places.{piece_of, pieces_left}
use Rattle.pieces.proofs.Walks.{few}
use Rattle.pieces.proofs.walk.count.Goals as goal

pub returns : goal.returns
returns c =
    let p = c.args.pieces in
    let e = count_from_yields_List _ _ c.count.ensures.ran (YieldsList-from_first piece_of pieces_left (pieces_left p) refl) in
    (e, omega (arith, e, few p))
