-- Assumes nothing.
use native.Mathlib.Omega.{arith}
use Rattle.std.proofs.Common.{◌+◌, ap, ◌∙◌}
use Rattle.octets.specs.Octets.{part}
use Rattle.octets.specs.PartsLaws.{part_of}
use Rattle.machine.specs.Layout.{cell_of}
use Rattle.soundness.proofs.pieces.Piece.bytes.Goals as goal

pub returns : goal.returns
unfolding cell_of
returns c =
    let row = c.args.self.row.now in
    part_of row 16 (16 + c.size-end.result) c.size-end.result (omega arith) ∙ ap (part row 16) c.size-end.ensures.0
