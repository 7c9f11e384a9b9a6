-- Assumes nothing.
use native.Mathlib.Omega.{arith}
use Rattle.std.proofs.Common.{ap}
use Rattle.machine.specs.Sound.{sizes}
use Rattle.records.specs.MetLaws.{total_short}
use Rattle.inbox.proofs.done.refusal.Goals as goal

pub sum-requires : goal.sum-requires
sum-requires c =
    let h = c.args.held in
    omega (
      arith,
      ap sizes c.pieces-3.ensures,
      ap sizes c.pieces-2.ensures,
      c.size.ensures,
      c.if-size-total.false,
      total_short _ _ _ _ h.row.octets h.held c.total.ensures,
    )
