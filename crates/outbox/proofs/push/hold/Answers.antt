-- The store with the pieces cut has a free record. Assumes nothing.
use Rattle.std.proofs.Common.{rules}
use Rattle.outbox.specs.PushedLaws.{open_ready}
use Rattle.outbox.proofs.push.hold.Goals as goal

pub open_leaving-requires : goal.open_leaving-requires
open_leaving-requires c =
    let times = c.requires.created_lt_number_limit in
    open_ready _ (search rules) _ _ c.requires.pushable (search rules) _ _ times.0 times.1 _ c.cut.ensures
