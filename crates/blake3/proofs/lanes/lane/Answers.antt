use Rattle.std.proofs.Common.{rules}
use Rattle.blake3.specs.Lanes.{in_lane, lane}
use Rattle.blake3.proofs.TableLaws.{tabled}
use Rattle.blake3.proofs.lanes.lane.Goals as goal

pub returns : goal.returns
unfolding lane
returns g c = tabled (in_lane c.args.v.now c.args.j) c.from_fn.ensures.items (λ i y q k. search rules)
