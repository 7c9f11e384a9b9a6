-- `topic::entry::Entry::fits` meets its contract: the test of each subnet. Assumes nothing.
use Rattle.std.proofs.Common.{rules, tests, leb, ◌∙◌}
use Rattle.std.proofs.lemmas.Iterator.{YieldsList-from_slice}
use Rattle.std.proofs.lemmas.Iterator.Search.{all_from_yields_List}
use Rattle.topic.specs.Book.{Subnet}
use Rattle.topic.specs.Subnet.{prefix_most}
use Rattle.topic.specs.Held.{held_subnet}
use Rattle.topic.proofs.Tests.{all-map}
use Rattle.topic.proofs.entry.Entry.fits.Goals as goal

pub returns : goal.returns
returns c =
    let l = c.args.self.now.subnets.now in
    all_from_yields_List (λ x. leb (held_subnet x).bits prefix_most) _ _ _ c.all.ensures.ran (YieldsList-from_slice l cc)
    (λ x b q k. search (rules, tests))
    ∙ all-map held_subnet (λ (s : Subnet). leb s.bits prefix_most) l
