use Rattle.std.proofs.Common.{rules, tests, ◌∙◌}
use Rattle.std.proofs.lemmas.Iterator.{YieldsList-from_slice}
use Rattle.std.proofs.lemmas.Iterator.Search.{any_from_yields_List}
use Rattle.topic.specs.Book.{Subnet}
use Rattle.topic.specs.Subnet.{contains_of}
use Rattle.topic.specs.Held.{held_subnet}
use Rattle.topic.proofs.Tests.{any-map}
use Rattle.topic.proofs.entry.Entry.admits.Goals as goal

pub returns : goal.returns
returns c =
    any_from_yields_List (λ x. contains_of (held_subnet x).net (held_subnet x).bits c.args.source.now) _ _ _ c.any.ensures.ran
    (YieldsList-from_slice c.args.self.now.subnets.now cc) (λ x b q k. search (rules, tests))
    ∙ any-map held_subnet (λ (s : Subnet). contains_of s.net s.bits c.args.source.now) c.args.self.now.subnets.now
