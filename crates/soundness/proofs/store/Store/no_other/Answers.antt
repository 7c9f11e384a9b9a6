-- The closure computes the test of each record. Assumes nothing.
use Rattle.std.proofs.Common.{refl, rules, tests}
use Rattle.std.proofs.lemmas.Iterator.Search.{all_from_yields_List}
use Rattle.std.proofs.lemmas.Iterator.Consumers.{YieldsList-from_first}
use Rattle.soundness.specs.Places.{places}
use Rattle.soundness.specs.Walked.{unlike}
use Rattle.soundness.proofs.store.Store.no_other.Goals as goal

pub returns : goal.returns
returns c =
    all_from_yields_List (unlike c.args.self.bytes.now c.args.x.number) c.all.new.self _ _ c.all.ensures.ran
    (YieldsList-from_first (λ y. y.number) places (places c.args.records) refl) (λ y b q k. search (rules, tests))
