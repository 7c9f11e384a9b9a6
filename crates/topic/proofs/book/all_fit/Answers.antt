-- `topic::book::all_fit` meets its contract: the test of each entry. Assumes nothing.
use Rattle.std.proofs.Common.{◌∙◌, rules, tests}
use Rattle.std.proofs.lemmas.Iterator.Search.{all_from_yields_List}
use Rattle.topic.specs.Book.{Entry, fits}
use Rattle.topic.specs.Held.{held_entries}
use Rattle.topic.proofs.Tests.{all-is, yields-entries}
use Rattle.topic.proofs.book.all_fit.Goals as goal

pub returns : goal.returns
returns c =
    let s = c.args.entries in
    all_from_yields_List (λ e. fits e.subnets) c.all.new.self _ _ c.all.ensures.ran (yields-entries s) (λ x b q k. search (rules, tests))
    ∙ all-is (λ (e : Entry). fits e.subnets) (held_entries s)
