-- `topic::book::is_listed` meets its contract: the test of each entry. Assumes nothing.
use Rattle.std.proofs.Common.{◌∙◌, rules, tests}
use Rattle.std.proofs.lemmas.Iterator.Search.{any_from_yields_List}
use Rattle.octets.specs.Octets.{same}
use Rattle.topic.specs.Book.{Entry}
use Rattle.topic.specs.Held.{held_entries}
use Rattle.topic.proofs.Tests.{any-is, same-is, yields-entries}
use Rattle.topic.proofs.book.is_listed.Goals as goal

pub returns : goal.returns
returns c =
    let s = c.args.entries in
    let t = c.args.topic.now in
    any_from_yields_List (λ e. same e.topic t) c.any.new.self _ _ c.any.ensures.ran (yields-entries s)
    (λ x b q k. search (rules, tests, same-is))
    ∙ any-is (λ (e : Entry). same e.topic t) (held_entries s)
