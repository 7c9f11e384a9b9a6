-- `topic::book::Book::admits` meets its contract: the first entry of the topic decides. Assumes nothing.
use Rattle.std.proofs.Common.{ℕ, ◌≡◌, refl, sym, ap, ◌∙◌, Bool, List, [], ◌∷◌, Some, None, option_map, rules, tests}
use Rattle.std.proofs.lemmas.Iterator.Search.{find_from_yields_List}
use Rattle.std.proofs.lemmas.Option.{same_Some}
use Rattle.std.specs.List.{find}
use Rattle.octets.specs.BoolsLaws.{cases}
use Rattle.octets.specs.Octets.{same}
use Rattle.topic.specs.Book.{Entry, within, admitted_by}
use Rattle.topic.specs.Held.{held_entry, held_entries}
use Rattle.topic.proofs.Tests.{same-is, yields-entries}
use Rattle.topic.proofs.book.Book.admits.Goals as goal
use Rattle.topic.proofs.book.Book.admits.Goals.{After-find}

module _ (accepts : Bool) (topic source : List ℕ) where
  by_found : (l : List Entry) (e : Entry) → Some e ≡ find (λ x. same x.topic topic) l → within source e.subnets ≡ admitted_by accepts l topic source
  unfolding admitted_by
  by_found [] e h = cc
  by_found (x ∷ l) e h =
      cases (same x.topic topic)
      (λ t. let k = rw t at h in rw t (ap (λ (y : Entry). within source y.subnets) (same_Some e x k)))
      (λ t. let k = rw t at h in rw t (by_found l e k))

  by_none : (l : List Entry) → None ≡ find (λ x. same x.topic topic) l → accepts ≡ admitted_by accepts l topic source
  unfolding admitted_by
  by_none [] h = refl
  by_none (x ∷ l) h = cases (same x.topic topic) (λ t. let k = rw t at h in cc) (λ t. let k = rw t at h in rw t (by_none l k))

found : (c : After-find) → option_map held_entry c.find.result ≡ find (λ e. same e.topic c.args.topic.now) (held_entries c.args.self.now.entries)
found c =
    find_from_yields_List (λ e. same e.topic c.args.topic.now) c.find.new.self _ c.find.result c.find.ensures.ran
    (yields-entries c.args.self.now.entries) (λ x b q k. search (rules, tests, same-is))

pub returns-in-Some : goal.returns-in-Some
returns-in-Some c =
    c.admits.ensures
    ∙ by_found _ _ c.args.source.now _ (held_entry c.in-Some.entry)
    (sym (ap (option_map held_entry) c.in-Some.is) ∙ found (goal.at.returns-in-Some c).After-find)

pub returns-in-None : goal.returns-in-None
returns-in-None c =
    by_none _ _ c.args.source.now _ (sym (ap (option_map held_entry) c.in-None.is) ∙ found (goal.at.returns-in-None c).After-find)
