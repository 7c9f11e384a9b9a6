use Rattle.std.proofs.Common.{rules, tests, sym, ◌∙◌}
use Rattle.std.proofs.lemmas.Iterator.{YieldsList-from_slice}
use Rattle.std.proofs.lemmas.Iterator.Search.{position_from_yields_List}
use Rattle.script.proofs.Lines.{ends_line, two-parts, one-part}
use Rattle.script.proofs.input.cut_line.Goals as goal

pub returns-in-Some : goal.returns-in-Some
returns-in-Some c =
    two-parts _ _ (sym c.in-Some.is ∙ position_from_yields_List ends_line _ _ c.position.result c.position.ensures.ran
    (YieldsList-from_slice c.args.s.now cc) (λ x b q k. search (rules, tests)))

pub returns-in-None : goal.returns-in-None
returns-in-None c =
    one-part _ (sym c.in-None.is ∙ position_from_yields_List ends_line _ _ c.position.result c.position.ensures.ran
    (YieldsList-from_slice c.args.s.now cc) (λ x b q k. search (rules, tests)))
