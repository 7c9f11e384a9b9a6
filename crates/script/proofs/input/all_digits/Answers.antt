use Rattle.std.proofs.Common.{rules, tests, ◌∙◌}
use Rattle.std.proofs.lemmas.Iterator.{YieldsList-from_slice}
use Rattle.std.proofs.lemmas.Iterator.Search.{all_from_yields_List}
use Rattle.script.specs.Input.{is_digit}
use Rattle.script.proofs.Lines.{all-is}
use Rattle.script.proofs.input.all_digits.Goals as goal

pub returns : goal.returns
returns c =
    all_from_yields_List is_digit _ _ _ c.all.ensures.ran (YieldsList-from_slice c.args.s.now cc) (λ x b q k. search (rules, tests))
    ∙ all-is is_digit c.args.s.now
