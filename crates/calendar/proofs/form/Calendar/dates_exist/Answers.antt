-- `calendar::form::Calendar::dates_exist` meets its contract: the test of each closed date. Assumes nothing.
use Rattle.std.proofs.Common.{rules, tests, refl, ◌∙◌, arith}
use Rattle.std.proofs.lemmas.Iterator.{YieldsList-from_range}
use Rattle.std.proofs.lemmas.Iterator.Search.{all_from_yields_List}
use Rattle.calendar.specs.Calendar.{number, closed_date, listable}
use Rattle.calendar.proofs.Every.{every-range}
use Rattle.calendar.proofs.form.Calendar.dates_exist.Goals as goal

pub returns : goal.returns
returns c =
    let b = c.args.self.now.bytes.now in
    all_from_yields_List (λ i. listable (closed_date b i)) _ _ _ c.all.ensures.ran
    (YieldsList-from_range 0 c.number.result (number b) refl (omega arith)) (λ x b q k. search (rules, tests))
    ∙ every-range _ (number b)
