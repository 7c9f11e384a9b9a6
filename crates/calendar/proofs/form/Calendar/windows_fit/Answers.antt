-- `calendar::form::Calendar::windows_fit` meets its contract: the test of each weekday. Assumes nothing.
use Rattle.std.proofs.Common.{rules, tests, refl, ◌∙◌}
use Rattle.std.proofs.lemmas.Iterator.{YieldsList-from_range}
use Rattle.std.proofs.lemmas.Iterator.Search.{all_from_yields_List}
use Rattle.calendar.specs.Days.{week_days}
use Rattle.calendar.specs.Calendar.{window_of, fits}
use Rattle.calendar.proofs.Every.{every-range}
use Rattle.calendar.proofs.form.Calendar.windows_fit.Goals as goal

pub returns : goal.returns
returns c =
    all_from_yields_List (λ w. fits (window_of c.args.self.now.bytes.now w)) _ _ _ c.all.ensures.ran
    (YieldsList-from_range 0 week_days week_days refl refl) (λ x b q k. search (rules, tests))
    ∙ every-range _ week_days
