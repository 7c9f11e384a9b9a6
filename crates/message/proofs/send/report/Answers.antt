-- Assumes nothing.
use mathlib.Core.Path.{◌≡◌, refl, sym, ◌∙◌}
use mathlib.Core.Bool.{true}
use Rattle.machine.specs.Codes.{role_send}
use Rattle.machine.specs.Sound.{sound}
use Rattle.machine.specs.Refusals.{refusal}
use Rattle.machine.specs.Report.{report_row, report_of}
use Rattle.message.proofs.send.report.Goals as goal
use Rattle.message.proofs.send.report.Goals.{Else-not-sound}

pub returns-then-not-sound : goal.returns-then-not-sound
unfolding report_of report_row refusal
returns-then-not-sound c =
    rw (sym c.sound.ensures ∙ c.if-not-sound.true) refl

-- the store is sound
sounds : (c : Else-not-sound) → sound role_send c.args.send.now ≡ true
sounds c = sym c.sound.ensures ∙ c.if-not-sound.false

pub returns : goal.returns
unfolding report_of report_row refusal
returns c = let done = c in rw (sounds (goal.at.returns c).Else-not-sound) done.report.ensures
