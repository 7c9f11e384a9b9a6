use mathlib.Core.Path.{refl}
use Rattle.outbox.proofs.Lines.{move-on, move-end}
use Rattle.outbox.proofs.choice.move_in.Goals as goal

pub loop-i-init : goal.loop-i-init
loop-i-init c = record { long = c.requires; gives = refl }

pub loop-i-preserved : goal.loop-i-preserved
loop-i-preserved c = move-on c.loop-i.invariant c.loop-i-test.true

pub returns : goal.returns
returns c = move-end c.loop-i.invariant c.loop-i-test.false
