-- Assumes nothing.
use Rattle.std.proofs.Common.{ap, ◌∙◌}
use Rattle.machine.specs.Values.{Key}
use Rattle.machine.specs.Layout.{encode, decode}
use Rattle.machine.specs.Receive.{drop_step}
use Rattle.records.specs.RefuseLaws.{clears, unknown_step, known_step}
use Rattle.inbox.proofs.aborted.abort.Goals as goal

pub returns-in_default : goal.returns-in_default
returns-in_default c = unknown_step _ _ _ _ c.in_default.ensures

pub returns : goal.returns
returns c =
    let f = c.in-Some.ensures in
    known_step _ _ _ _ _ _ f.2 clears (c.drop.ensures ∙ ap (λ (k : Key). encode (drop_step k (decode c.args.recv.now))) f.3)
