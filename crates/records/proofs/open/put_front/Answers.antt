-- Assumes nothing.
use mathlib.Core.Path.{◌∙◌}
use Rattle.octets.specs.BoolsLaws.{one_is}
use Rattle.records.proofs.Opens.{front-is}
use Rattle.records.proofs.open.put_front.Goals as goal

pub returns : goal.returns
returns c =
    front-is _ _ _ _ _ _ _ _ _ _ _ c.requires.0 c.requires.1 (c.from.ensures ∙ one_is _) c.slots.ensures
    c.copy_in.ensures c.copy_in-2.ensures c.copy_in-3.ensures c.copy_in-4.ensures
