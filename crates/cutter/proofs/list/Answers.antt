-- What is read is a length, and the lines fill what the text takes; or it is refused. Assumes nothing.
use Rattle.std.proofs.Common.{rules, refl, sym, ◌∙◌}
use Rattle.cutter.proofs.Listed.{room-all, refused, listed}
use Rattle.cutter.proofs.list.Goals as goal

pub put_cuts-requires : goal.put_cuts-requires
put_cuts-requires c = room-all _ (sym c.is_length.ensures ∙ c.if-is_length.true) _ (search rules)

pub returns-in-Some : goal.returns-in-Some
returns-in-Some c = listed _ _ _ c.in-Some.ensures.value (sym c.is_length.ensures ∙ c.if-is_length.true) c.put_cuts.ensures refl

pub returns-in_default : goal.returns-in_default
returns-in_default c = refused _ _ _ c.in-Some.ensures.value (sym c.is_length.ensures ∙ c.if-is_length.false) refl

pub returns-in_default-2 : goal.returns-in_default-2
returns-in_default-2 c = refused _ _ _ c.in_default.ensures.value refl refl
