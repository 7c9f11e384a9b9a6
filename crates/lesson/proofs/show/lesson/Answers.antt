use Rattle.std.proofs.Common.{ap, ◌∙◌}
use Rattle.lesson.specs.Lesson.{pushed}
use Rattle.lesson.proofs.Shows.{lesson-is}
use Rattle.lesson.proofs.show.lesson.Goals as goal

pub returns : goal.returns
returns c =
    lesson-is c.args.n c.args.letters.now _ _ _ _ _ _ (c.push.ensures ∙ ap (pushed c.args.n) c.fresh-room.ensures) c.put_line-end.ensures c.requires.1
    c.put_rounds.ensures
