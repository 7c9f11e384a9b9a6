use Rattle.std.proofs.Common.{rules, arith, ◌≤◌, length}
use Rattle.lesson.proofs.Shows.{read, shown, shown-nothing}
use Rattle.lesson.proofs.show.classroom.Goals as goal

pub lesson-requires : goal.lesson-requires
lesson-requires c = ((read _ _ _ c.in-Some.ensures).short, search rules)

pub returns-in-Some : goal.returns-in-Some
returns-in-Some c =
    let room : 1020 ≤ length c.args.lines.now = search rules in (
      shown _ _ _ _ (read _ _ _ c.in-Some.ensures) c.lesson.ensures.0,
      omega (arith, c.lesson.ensures.1, c.lesson.auto.lines, room),
    )

pub returns-in-None : goal.returns-in-None
returns-in-None c = (shown-nothing _ c.in-None.ensures, omega arith)
