-- What is read is the start of the input, whose lines are the input's.
use Rattle.std.proofs.Common.{take, arith}
use Rattle.classroom.proofs.Start.{lines_of}
use Rattle.classroom.proofs.lines.Goals as goal

pub returns-clause-value : goal.returns-clause-value
returns-clause-value g c =
    lines_of
    (g.R.Read.remaining c.args.input)
    2008
    c.in_ok-bytes.bytes.items
    c.deref.result.now
    (take c.classroom.result c.classroom.new.lines)
    c.in_ok-bytes.ensures
    (omega arith)
    c.deref.ensures.value
    c.classroom.ensures.0
