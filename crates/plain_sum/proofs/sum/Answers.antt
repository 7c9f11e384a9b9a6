-- What is read is the start of the input, whose line is the input's.
use Rattle.std.proofs.Common.{arith}
use Rattle.plain_sum.proofs.Start.{line_of}
use Rattle.plain_sum.proofs.sum.Goals as goal

pub returns : goal.returns
returns g c =
    line_of (g.R.Read.remaining c.args.input) 65537 c.in_ok-bytes.bytes.items c.deref.result.now _ c.in_ok-bytes.ensures (omega arith)
    c.deref.ensures.value c.line.ensures
