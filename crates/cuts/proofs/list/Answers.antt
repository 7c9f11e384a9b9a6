-- What is read is the start of the input, whose list is the input's.
use Rattle.std.proofs.Common.{rules, arith}
use Rattle.cuts.proofs.Start.{within, list_of}
use Rattle.cuts.proofs.list.Goals as goal

pub returns-clause-in_bounds : goal.returns-clause-in_bounds
returns-clause-in_bounds g c = within _ _ _ _ _ c.list.ensures c.unwrap_or.ensures (search rules)

pub returns-clause-value : goal.returns-clause-value
returns-clause-value g c =
    list_of _ _ _ _ _ c.list.ensures c.unwrap_or.ensures (g.R.Read.remaining c.args.input) 7 c.in_ok-bytes.bytes.items c.in_ok-bytes.ensures (omega arith)
    c.deref.ensures.value
