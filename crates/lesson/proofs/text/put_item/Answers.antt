use Rattle.std.proofs.Common.{rules, arith, ap, length}
use Rattle.lesson.proofs.Lines.{item-is, item-short, item-wrote}
use Rattle.lesson.proofs.text.put_item.Goals as goal

pub put_item-requires : goal.put_item-requires
put_item-requires c =
    rw c.from.ensures (omega (arith, c.requires, ap length (item-is c.args.n c.args.end (search rules)), item-short c.args.n c.args.end))

pub returns : goal.returns
returns c = item-wrote c.args.n c.args.end (search rules) _ _ _ _ (rw c.from.ensures at c.put_item.ensures)
