use native.Mathlib.Omega.{arith}
use mathlib.Core.Path.{refl}
use Rattle.lesson.proofs.Lines.{next, line-is}
use Rattle.lesson.proofs.text.put_line.Goals as goal

pub returns : goal.returns
returns c =
    let start = c in
    let text = start.args.text.now in
    let at = start.args.at in
    let one = c.put_item-a.ensures in
    let two = next text _ _ at _ _ _ _ 4 4 one c.put_item-b.ensures (omega arith) in
    let three = next text _ _ at _ _ _ _ 8 4 two c.put_item-c.ensures (omega arith) in
    let four = next text _ _ at _ _ _ _ 12 4 three c.put_item-d.ensures (omega arith) in
    let five = next text _ _ at _ _ _ _ 16 4 four c.put_item.ensures (omega arith) in
    line-is text _ start.args.send.now _ at _ start.args.k _
    c.report.ensures refl five
