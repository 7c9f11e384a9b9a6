-- The front and then the item. Assumes nothing.
use native.Mathlib.Omega.{arith}
use mathlib.Core.Path.{refl}
use lib.ListN.{length-append}
use Rattle.cutter.specs.Text.{item}
use Rattle.cutter.proofs.FrontsLaws.{wrote_then}
use Rattle.cutter.proofs.lines.put_behind.Goals as goal

pub returns : goal.returns
returns c =
    let v = c.args in
    let written = c.put_item.ensures in
    wrote_then (record { is = c.copy_in.ensures; ends = refl }) (record { is = written.0; ends = written.1 })
    (omega (arith, c.requires, length-append v.front.now (item v.n v.end)))
