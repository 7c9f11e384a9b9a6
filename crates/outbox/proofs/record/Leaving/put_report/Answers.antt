-- The writes, each right behind the last. Assumes nothing.
use native.Mathlib.Omega.{arith}
use mathlib.Core.Path.{◌≡◌, refl, ap, ◌∙◌}
use lib.ListN.{length}
use Rattle.octets.specs.NumbersLaws.{length-be}
use Rattle.octets.specs.WrittenLaws.{wrote, then}
use Rattle.machine.specs.Layout.{rec_of}
use Rattle.machine.specs.Report.{reported}
use Rattle.outbox.proofs.record.Leaving.put_report.Goals as goal

pub returns : goal.returns
unfolding reported rec_of
returns c =
    let long : length c.destination.result.now ≡ 16 = ap length c.destination.ensures ∙ c.args.self.here.sized.destination.0 in
    let w1 = wrote c.copy_in.ensures long (omega arith) in
    let w2 = then _ 4 w1 c.copy_in-2.ensures refl (omega arith) in
    let w3 = then _ 8 w2 c.write.ensures (length-be 8 _) (omega arith) in
    let w4 = then _ 8 w3 c.write-2.ensures (length-be 8 _) (omega arith) in
    let w5 = then _ 8 w4 c.write-3.ensures (length-be 8 _) (omega arith) in
    rw (
      c.destination.ensures,
      c.state.ensures,
      c.counted.ensures,
      c.counted-2.ensures,
      c.counted-3.ensures,
      c.created.ensures,
      c.end.ensures,
      c.total.ensures,
    ) at w5.is
