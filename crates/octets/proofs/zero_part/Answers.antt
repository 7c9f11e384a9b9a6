-- Assumes nothing.
use Rattle.std.proofs.Common.{arith, ap, ◌∙◌, ◌+◌, take_all}
use Rattle.octets.specs.Octets.{zeros}
use Rattle.octets.specs.PartsLaws.{part_of}
use Rattle.octets.proofs.Loops.{zeros_more}
use Rattle.octets.proofs.zero_part.Goals as goal

pub loop-x-preserved : goal.loop-x-preserved
loop-x-preserved c = zeros_more _ _ _ c.loop-x-test.true c.loop-x.invariant

pub returns : goal.returns
returns c =
    let a = c.args in
    c.loop-x.invariant ∙ ap zeros (take_all _ _ c.loop-x-test.false ∙ part_of a.s.now a.a (a.a + a.n) a.n (omega arith))
