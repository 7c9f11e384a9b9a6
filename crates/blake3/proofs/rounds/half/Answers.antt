-- `blake3::rounds::half` meets its contract: its rotations are the specification's. Assumes nothing.
use Rattle.std.proofs.Common.{arith}
use Rattle.std.proofs.Math.Nat.{mod-lt}
use Rattle.blake3.specs.Words.{add}
use Rattle.blake3.specs.Rounds.{half}
use Rattle.blake3.proofs.Rotations.{mixed}
use Rattle.blake3.proofs.rounds.half.Goals as goal

pub returns : goal.returns
unfolding half add
returns c =
    let start = c in
    let p = start.requires in
    let d = mixed _ _ _ start.element_fits3 (mod-lt _ (omega arith)) p.0 p.1 c.rotate_right-d.ensures in
    let b = mixed _ _ _ start.element_fits2 (mod-lt _ (omega arith)) p.2 p.3 c.rotate_right-b.ensures in
    rw (b, d)
