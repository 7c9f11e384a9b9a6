-- Assumes nothing.
use Rattle.std.proofs.Common.{arith, ap, ◌∙◌, ◌+◌, length, replicate}
use Rattle.std.proofs.lemmas.List.{length-replicate}
use Rattle.octets.specs.PartsLaws.{length_part, part_of}
use Rattle.octets.proofs.Loops.{put_is}
use Rattle.octets.proofs.fill.Goals as goal

pub returns : goal.returns
returns c =
    let a = c.args in
    let e = part_of a.d.now a.a (a.a + a.n) a.n (omega arith) in
    put_is _ _ _ _ _ (c.fill.ensures.after (λ y e. e) ∙ ap (λ l. replicate (length l) a.v) e ∙ ap (λ n. replicate n a.v) (length_part _ _ _ c.requires))
    (omega (arith, length-replicate a.n a.v))
