use Rattle.std.proofs.Common.{◌∙◌, arith}
use Rattle.std.proofs.lemmas.List.{length-replicate}
use Rattle.blake3.specs.Tree.{byte_at, bytes}
use Rattle.blake3.proofs.TableLaws.{filled}
use Rattle.blake3.proofs.output.bytes.Goals as goal

pub returns : goal.returns
unfolding bytes
returns g c =
    let l = c.loop-k in
    filled (byte_at c.args.w.now) l.all g.row.N
    (l.auto.all ∙ length-replicate g.row.N 0) (λ k q. l.invariant k (omega arith))
