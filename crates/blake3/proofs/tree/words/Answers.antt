use Rattle.std.proofs.Common.{◌+◌, ◌*◌, rules}
use Rattle.blake3.specs.Tree.{word_at}
use Rattle.blake3.proofs.TableLaws.{tabled}
use Rattle.blake3.proofs.tree.words.Goals as goal

pub returns : goal.returns
returns g c =
    tabled (λ k. word_at c.args.s.now (c.args.p + 4 * k)) c.from_fn.ensures.items (λ i y q k. search rules)
