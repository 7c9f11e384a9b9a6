use Rattle.std.proofs.Common.{◌+◌, ◌-◌, cond, ltb, rules, bit_xor}
use Rattle.blake3.specs.Words.{word}
use Rattle.blake3.proofs.TableLaws.{tabled}
use Rattle.blake3.proofs.node.finish.Goals as goal

pub returns : goal.returns
returns c =
    let g = c.args in
    tabled (λ i. bit_xor (word g.v i) (cond (ltb i 8) (word g.v (i + 8)) (word g.h (i - 8))))
    c.from_fn.ensures.items (λ i y q k. search rules)
