-- `blake3::tree::parent_node` meets its contract: its block joins the two chaining values. Assumes nothing.
use Rattle.std.proofs.Common.{◌≡◌, ◌-◌, ◌++◌, length, cond, ltb, ◌∙◌, rules}
use lib.Bits.{bit_or}
use Rattle.blake3.specs.Words.{word}
use Rattle.blake3.specs.Tree.{parent_node}
use Rattle.blake3.proofs.Laws.{listed}
use Rattle.blake3.proofs.TableLaws.{tabled}
use Rattle.blake3.proofs.tree.parent_node.Goals as goal

pub returns : goal.returns
unfolding parent_node
returns c =
    let g = c.args in
    let m = g.mode.now in
    let hl : length g.l ≡ 8 = search rules in
    let hr : length g.r ≡ 8 = search rules in
    let made = tabled (λ i. cond (ltb i 8) (word g.l i) (word g.r (i - 8)))
    c.from_fn.ensures.items (λ i y q k. search rules) in
    let e = made ∙ (λ i. listed g.l 8 hl i ++ listed g.r 8 hr i) in
    λ i. record { input = m.key; block = e i; counter = 0; size = 64; flags = bit_or m.flags 4 }
