use Rattle.std.proofs.Common.{◌≡◌, ℕ, ◌/◌, length, subst, arith}
use Rattle.blake3.specs.Tree.{block_len}
use Rattle.blake3.proofs.FillLaws.{Filled, filled_none, filled_more, filled-all, filled-rest}
use Rattle.blake3.proofs.output.fill.Goals as goal

pub loop-i-init : goal.loop-i-init
loop-i-init c = filled_none c.args.n.now _

pub loop-i-preserved : goal.loop-i-preserved
loop-i-preserved c =
    let l = c.loop-i in
    filled_more _ _ l.i l.invariant c.block.ensures c.copy_in.ensures (omega arith)

pub returns-then-rest-gt0 : goal.returns-then-rest-gt0
returns-then-rest-gt0 c =
    let l = c.loop-i in
    let r = c.args.n.now in
    let out = c.args.out.now in
    let whole = length out / block_len in
    let e : l.i ≡ whole = omega arith in
    let so_far = subst (λ (i : ℕ). Filled r out i l.out) e l.invariant in
    filled-rest r out whole so_far _ c.block-then-rest-gt0.ensures c.copy_in-then-rest-gt0.ensures
    (omega arith) (omega arith)

pub returns-else-rest-gt0 : goal.returns-else-rest-gt0
returns-else-rest-gt0 c =
    let l = c.loop-i in
    filled-all _ _ l.i l.invariant (omega arith)
