-- `topic::subnet::agree` meets its contract: whole bytes, and then the first bits of the next. Assumes nothing.
use Rattle.std.proofs.Common.{ℕ, ◌-◌, ◌/◌, ◌%◌, ◌^◌, ◌≡◌, sym, ◌&&◌, eqb, get_or, arith, eq-eqb, ◌∙◌}
use Rattle.topic.specs.Subnet.{inside}
use Rattle.topic.proofs.Tests.{same-is}
use Rattle.topic.proofs.Prefix.{inside-is}
use Rattle.topic.proofs.subnet.agree.Goals as goal
use Rattle.topic.proofs.subnet.agree.Goals.{After-is_same}

-- what the definition says, by what the comparison of the whole bytes gave
told : (c : After-is_same) → inside c.args.a.now c.args.net.now c.args.bits
    ≡ (c.is_same.result && eqb (get_or c.args.a.now c.from-whole.result 0 / 2 ^ (8 - c.args.bits % 8))
    (get_or c.args.net.now c.from-whole.result 0 / 2 ^ (8 - c.args.bits % 8)))
told c =
    inside-is c.args.a.now c.args.net.now (λ i. (c.type_inv.a i).fits) (λ i. (c.type_inv.net i).fits) c.args.bits
    c.from-whole.result c.is_same.result c.from-whole.ensures (omega arith) (omega arith) (c.is_same.ensures ∙ sym (same-is _ _))

pub returns-then-rest-eq0 : goal.returns-then-rest-eq0
returns-then-rest-eq0 c =
    let a : ℕ = get_or c.args.a.now c.from-whole.result 0 in
    let n : ℕ = get_or c.args.net.now c.from-whole.result 0 in
    rw (told (goal.at.returns-then-rest-eq0 c).After-is_same, c.if-is_same.true, c.if-rest-eq0.true)
    (sym (eq-eqb (a / 2 ^ 8) (n / 2 ^ 8) (omega (arith, c.type_inv.a c.from-whole.result, c.type_inv.net c.from-whole.result))))

pub returns-else-rest-eq0 : goal.returns-else-rest-eq0
returns-else-rest-eq0 c = rw (told (goal.at.returns-else-rest-eq0 c).After-is_same, c.if-is_same.true) c.alike.ensures

pub returns-else-is_same : goal.returns-else-is_same
returns-else-is_same c = rw (told (goal.at.returns-else-is_same c).After-is_same, c.if-is_same.false)
