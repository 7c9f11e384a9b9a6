-- Each way out of the row; past it the sizes of the closed form, which is the plan (`plan-is`). Assumes nothing.
use Prim.Native.Nat.{◌*◌, ◌≤◌}
use native.Mathlib.Omega.{arith}
use mathlib.Core.Path.{◌≡◌, sym, ap, ◌∙◌}
use mathlib.Core.Bool.{true, false}
use lib.ListN.{length}
use borrow.Author.Rules.{rules}
use borrow.Author.Tests.{le-leb, lt-leb}
use Rattle.machine.specs.Refusals.{refusal}
use Rattle.planner.specs.Plan.{words, plan_of}
use Rattle.planner.proofs.FormLaws.{length-planned, plannable-facts}
use Rattle.planner.specs.Form.{planned, plannable}
use Rattle.planner.proofs.WordsLaws.{length-words}
use Rattle.planner.proofs.PlanLaws.{plan-is}
use Rattle.planner.proofs.plan.Goals as goal

pub returns-then-out-lt-ROOM : goal.returns-then-out-lt-ROOM
unfolding plan_of refusal
returns-then-out-lt-ROOM c = rw (lt-leb 60 _ c.if-out-lt-ROOM.true)

pub returns-then-total-gt-LONGEST : goal.returns-then-total-gt-LONGEST
unfolding plan_of refusal
returns-then-total-gt-LONGEST c = rw (le-leb 60 _ c.if-out-lt-ROOM.false, lt-leb _ 32500 c.if-total-gt-LONGEST.true)

pub returns-then-not-has_list : goal.returns-then-not-has_list
unfolding plan_of refusal
returns-then-not-has_list c =
    let a = c.args in
    let short : a.total ≤ 32500 = c.if-total-gt-LONGEST.false in
    let none : plannable a.total a.count ≡ false = sym c.has_list.ensures ∙ c.if-not-has_list.true in
    let room = le-leb 60 _ c.if-out-lt-ROOM.false in
    rw (room, le-leb a.total 32500 short, plan-is a.total a.count short, none)

-- there is a list: at most 30 sizes
pub write_sizes-requires : goal.write_sizes-requires
write_sizes-requires c =
    let a = c.args in
    let some : plannable a.total a.count ≡ true = sym c.has_list.ensures ∙ c.if-not-has_list.false in
    omega (arith, (plannable-facts a.total a.count some).1, c.if-out-lt-ROOM.false)

pub overflow_mul-result : goal.overflow_mul-result
overflow_mul-result c =
    let tested = c in
    let a = tested.args in
    let some : plannable a.total a.count ≡ true = sym tested.has_list.ensures ∙ tested.if-not-has_list.false in
    let few : a.count ≤ 30 = (plannable-facts a.total a.count some).1 in
    search rules

pub returns : goal.returns
unfolding plan_of refusal
returns c =
    let written = c in
    let tested = written in
    let a = tested.args in
    let short : a.total ≤ 32500 = tested.if-total-gt-LONGEST.false in
    let some : plannable a.total a.count ≡ true = sym tested.has_list.ensures ∙ tested.if-not-has_list.false in
    let bytes : length (words (planned a.count a.total)) ≡ 2 * a.count =
    length-words (planned a.count a.total) ∙ ap (λ n. 2 * n) (length-planned a.count a.total) in
    let room = le-leb 60 _ tested.if-out-lt-ROOM.false in
    let plan = plan-is a.total a.count short in
    rw (room, le-leb a.total 32500 short, plan, some, bytes, written.write_sizes.ensures)
