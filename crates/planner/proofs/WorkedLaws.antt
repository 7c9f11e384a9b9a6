-- Values of the plan, on both sides of each bound. Assumes nothing.
use Rattle.std.proofs.Common.{arith}
use Rattle.std.specs.Prelude.{◌≡◌, [], ◌∷◌}
use Rattle.std.proofs.Math.Option.{none, some}
use Rattle.planner.specs.Plan.{plan_for}
use Rattle.planner.specs.Form.{planned}
use Rattle.planner.proofs.PlanLaws.{plan-is}

-- 1,301 bytes fit one packet, but the done's count is 2 at least; the second size is then 0
pub two-slots : (plan_for 1301 1 ≡ none) × (plan_for 1301 2 ≡ some (1301 ∷ 0 ∷ []))
unfolding planned
two-slots = (plan-is 1301 1 (omega arith), plan-is 1301 2 (omega arith))

-- top is 0 up to 250 bytes, so there is no second piece; of 251 it is 1
pub above-top : (plan_for 250 2 ≡ none) × (plan_for 251 2 ≡ some (251 ∷ 0 ∷ [])) × (plan_for 500 2 ≡ some (500 ∷ 0 ∷ [])) × (plan_for 500 3 ≡ none)
unfolding planned
above-top = (plan-is 250 2 (omega arith), plan-is 251 2 (omega arith), plan-is 500 2 (omega arith), plan-is 500 3 (omega arith))

-- no bytes are no piece, or one of none
pub no_bytes : (plan_for 0 0 ≡ some []) × (plan_for 0 1 ≡ some (0 ∷ [])) × (plan_for 0 2 ≡ none)
unfolding planned
no_bytes = (plan-is 0 0 (omega arith), plan-is 0 1 (omega arith), plan-is 0 2 (omega arith))

-- 30 pieces want a top of 29 at least, and are the most
pub thirty : (plan_for 7250 30 ≡ none) × (plan_for 7251 30 ≡ some (planned 30 7251)) × (plan_for 32500 30 ≡ some (planned 30 32500)) ×
    (plan_for 32500 31 ≡ none)
unfolding planned
thirty = (plan-is 7250 30 (omega arith), plan-is 7251 30 (omega arith), plan-is 32500 30 (omega arith), plan-is 32500 31 (omega arith))

-- 32,500 bytes want 25 pieces at least
pub longest-message : (plan_for 32500 24 ≡ none) × (plan_for 32500 25 ≡ some (planned 25 32500))
unfolding planned
longest-message = (plan-is 32500 24 (omega arith), plan-is 32500 25 (omega arith))

-- 1,364 as often as it fits, then the rest, then zeros
pub as-large : plan_for 3000 5 ≡ some (1364 ∷ 1364 ∷ 272 ∷ 0 ∷ 0 ∷ [])
unfolding planned
as-large = plan-is 3000 5 (omega arith)
