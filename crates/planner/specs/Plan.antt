-- C-21: sizes for a length and a number of pieces, by what is asked of them: "sizes, 0 to 1,364, that a fresh receiver of 45 cells, topic open and source
-- key known, would keep from one source at indices from 0 and then finish with that number as count", the greatest of them. Keeping and finishing are the
-- receiver's own calls.
use Rattle.std.specs.Prelude.{ℕ, zero, suc, Bool, false, cond, ◌&&◌, List, [], ◌∷◌, ◌++◌, map, length, replicate, eqb, leb}
use Rattle.std.proofs.Math.Option.{Option, none, some}
use Rattle.octets.specs.Octets.{be, put}
use Rattle.answer.specs.declared.Answer.{Answer}
use Rattle.answer.specs.Answers.{bare, sent}
use Rattle.packet.specs.Frame.{id_size, address_size, largest_piece}
use Rattle.machine.specs.Limits.{longest, most_cells}
use Rattle.machine.specs.Codes.{short_output, no_plan}
use Rattle.machine.specs.Find.{is_some}
use Rattle.machine.specs.Refusals.{Refusals, refusal}
use Rattle.machine.specs.Packet.{packet_room}
use Rattle.ledger.specs.Run.{fresh_stores}
use Rattle.kept.specs.Survey.{Sender, calls_of, accepted}

-- ---- kept and finished

-- a sender whose key is known, to a rule book that takes every topic: any other of that kind is answered the same (`kept-exactly`)
abbrev pub planner : Sender
planner = record {
  id = replicate id_size 0;
  from = replicate address_size 0;
  to = replicate address_size 0;
  reply = false;
  topic = [];
  rules = 0 ∷ [];
  known = 1;
}

-- pieces of these sizes: what they hold does not matter either
abbrev pub pieces_of : List ℕ → List (List ℕ)
pieces_of sizes = map (λ (n : ℕ). replicate n 0) sizes

-- every call of the survey is answered 0
unfoldable pub is_kept : ℕ → List ℕ → Bool
is_kept total sizes = accepted (calls_of planner total (pieces_of sizes) (replicate packet_room 0)) (fresh_stores most_cells 1)

-- ---- the greatest

-- lists with a first size from n down, and then one of some lists
unfoldable pub first_from : ℕ → List (List ℕ) → List (List ℕ)
first_from zero l = map (λ (t : List ℕ). 0 ∷ t) l
first_from (suc n) l = map (λ (t : List ℕ). suc n ∷ t) l ++ first_from n l

-- every list of k sizes from 0 to 1,364: "the greatest first size" first, "then the greatest second, and so on"
unfoldable pub lists_of : ℕ → List (List ℕ)
lists_of zero = [] ∷ []
lists_of (suc k) = first_from largest_piece (lists_of k)

-- the first that passes a test
unfoldable pub first_that : (List ℕ → Bool) → List (List ℕ) → Option (List ℕ)
first_that test [] = none
first_that test (l ∷ g) = cond (test l) (some l) (first_that test g)

-- the plan: of the lists that are kept and finished, the greatest
unfoldable pub plan_for : ℕ → ℕ → Option (List ℕ)
plan_for total k = first_that (is_kept total) (lists_of k)

-- ---- the call

-- sizes as bytes, "2 bytes each"
unfoldable pub words : List ℕ → List ℕ
words [] = []
words (x ∷ l) = be 2 x ++ words l

-- .. of a plan, if there is one
abbrev pub words_of : Option (List ℕ) → List ℕ
words_of none = []
words_of (some l) = words l

pub record PlanOutcome : Type 0 where
  pub answer : Answer
  pub out : List ℕ

-- row 2: "a buffer under 60 bytes"
abbrev pub plan_room : ℕ
plan_room = 60

-- plan 2, 31: "no list of that number of sizes exists or the length is over 32,500, after 2"
abbrev pub plan_row : ℕ → Option (List ℕ) → List ℕ → Refusals
plan_row total plan out = (leb plan_room (length out), short_output) ∷ (leb total longest && is_some plan, no_plan) ∷ []

-- what is left of it, with the number that its row gives: the sizes, and "their byte count is the run length"
abbrev pub plan_at : ℕ → List ℕ → List ℕ → PlanOutcome
plan_at n sizes out =
    cond (eqb n 0) (record { answer = sent (length sizes) 0; out = put out 0 sizes }) (record { answer = bare n; out = out })

unfoldable pub plan_of : ℕ → ℕ → List ℕ → PlanOutcome
plan_of total k out = plan_at (refusal (plan_row total (plan_for total k) out)) (words_of (plan_for total k)) out
