-- What the plan comes to, and what it promises, against the receiver's own calls: the list given is kept and finished, no list that is kept and finished
-- is greater, and up to 32,500 bytes there is none exactly where no list is kept. For every sender whose topic is open and whose key is known, and
-- whatever the pieces hold. Assumes nothing.
use Rattle.std.specs.Prelude.{ℕ, ◌≤◌, ◌<◌, ◌≡◌, refl, true, false, cond, List, [], ◌∷◌, map, length, replicate}
use Rattle.std.proofs.Common.{arith, sym, ap, ◌∙◌}
use Rattle.std.proofs.Math.Option.{none, some, none-ne-some, some-injective}
use Rattle.std.proofs.lemmas.List.{length-map, length-replicate}
use Rattle.octets.specs.Octets.{capacity, Bytes}
use Rattle.octets.specs.BoolsLaws.{cases}
use Rattle.octets.specs.Lists.{All}
use Rattle.octets.specs.ListsLaws.{all-to}
use Rattle.topic.specs.Book.{starts, well_formed, distinct, admits, admitted_by}
use Rattle.machine.specs.Limits.{longest, most_cells}
use Rattle.machine.specs.Layout.{number_limit}
use Rattle.machine.specs.Refusals.{refusal}
use Rattle.machine.specs.Packet.{packet_room}
use Rattle.machine_laws.specs.Fields.{bytes-zeros}
use Rattle.ledger.specs.Run.{fresh_stores}
use Rattle.kept.specs.Sizes.{less}
use Rattle.kept.specs.Survey.{Sender, Open, calls_of, accepted, MadeWhole}
use Rattle.kept.specs.Kept.{keeps}
use Rattle.kept.proofs.KeepsLaws.{keeps-facts}
use Rattle.kept.proofs.ExactlyLaws.{kept-exactly, kept_whole}
use Rattle.planner.specs.Plan.{planner, pieces_of, is_kept, lists_of, plan_for}
use Rattle.planner.proofs.FirstLaws.{Listed, lists-listed, first-none, first-greatest}
use Rattle.planner.proofs.FormLaws.{listed-planned, planned-kept, planned-greatest, planned-none}
use Rattle.planner.specs.Form.{planned, plannable}

-- ---- the planner's own sender

planner-open : Open planner
unfolding refusal well_formed starts distinct admits admitted_by
planner-open = record {
  id = (refl, bytes-zeros 8);
  from = (refl, bytes-zeros 16);
  to = (refl, bytes-zeros 16);
  topic = (omega arith, bytes-zeros 0);
  rules = refl;
  known = refl;
}

pieces-bytes : (sizes : List ℕ) → All Bytes (pieces_of sizes)
pieces-bytes [] = tt
pieces-bytes (n ∷ l) = (bytes-zeros n, pieces-bytes l)

pieces-sizes : (sizes : List ℕ) → map length (pieces_of sizes) ≡ sizes
pieces-sizes [] = refl
pieces-sizes (n ∷ l) = λ i. length-replicate {A = ℕ} n 0 i ∷ pieces-sizes l i

short-number : (total : ℕ) → total ≤ longest → total < number_limit
unfolding capacity
short-number total h = omega arith

is-kept : (total : ℕ) (sizes : List ℕ) → total ≤ longest → is_kept total sizes ≡ keeps total most_cells sizes
unfolding is_kept
is-kept total sizes h =
    kept-exactly planner planner-open most_cells 1 (omega arith) (omega arith) (omega arith) (omega arith) (replicate packet_room 0)
    (omega (arith, length-replicate {A = ℕ} packet_room 0))
    total (short-number total h) (pieces_of sizes) (pieces-bytes sizes)
    ∙ ap (keeps total most_cells) (pieces-sizes sizes)

-- ---- what it comes to

-- "1,364 as often as it fits, the rest, zeros", for the numbers of pieces that there are
pub plan-is : (total k : ℕ) → total ≤ longest → plan_for total k ≡ cond (plannable total k) (some (planned k total)) none
unfolding plan_for
plan-is total k h =
    cases (plannable total k)
    (λ e. rw e
    (first-greatest k (is_kept total) (planned k total) (listed-planned k total) (is-kept total (planned k total) h ∙ planned-kept total k h e)
    (λ m s t. planned-greatest total k m s (sym (is-kept total m h) ∙ t))))
    (λ e. rw e
    (first-none (is_kept total) (lists_of k)
    (all-to (Listed k) (λ l. is_kept total l ≡ false) (lists_of k) (λ l s. is-kept total l h ∙ planned-none total k e l s.0) (lists-listed k))))

-- ---- what it promises

module _ (t : Sender) (o : Open t) (d : ℕ) (a : 1 ≤ d) (b : d ≤ most_cells) (out : List ℕ) (room : packet_room ≤ length out) (total k : ℕ)
    (h : total ≤ longest) where
  abbrev kept : (pieces : List (List ℕ)) → All Bytes pieces → accepted (calls_of t total pieces out) (fresh_stores most_cells d)
      ≡ keeps total most_cells (map length pieces)
  kept = kept-exactly t o most_cells d (omega arith) (omega arith) a b out room total (short-number total h)

  -- a plan is for numbers of pieces that there are, and is the closed form
  plan-some : (l : List ℕ) → plan_for total k ≡ some l → (plannable total k ≡ true) × (planned k total ≡ l)
  plan-some l e =
      cases (plannable total k)
      (λ p. (p, some-injective (planned k total) l (sym (plan-is total k h ∙ rw p) ∙ e)))
      (λ p. absurd (none-ne-some l (sym (plan-is total k h ∙ rw p) ∙ e)))

  -- "the list given is kept and finished"
  pub plan-whole : (l : List ℕ) → plan_for total k ≡ some l → (pieces : List (List ℕ)) → All Bytes pieces → map length pieces ≡ l
      → MadeWhole t most_cells d total pieces out
  plan-whole l e pieces y q =
      let p = plan-some l e in
      kept_whole t o most_cells d (omega arith) (omega arith) a b out room total (short-number total h) pieces y
      (rw (q, ← p.1) (planned-kept total k h p.0))

  -- "no greater one is"
  pub plan-greatest : (l : List ℕ) → plan_for total k ≡ some l → (pieces : List (List ℕ)) → All Bytes pieces → length pieces ≡ k
      → accepted (calls_of t total pieces out) (fresh_stores most_cells d) ≡ true → less l (map length pieces) ≡ false
  plan-greatest l e pieces y q u =
      let m : keeps total most_cells (map length pieces) ≡ true = sym (kept pieces y) ∙ u in
      rw (← (plan-some l e).1)
      (planned-greatest total k (map length pieces) (length-map pieces length ∙ q, (keeps-facts total most_cells (map length pieces) m).sized) m)

  -- "31 comes exactly when there is none": where there is no plan, nothing of that number is kept; where there is one, `plan-whole` shows it kept
  pub plan-none : plan_for total k ≡ none → (pieces : List (List ℕ)) → All Bytes pieces → length pieces ≡ k
      → accepted (calls_of t total pieces out) (fresh_stores most_cells d) ≡ false
  plan-none e pieces y q =
      kept pieces y
      ∙ planned-none total k
      (cases (plannable total k) (λ p. absurd (none-ne-some (planned k total) (sym e ∙ plan-is total k h ∙ rw p))) (λ p. p))
      (map length pieces) (length-map pieces length ∙ q)
