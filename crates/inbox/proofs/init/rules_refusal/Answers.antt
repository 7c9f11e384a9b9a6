-- Assumes nothing.
use Prim.Native.Nat.{ℕ}
use mathlib.Core.Path.{◌≡◌, ◌∙◌}
use mathlib.Core.List.{List, [], ◌∷◌}
use Rattle.octets.specs.BoolsLaws.{cases}
use Rattle.topic.specs.Book.{well_formed, admits}
use Rattle.topic.specs.Admission.{admission_of}
use Rattle.machine.specs.Rules.{number_of}
use Rattle.machine.specs.Refusals.{refusal}
use Rattle.inbox.proofs.init.rules_refusal.Goals as goal

-- a book that is read
book-is : (b topic source : List ℕ) → number_of (admission_of b topic source) ≡ refusal ((well_formed b, 3) ∷ (admits b topic source, 4) ∷ [])
unfolding refusal
book-is b topic source = cases (well_formed b) (λ e. cases (admits b topic source) (λ f. rw (e, f)) (λ f. rw (e, f))) (λ e. rw e)

pub returns-then-reply : goal.returns-then-reply
unfolding refusal
returns-then-reply c = rw c.if-reply.true

pub returns : goal.returns
returns c = c.admission.ensures ∙ rw c.if-reply.false (book-is _ _ _)
