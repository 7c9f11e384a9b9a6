-- "Refusals change nothing" and carry a number alone: what each call leaves where its number is not 0. Assumes nothing.
use Rattle.std.specs.Prelude.{ℕ, ◌≡◌, cond, List, length, eqb}
use Rattle.std.proofs.Math.Path.{refl}
use Rattle.std.proofs.Common.{sym, ◌∙◌, eqb-true, ne_eqb}
use Rattle.octets.specs.BoolsLaws.{cases}
use Rattle.answer.specs.Answers.{bare}
use Rattle.machine.specs.Sound.{allowed}
use Rattle.machine.specs.Refusals.{refusal}
use Rattle.machine.specs.Outcomes.{PacketOutcome, SendOutcome, TakeOutcome}
use Rattle.machine.specs.Setup.{setup_of}
use Rattle.machine.specs.Packet.{Packet, packet_row, packet_answer}
use Rattle.machine.specs.Push.{Push, push_row, push_answer}
use Rattle.machine.specs.Wake.{Wake, wake_row, wake_answer}
use Rattle.machine.specs.Report.{report_row, report_of}
use Rattle.machine.specs.Take.{take_row, take_of}
use Rattle.ledger.specs.Run.{receive, send, Stores, Call, setup, packet, push, wake, report, take_whole, answer, after}

-- of an outcome that a row's number n decides, n is the number; so a number that is not 0 leaves what a refusal leaves
number_is : {O : Type 0} (number : O → ℕ) (done kept : O) (n : ℕ) → number done ≡ 0 → number kept ≡ n → number (cond (eqb n 0) done kept) ≡ n
number_is number done kept n z e = cases (eqb n 0) (λ h. rw h (z ∙ sym (eqb-true n 0 h))) (λ h. rw h e)

module _ (store : List ℕ) (role : ℕ) where
  pub setup-refused : ((setup_of store role).answer.number ≡ 0 → ⊥) → setup_of store role
      ≡ record { answer = bare (setup_of store role).answer.number; store = store }
  unfolding setup_of
  setup-refused h = cases (allowed (length store) role) (λ e. absurd (h (rw e))) (λ e. rw e)

module _ (p : Packet) (recv send out : List ℕ) where
  pub packet-number : (packet_answer p recv send out).answer.number ≡ refusal (packet_row p recv send out)
  packet-number = number_is (λ (o : PacketOutcome). o.answer.number) _ _ (refusal (packet_row p recv send out)) refl refl

  pub packet-refused : ((packet_answer p recv send out).answer.number ≡ 0 → ⊥)
      → packet_answer p recv send out ≡ record { answer = bare (packet_answer p recv send out).answer.number; recv = recv; send = send; out = out }
  packet-refused h = rw (ne_eqb (refusal (packet_row p recv send out)) 0 (λ e. h (packet-number ∙ e)))

module _ (p : Push) (send out : List ℕ) where
  pub push-number : (push_answer p send out).answer.number ≡ refusal (push_row p send out)
  push-number = number_is (λ (o : SendOutcome). o.answer.number) _ _ (refusal (push_row p send out)) refl refl

  pub push-refused : ((push_answer p send out).answer.number ≡ 0 → ⊥)
      → push_answer p send out ≡ record { answer = bare (push_answer p send out).answer.number; send = send; out = out }
  push-refused h = rw (ne_eqb (refusal (push_row p send out)) 0 (λ e. h (push-number ∙ e)))

module _ (w : Wake) (send out : List ℕ) where
  pub wake-number : (wake_answer w send out).answer.number ≡ refusal (wake_row w send out)
  wake-number = number_is (λ (o : SendOutcome). o.answer.number) _ _ (refusal (wake_row w send out)) refl refl

  pub wake-refused : ((wake_answer w send out).answer.number ≡ 0 → ⊥)
      → wake_answer w send out ≡ record { answer = bare (wake_answer w send out).answer.number; send = send; out = out }
  wake-refused h = rw (ne_eqb (refusal (wake_row w send out)) 0 (λ e. h (wake-number ∙ e)))

module _ (send id out : List ℕ) where
  pub report-refused : ((report_of send id out).answer.number ≡ 0 → ⊥) → report_of send id out
      ≡ record { answer = bare (report_of send id out).answer.number; out = out }
  unfolding report_of
  report-refused h = rw (ne_eqb (refusal (report_row send id out)) 0 h)

module _ (recv taken out : List ℕ) where
  pub take-number : (take_of recv taken out).answer.number ≡ refusal (take_row recv taken out)
  unfolding take_of
  take-number = number_is (λ (o : TakeOutcome). o.answer.number) _ _ (refusal (take_row recv taken out)) refl refl

  pub take-refused : ((take_of recv taken out).answer.number ≡ 0 → ⊥)
      → take_of recv taken out ≡ record { answer = bare (take_of recv taken out).answer.number; recv = recv; taken = taken; out = out }
  unfolding take_of
  take-refused h = rw (ne_eqb (refusal (take_row recv taken out)) 0 (λ e. h (take-number ∙ e)))

-- so no refused call changes a store
pub refused-stays : (c : Call) (s : Stores) → (answer c s ≡ 0 → ⊥) → after c s ≡ s
unfolding answer after
refused-stays (setup receive store role) s h = rw (ne_eqb (setup_of store role).answer.number 0 h)
refused-stays (setup send store role) s h = rw (ne_eqb (setup_of store role).answer.number 0 h)
refused-stays (packet p out) s h = let e = packet-refused p s.recv s.send out h in λ i. record { recv = (e i).recv; send = (e i).send }
refused-stays (push p out) s h = λ i. record { recv = s.recv; send = (push-refused p s.send out h i).send }
refused-stays (wake w out) s h = λ i. record { recv = s.recv; send = (wake-refused w s.send out h i).send }
refused-stays (report id out) s h = refl
refused-stays (take_whole taken out) s h = λ i. record { recv = (take-refused s.recv taken out h i).recv; send = s.send }
