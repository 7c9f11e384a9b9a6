-- The ways of the wakes, each with what is sent and what the store is then. Assumes nothing.
use Rattle.std.specs.Prelude.{ℕ, ◌≡◌, refl, true, false, List, eqb}
use Rattle.std.proofs.Common.{sym, ap, ◌∙◌}
use Rattle.std.proofs.Math.Option.{some}
use Rattle.calendar.specs.Calendar.{is_open}
use Rattle.machine.specs.Codes.{role_send}
use Rattle.machine.specs.Values.{Rec}
use Rattle.machine.specs.Layout.{encode, decode}
use Rattle.machine.specs.Receive.{drop_step}
use Rattle.machine.specs.Send.{change, sent_pieces, wake_out, woken, timed_out, deadline_out, deadline_at}
use Rattle.machine.specs.Wake.{Wake, waking, wake_run, wake_pieces, wake_step}
use Rattle.machine_laws.specs.SoundValid.{sound-valid}
use Rattle.records.specs.HeldAt.{rec_in, key_in}
use Rattle.outbox.specs.declared.wake.Kind.{Kind}
use Rattle.outbox.specs.declared.wake.Kind.TheVariants.{Send, Deadline}
use Rattle.outbox.specs.Kinds.{number_of}
use Rattle.outbox.specs.Leaves.{Here}
use Rattle.outbox.specs.HereLaws.{found_here}
use Rattle.outbox.specs.PartlyLaws.{change-is}
use Rattle.outbox.specs.Sending.{aborted_of, Starts, Wakes}
use Rattle.outbox.specs.WokenLaws.{nothing}

module _ {b : List ℕ} {link : ℕ} (h : Here b link) where
  abbrev r : Rec
  r = rec_in b link

  -- ---- the deadline wake

  pub deadline_again : {run b' : List ℕ} → eqb r.sending.timed_out 1 ≡ true → b' ≡ encode (drop_step (key_in b link) (decode b))
      → Starts (deadline_out r) run 0 run × (b' ≡ encode (deadline_at (some r) (decode b)))
  unfolding deadline_out deadline_at
  deadline_again e d = rw e (nothing, rw (found_here h) at d)

  pub deadline_first : {run out b' : List ℕ} {n : ℕ} → eqb r.sending.timed_out 1 ≡ false → Starts (aborted_of r) run n out
      → b' ≡ encode (change timed_out (key_in b link) (decode b))
      → Starts (deadline_out r) run n out × (b' ≡ encode (deadline_at (some r) (decode b)))
  unfolding deadline_out deadline_at
  deadline_first e s d = rw e (s, d ∙ ap encode (change-is h timed_out))

  -- ---- a wake, by its kind

  module _ (clock unix : ℕ) (calendar : List ℕ) (kind : Kind) where
    abbrev wake : Wake
    wake = waking (number_of kind) (key_in b link) clock calendar unix

    abbrev Woken : List ℕ → ℕ → ℕ → List ℕ → List ℕ → Type 0
    Woken run n k b' out = Wakes (wake_step wake (decode b)) (wake_run wake (some r)) (wake_pieces wake (some r)) run n k b' out

    pub wake_open : {run out b' : List ℕ} {n k : ℕ} → kind ≡ Send → is_open calendar unix ≡ true
        → Wakes (change (woken clock) (key_in b link) (decode b)) (wake_out clock r) (sent_pieces clock r) run n k b' out
        → Woken run n k b' out
    unfolding wake_run wake_pieces wake_step
    wake_open e o w = rw (e, o) w

    pub wake_shut : {run : List ℕ} → kind ≡ Send → is_open calendar unix ≡ false → Woken run 0 0 b run
    unfolding wake_run wake_pieces wake_step
    wake_shut e o = rw (e, o) (record { starts = nothing; counts = refl; store = sym (sound-valid role_send b h.bytes h.held.sound).1 })

    pub wake_over : {run out b' : List ℕ} {n : ℕ} → kind ≡ Deadline → Starts (deadline_out r) run n out
        → b' ≡ encode (deadline_at (some r) (decode b)) → Woken run n 0 b' out
    unfolding wake_run wake_pieces wake_step
    wake_over e s d = rw (e, found_here h) (record { starts = s; counts = refl; store = d })
