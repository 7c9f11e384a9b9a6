-- Sending hours: outside them a send wake changes nothing and sends nothing; within them it is the wake without hours, and so is a deadline wake
-- at any time and with any calendar. Assumes nothing.
use Rattle.std.specs.Prelude.{ℕ, ◌≡◌, false, cond, ◌||◌, List, [], ◌∷◌, length, eqb, leb}
use Rattle.std.proofs.Math.Path.{refl}
use Rattle.std.proofs.Math.Bool.{true}
use Rattle.std.proofs.Math.Option.{Option, none, some}
use borrow.Author.Tests.{eqb-true}
use Rattle.octets.specs.Octets.{Bytes}
use Rattle.octets.specs.BoolsLaws.{cases}
use Rattle.octets.specs.PartsLaws.{put-nil}
use Rattle.calendar.specs.Calendar.{well_formed}
use Rattle.answer.specs.Answers.{bare}
use Rattle.machine.specs.Codes.{role_send, short_output, no_work, unsound_store}
use Rattle.machine.specs.Values.{Cell, Rec, Store}
use Rattle.machine.specs.Layout.{decode}
use Rattle.machine.specs.Sound.{sound}
use Rattle.machine.specs.Refusals.{Refusals, refusal, held_row}
use Rattle.machine.specs.Receive.{found}
use Rattle.machine.specs.Send.{change, sent_pieces, wake_out, woken, deadline_out, deadline_at}
use Rattle.machine.specs.Outcomes.{SendOutcome, send_at}
use Rattle.machine.specs.Wake.{Wake, send_wake, deadline_wake, sends, in_hours, wake_room, wake_row, wake_run, wake_pieces, wake_step, wake_answer}
use Rattle.machine_laws.specs.SoundValid.{sound-valid}
use Rattle.machine_steps.proofs.Refusals.{refusal-front}

-- ---- outside hours

module _ (w : Wake) (s : sends w ≡ true) (h : in_hours w ≡ false) where
  silent : (o : Option Rec) → wake_run w o ≡ []
  unfolding wake_run
  silent none = refl
  silent (some r) = rw (s, h)

  none-sent : (o : Option Rec) → wake_pieces w o ≡ []
  unfolding wake_pieces
  none-sent none = refl
  none-sent (some r) = rw (s, h)

  still : (z : Store) → wake_step w z ≡ z
  unfolding wake_step
  still z = rw (s, h)

  -- whether or not it is refused
  pub outside-hours : (send out : List ℕ) → Bytes send
      → wake_answer w send out ≡ record { answer = bare (refusal (wake_row w send out)); send = send; out = out }
  unfolding wake_row
  outside-hours send out b =
      cases (eqb (refusal (wake_row w send out)) 0)
      (λ e. let n = eqb-true (refusal (wake_row w send out)) 0 e in
      let t : sound role_send send ≡ true = (refusal-front ((sound role_send send, unsound_store) ∷ []) _ refl n).0.0 in
      rw (
        e,
        silent (found w.id (decode send).held),
        none-sent (found w.id (decode send).held),
        still (decode send),
        (sound-valid role_send send b t).1,
        put-nil out 0,
        n,
      ))
      (λ e. rw e)

-- ---- the wake without hours: it is given neither a calendar nor Unix milliseconds

module _ (kind : ℕ) (id : List ℕ) (clock : ℕ) where
  -- wake 25, 20, 2, 8
  abbrev pub timeless_row : List ℕ → List ℕ → Refusals
  timeless_row send out =
      (sound role_send send, unsound_store)
      ∷ (eqb kind send_wake || eqb kind deadline_wake, no_work)
      ∷ (leb (wake_room kind) (length out), short_output)
      ∷ held_row (found id (decode send).held)

  unfoldable pub timeless_run : Option Rec → List ℕ
  timeless_run none = []
  timeless_run (some r) = cond (eqb kind send_wake) (wake_out clock r) (deadline_out r)

  unfoldable pub timeless_pieces : Option Rec → List Cell
  timeless_pieces none = []
  timeless_pieces (some r) = cond (eqb kind send_wake) (sent_pieces clock r) []

  abbrev pub timeless_step : Store → Store
  timeless_step s = cond (eqb kind send_wake) (change (woken clock) id s) (deadline_at (found id s.held) s)

  abbrev pub timeless : List ℕ → List ℕ → SendOutcome
  timeless send out =
      let r = found id (decode send).held in
      send_at (refusal (timeless_row send out)) (timeless_step (decode send)) (timeless_run r) (length (timeless_pieces r)) send out

-- a send wake within hours, and any other wake, is that one
module _ (w : Wake) (send out : List ℕ) where
  abbrev Timeless : Type 0
  Timeless = wake_answer w send out ≡ timeless w.kind w.id w.clock send out

  -- what is sent, and which pieces
  abbrev RunsTimeless : Type 0
  RunsTimeless = (o : Option Rec)
      → (wake_run w o ≡ timeless_run w.kind w.id w.clock o) × (wake_pieces w o ≡ timeless_pieces w.kind w.id w.clock o)

  sent-within : sends w ≡ true → in_hours w ≡ true → RunsTimeless
  unfolding wake_run timeless_run wake_pieces timeless_pieces
  sent-within s h none = (refl, refl)
  sent-within s h (some r) = (rw (s, h), rw (s, h))

  pub within-hours : sends w ≡ true → well_formed w.calendar ≡ true → in_hours w ≡ true → Timeless
  unfolding wake_row wake_step refusal
  within-hours s f h = let same = sent-within s h (found w.id (decode send).held) in rw (same.0, same.1, s, f, h)

  sent-anyhow : sends w ≡ false → RunsTimeless
  unfolding wake_run timeless_run wake_pieces timeless_pieces
  sent-anyhow s none = (refl, refl)
  sent-anyhow s (some r) = (rw s, rw s)

  pub deadline-runs-on : sends w ≡ false → Timeless
  unfolding wake_row wake_step refusal
  deadline-runs-on s = let same = sent-anyhow s (found w.id (decode send).held) in rw (same.0, same.1, s)
