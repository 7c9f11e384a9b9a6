-- Both wakes leave the send store valid. Assumes nothing.
use Rattle.std.specs.Prelude.{ℕ, ◌≡◌, refl, eqb}
use Rattle.std.proofs.Common.{arith}
use Rattle.std.proofs.Math.Option.{Option, none, some}
use Rattle.octets.specs.BoolsLaws.{cases}
use Rattle.machine.specs.Codes.{role_send, state_aborted}
use Rattle.machine.specs.Values.{Rec, Store, Key}
use Rattle.machine.specs.Valid.{Valid}
use Rattle.machine.specs.Receive.{found}
use Rattle.machine.specs.Send.{sent_pieces, woken, stamped, unsettled, change_at, change, deadline_at}
use Rattle.machine.specs.Wake.{Wake, sends, in_hours, wake_step}
use Rattle.machine.specs.Typed.{TypedClock}
use Rattle.machine_steps.proofs.Change.{changed}
use Rattle.machine_steps.proofs.Drop.{drop-at}
use Rattle.machine_steps.proofs.Marks.{marks-stamped}
use Rattle.machine_steps.proofs.RemarkedValid.{held_small, change-at}
use Rattle.machine_steps.proofs.RemarkedValid.{remarked-valid, restated-valid}

-- ---- send wake

woken-rec : (clock : ℕ) (k : Key) (r : Rec) (s : Store) → TypedClock clock → found k s.held ≡ some r → Valid role_send s
    → Valid role_send (changed (woken clock r) s.free_cells s)
unfolding woken
woken-rec clock k r s t e v =
    let h = held_small k r s e v in
    let those = sent_pieces clock r in
    remarked-valid k r s e v r.sending.state r.sending.timed_out (stamped clock those) h.0 h.1 (marks-stamped clock those t)

pub woken-valid : (clock : ℕ) (k : Key) (s : Store) → TypedClock clock → Valid role_send s → Valid role_send (change (woken clock) k s)
woken-valid clock k s t v = change-at (woken clock) k (found k s.held) s refl (λ r e. woken-rec clock k r s t e v) v

-- ---- deadline wake

pub deadline-valid : (k : Key) (o : Option Rec) (s : Store) → found k s.held ≡ o → Valid role_send s → Valid role_send (deadline_at o s)
unfolding deadline_at change_at
deadline-valid k none s e v = v
deadline-valid k (some r) s e v =
    cases (eqb r.sending.timed_out 1)
    (λ a. rw a (drop-at role_send k (some r) s e v))
    (λ a. rw a (cases (unsettled r)
    (λ b. rw b (restated-valid k r s e v state_aborted 1 (omega arith) (omega arith)))
    (λ b. rw b (restated-valid k r s e v r.sending.state 1 (held_small k r s e v).0 (omega arith)))))

pub wake-valid : (w : Wake) (s : Store) → TypedClock w.clock → Valid role_send s → Valid role_send (wake_step w s)
unfolding wake_step
wake-valid w s t v =
    cases (sends w)
    (λ e. rw e (cases (in_hours w) (λ h. rw h (woken-valid w.clock w.id s t v)) (λ h. rw h v)))
    (λ e. rw e (deadline-valid w.id (found w.id s.held) s refl v))
