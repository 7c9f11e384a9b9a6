-- Assumes nothing.
use Rattle.std.proofs.Common.{ℕ, List, ◌≡◌, refl, sym, ap, ◌∙◌}
use Rattle.std.proofs.Math.Option.{some}
use Rattle.octets.specs.BoolsLaws.{both}
use Rattle.machine.specs.Codes.{yes}
use Rattle.machine.specs.Values.{Key}
use Rattle.machine.specs.Layout.{encode, decode}
use Rattle.machine.specs.Packet.{done_row}
use Rattle.machine.specs.Receive.{done_step}
use Rattle.machine.specs.Refusals.{refusal}
use Rattle.machine_steps.proofs.Refusals.{refusal-clear}
use Rattle.records.specs.HeldAt.{rec_in}
use Rattle.records.specs.RefuseLaws.{known, unknown_step, known_step, refused_up}
use Rattle.inbox.proofs.done.done.Goals as goal
use Rattle.inbox.proofs.done.done.Goals.{In-Some}

-- what the record's row answers, of the record in the bytes that the call was given
answers : (c : In-Some) {n : ℕ} → let a = c.args in let h = c.in-Some.held.row in
    n ≡ refusal (done_row a.count a.sum.now (yes a.known) (some (rec_in h.store.now h.link)))
    → n ≡ refusal (done_row a.count a.sum.now (yes a.known) (some (rec_in a.recv.now h.link)))
answers c e =
    let a = c.args in
    e ∙ ap (λ (b : List ℕ). refusal (done_row a.count a.sum.now (yes a.known) (some (rec_in b c.in-Some.held.row.link)))) c.in-Some.ensures.0

pub returns-in_default : goal.returns-in_default
returns-in_default c = unknown_step _ _ _ _ c.in_default.ensures

pub returns-in_err-refusal : goal.returns-in_err-refusal
returns-in_err-refusal c =
    refused_up _ _ _ _ _ c.from_residual.ensures.1
    (known _ _ _ _ c.in-Some.ensures.2 (answers (goal.at.returns-in_err-refusal c).In-Some c.in_err-refusal.ensures))

pub finish-requires : goal.finish-requires
finish-requires c =
    let t = refusal-clear _ refl (sym (answers (goal.at.finish-requires c).In-Some c.in_ok-refusal.ensures)) in
    (c.in-Some.ensures.1, both _ _ t.1.0 t.1.1.0)

pub returns : goal.returns
returns c =
    let f = c.in-Some.ensures in
    known_step _ _ _ _ _ _ f.2 (answers (goal.at.returns c).In-Some c.in_ok-refusal.ensures)
    (c.finish.ensures ∙ ap (λ (k : Key). encode (done_step k (decode c.args.recv.now))) f.3)
