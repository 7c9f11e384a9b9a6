-- Assumes nothing.
use native.Mathlib.Omega.{arith}
use Rattle.std.proofs.Common.{ℕ, List, ◌≡◌, ◌++◌, Bool, refl, sym, ap, ◌∙◌, leb-true, ltb-true}
use Rattle.std.proofs.lemmas.Bool.{not-true}
use Rattle.std.proofs.Common.{rules}
use Rattle.std.proofs.Math.Option.{Option, some}
use Rattle.octets.specs.BoolsLaws.{one-le}
use Rattle.octets.specs.Octets.{Bytes}
use Rattle.packet.specs.declared.label.Label.{Label}
use Rattle.answer.specs.AnswersLaws.{some_number}
use Rattle.machine.specs.Codes.{role_receive}
use Rattle.machine.specs.Values.{Rec, equal_in_five, repeats}
use Rattle.machine.specs.Valid.{LabelSized}
use Rattle.machine.specs.Layout.{rec_of, label_of, decode}
use Rattle.machine.specs.Receive.{rec_label, found}
use Rattle.machine.specs.Refusals.{Refusals, refusal}
use Rattle.machine.specs.Packet.{rules_row, place_row}
use Rattle.machine_steps.proofs.Find.{is_none}
use Rattle.machine_steps.specs.LabelFine.{LabelFine}
use Rattle.machine_steps.proofs.Refusals.{refusal-clear}
use Rattle.machine_writes.specs.InRange.{links}
use Rattle.machine_laws.specs.SoundValid.{sound-valid}
use Rattle.records.specs.HeldAt.{row_in, rec_in}
use Rattle.records.specs.Opening.{new_label}
use Rattle.records.specs.EstablishedLaws.{openable, free-is}
use Rattle.records.specs.RefuseLaws.{front-stop, front-next, refused_up, done}
use Rattle.inbox.proofs.init.init.Goals as goal
use Rattle.inbox.proofs.init.init.Goals.{Start, After-refusal}

-- the row of the book, and that of the place
abbrev book : Start → Refusals
book c = let a = c.args in rules_row a.label.reply a.label.source a.topic.now a.rules.now

abbrev place : Start → Refusals
place c = let a = c.args in let s = decode a.recv.now in place_row a.label.id a.label.total s (found a.label.id s.held)

both-rows : (c : Start) {n : ℕ} → 0 ≡ refusal (book c) → n ≡ refusal (place c) → n ≡ refusal (book c ++ place c)
both-rows c e f = f ∙ sym (front-next (book c) (place c) refl (sym e))

fine : (c : Start) → 0 ≡ refusal (place c) → LabelSized (new_label c.args.label c.args.topic.now) → LabelFine (new_label c.args.label c.args.topic.now)
fine c e s = record { sized = s; reply = one-le c.args.label.reply; total = leb-true _ _ (refusal-clear (place c) refl (sym e)).1.0 }

-- the init says it again, or not
compared : (b c : List ℕ) (link : ℕ) (o : Option Rec) (h : Label) (t : List ℕ) (x : Bool) → c ≡ b → o ≡ some (rec_in b link)
    → x ≡ equal_in_five (label_of (row_in c link)) (new_label h t) → x ≡ repeats rec_label o (new_label h t)
unfolding rec_of
compared b c link o h t x e q f = f ∙ ap (λ (b : List ℕ). equal_in_five (label_of (row_in b link)) (new_label h t)) e ∙ sym (rw q)

pub returns-in_err-rules_refusal : goal.returns-in_err-rules_refusal
returns-in_err-rules_refusal c =
    let e = c.in_err-rules_refusal.field-0.0 in
    let s = (goal.at.returns-in_err-rules_refusal c).Start in
    refused_up _ _ _ _ _ c.from_residual.ensures.1 (front-stop (book s) (place s) _ c.in_err-rules_refusal.ensures (λ z. omega (arith, z, some_number e)))

pub returns-in_err-refusal : goal.returns-in_err-refusal
returns-in_err-refusal c =
    refused_up _ _ _ _ _ c.from_residual-in_err-refusal.ensures.1
    (both-rows (goal.at.returns-in_err-refusal c).Start c.in_ok-rules_refusal.ensures c.in_err-refusal.ensures)

pub open_arriving-requires : goal.open_arriving-requires
open_arriving-requires c =
    let s = (goal.at.open_arriving-requires c).Start in
    let b = c.args.recv.now in
    let y : Bytes b = search rules in
    let held = rw c.in_default.is at c.find-found.ensures in
    let clear = refusal-clear (place s) refl (sym c.in_ok-refusal.ensures) in
    record {
      sound = c.requires.0;
      free = openable b (links role_receive b y c.requires.0) (ltb-true 0 _ (free-is role_receive b y c.requires.0 ∙ rw held at clear.1.1.0));
      held = held;
      whole = is_none _ (not-true _ clear.0);
      fine = fine s c.in_ok-refusal.ensures c.requires.1;
    }

pub returns-in_default : goal.returns-in_default
returns-in_default c =
    done _ _ _ _ (both-rows (goal.at.returns-in_default c).Start c.in_ok-rules_refusal.ensures c.in_ok-refusal.ensures)
    (let held = rw c.in_default.is at c.find-found.ensures in rw held c.open_arriving.ensures)

pub returns-then-says_again : goal.returns-then-says_again
returns-then-says_again c =
    let f = rw c.in-Some.is at c.find-found.ensures in
    let again = compared _ _ _ _ c.args.label c.args.topic.now _ f.0 f.2 c.says_again.ensures in
    done _ _ _ _ (both-rows (goal.at.returns-then-says_again c).Start c.in_ok-rules_refusal.ensures c.in_ok-refusal.ensures)
    (rw (sym again ∙ c.if-says_again.true) (sym (sound-valid role_receive _ (search rules) c.requires.0).1))

pub restart-requires : goal.restart-requires
restart-requires c =
    let f = rw c.in-Some.is at c.find-found.ensures in
    (f.1, sym f.3, fine (goal.at.restart-requires c).Start c.in_ok-refusal.ensures c.requires.1)

pub returns : goal.returns
returns c =
    let f = rw c.in-Some.is at c.find-found.ensures in
    let differs = compared _ _ _ _ c.args.label c.args.topic.now _ f.0 f.2 c.says_again.ensures in
    done _ _ _ _ (both-rows (goal.at.returns c).Start c.in_ok-rules_refusal.ensures c.in_ok-refusal.ensures)
    (rw (sym differs ∙ c.if-says_again.false) (rw f.2 c.restart.ensures))
