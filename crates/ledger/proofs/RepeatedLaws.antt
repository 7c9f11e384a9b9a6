-- An init that says its id's arriving record again. Of its own refusals, 3 to 7, the rule book's alone can come (`equal-init-row`); past the refusals
-- it answers 0 with the usual reply, and both stores are byte for byte what they were (`equal-init`). Assumes nothing.
use Rattle.std.specs.Prelude.{ℕ, ◌≡◌, true, ◌||◌, List, ◌++◌, length, leb}
use Rattle.std.proofs.Common.{arith, sym, ap, le-leb}
use Rattle.std.proofs.Math.Option.{none, some}
use Rattle.octets.specs.Octets.{Bytes, put}
use Rattle.octets.specs.BoolsLaws.{cases}
use Rattle.topic.specs.Book.{well_formed, admits}
use Rattle.packet.specs.declared.header.Kind.TheVariants.{Init}
use Rattle.packet.specs.Frame.{init_length, init_topic}
use Rattle.packet.specs.Outgoing.{init_reply}
use Rattle.answer.specs.Answers.{accepted}
use Rattle.machine.specs.Limits.{longest}
use Rattle.machine.specs.Codes.{role_receive, role_send}
use Rattle.machine.specs.Values.{Label, Rec, Store, same_key, equal_in_five, repeats}
use Rattle.machine.specs.Layout.{decode}
use Rattle.machine.specs.Valid.{Valid}
use Rattle.machine.specs.Refusals.{refusal}
use Rattle.machine.specs.Receive.{rec_label, rec_key, found}
use Rattle.machine.specs.Packet.{Packet, kind, asked, is_reply, init_label, rules_row, init_row, recv_step, send_step, replied, kind_wake, packet_row}
use Rattle.machine.specs.Packet.{packet_answer}
use Rattle.machine_laws.specs.Keys.{key-eq, key-refl, five-eq}
use Rattle.machine_laws.specs.SoundValid.{sound-valid}
use Rattle.machine_steps.proofs.Find.{find-key}
use Rattle.machine_steps.proofs.Unique.{unique-apart}
use Rattle.machine_steps.proofs.Keys.{distinct-unique}
use Rattle.machine_steps.proofs.Held.{held-fine}
use Rattle.ledger.proofs.FrontsLaws.{packet-clear}

pub equal-init-row : (p : Packet) (s : Store) (r : Rec) → Valid role_receive s → found (asked p) s.held ≡ some r → equal_in_five r.label (init_label p) ≡ true
    → refusal (init_row p s) ≡ refusal (rules_row (is_reply p) p.from (init_topic p.frame) p.rules)
unfolding refusal
equal-init-row p s r v e q =
    let named : asked p ≡ rec_key r = find-key same_key rec_key key-eq key-refl (asked p) r s.held e in
    let absent : found (asked p) s.whole ≡ none =
    unique-apart same_key rec_key key-eq key-refl (asked p) r s.held s.whole (distinct-unique (s.held ++ s.whole) v.ids) e in
    let total : r.label.total ≡ init_length p.frame = ap (λ (h : Label). h.total) (five-eq r.label (init_label p) (sym named) q) in
    let short : leb (init_length p.frame) longest
    ≡ true = le-leb (init_length p.frame) longest (omega (arith, total, (held-fine role_receive (asked p) r s e v).total)) in
    cases (is_reply p || well_formed p.rules)
    (λ a. cases (is_reply p || admits p.rules (init_topic p.frame) p.from) (λ b. rw (a, b, absent, short, e)) (λ b. rw (a, b)))
    (λ a. rw a)

pub equal-init : (p : Packet) (recv send out : List ℕ) → Bytes recv → Bytes send → kind p ≡ Init → refusal (packet_row p recv send out) ≡ 0
    → repeats rec_label (found (asked p) (decode recv).held) (init_label p) ≡ true
    → packet_answer p recv send out ≡ record {
      answer = accepted (length (replied init_reply p)) 0;
      recv = recv;
      send = send;
      out = put out 0 (replied init_reply p);
    }
unfolding recv_step send_step kind_wake
equal-init p recv send out y z k e again =
    let f = packet-clear p recv send out e in
    rw (e, k, again, (sound-valid role_receive recv y f.0.0).1, (sound-valid role_send send z f.0.1.0).1)
