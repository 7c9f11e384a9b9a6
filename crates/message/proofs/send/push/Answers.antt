-- Assumes nothing.
use Prim.Native.Nat.{ℕ}
use mathlib.Core.Path.{◌≡◌, refl, sym, ap, ◌∙◌}
use mathlib.Core.Bool.{true}
use lib.ListN.{length}
use Rattle.octets.specs.Bools.{one}
use Rattle.octets.specs.BoolsLaws.{cases}
use Rattle.packet.specs.declared.label.Label as carried
use Rattle.machine.specs.Codes.{role_send, yes}
use Rattle.machine.specs.Layout.{decode}
use Rattle.machine.specs.Sound.{sound}
use Rattle.machine.specs.Refusals.{refusal}
use Rattle.machine.specs.Outcomes.{SendOutcome, send_at}
use Rattle.machine.specs.Send.{init_out}
use Rattle.machine.specs.Push.{Push, push_label, push_tests, push_row, push_of}
use Rattle.outbox.specs.Pushing.{pushes, pushed_into}
use Rattle.message.proofs.send.push.Goals as goal
use Rattle.message.proofs.send.push.Goals.{Else-not-sound, Start}

-- the store is sound
abbrev begun : Else-not-sound → Start
begun c = c.before.before.before.before.before.before.before

sounds : (c : Else-not-sound) → sound role_send (begun c).args.send.now ≡ true
sounds c = sym c.sound.ensures ∙ c.if-not-sound.false

-- what the call is answered, by the label that is pushed
abbrev answered : Start → carried.Label → SendOutcome
answered s l =
    let a = s.args in
    let p : Push = pushes l a.topic.now a.bytes.now a.created a.try_ms in
    let b = decode a.send.now in
    send_at (refusal (push_tests p b (length a.run.now))) (pushed_into p b) (init_out (push_label p)) 0 a.send.now a.run.now

-- a reply mark is 1 or 0 where it is carried, and any number where it is pushed
marked : (n : ℕ) → one (yes (one (yes n))) ≡ one (yes n)
marked n = cases (yes n) (λ e. rw e refl) (λ e. rw e refl)

pub returns-then-not-sound : goal.returns-then-not-sound
unfolding push_of push_row refusal
returns-then-not-sound c =
    rw (sym c.sound.ensures ∙ c.if-not-sound.true) refl

pub returns : goal.returns
unfolding push_of push_row refusal
returns c =
    let sent = c in
    let made = sent in
    let free = made in
    let s = begun (goal.at.returns c).Else-not-sound in
    rw (sounds (goal.at.returns c).Else-not-sound, ← marked s.args.reply) (sent.push.ensures ∙ ap (answered s) made.labelled-label.ensures.0)
