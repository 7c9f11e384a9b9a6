-- Nothing is whole, a buffer is short, or the oldest message leaves. Assumes nothing.
use Prim.Native.Nat.{ℕ, ◌+◌, ◌≤◌}
use native.Mathlib.Omega.{arith}
use mathlib.Core.Path.{◌≡◌, refl, ap, ◌∙◌}
use mathlib.Core.List.{List}
use lib.ListN.{length}
use borrow.Author.Tests.{le-leb, lt-leb}
use Rattle.octets.specs.Octets.{Bytes}
use Rattle.octets.specs.BoolsLaws.{both}
use Rattle.packet.specs.Outgoing.{entry, read_packet}
use Rattle.packet.specs.LengthsLaws.{length-entry, length-header}
use Rattle.machine.specs.Codes.{role_receive}
use Rattle.machine.specs.Values.{Rec}
use Rattle.machine.specs.Layout.{whole_at, rec_of, decode}
use Rattle.machine.specs.Refusals.{refusal}
use Rattle.machine.specs.Take.{take_room, taken_room, oldest_row, taken_bytes, take_out}
use Rattle.machine_writes.specs.InRange.{links}
use Rattle.records.specs.EstablishedLaws.{takable}
use Rattle.records.specs.HeldAt.{rec_in}
use Rattle.records.specs.RefuseLaws.{next, stop, clear}
use Rattle.inbox.specs.Oldest.{Oldest}
use Rattle.inbox.specs.OldestLaws.{none-whole, some-whole, oldest-placed, oldest-sized, oldest-fine, total-is}
use Rattle.inbox.proofs.take.take.Goals as goal
use Rattle.inbox.proofs.take.take.Lts.View.{up-After-total-total}
use Rattle.inbox.proofs.take.take.Goals.{After-total-total, Else-recv-eq0, Else-taken-total, Start}

-- what the row answers
abbrev row : Start → ℕ
row s = let a = s.args in refusal (oldest_row (decode a.recv.now).whole a.taken.now a.run.now)

bytes : (c : Else-recv-eq0) → Bytes c.args.recv.now
bytes c = λ i. (c.slice_known-1.given i).fits

oldest : (c : Else-recv-eq0) → Oldest c.args.recv.now
oldest c = record { sound = c.requires; some = omega (arith, c.if-recv-eq0.false) }

abbrev message : List ℕ → Rec
message b = rec_in b whole_at

-- .. and its read packet fills its room
long : (c : Else-recv-eq0) → let h = (message c.args.recv.now).label in length (entry h.destination h.source (read_packet h.id)) ≡ take_room
long c =
    let z = (oldest-sized _ (bytes c) (oldest c)).label in
    length-entry _ _ _ z.destination.0 z.source.0 ∙ ap (λ (n : ℕ). 34 + n) (length-header _ 8 z.id.0)

length-is : (c : After-total-total) → c.total-total.result ≡ (message c.args.recv.now).label.total
length-is c = c.total-total.ensures ∙ total-is c.args.recv.now

-- .. and the buffer holds it
room : (c : Else-taken-total) → taken_room (message c.args.recv.now).label.total ≤ length c.args.taken.now
room c = omega (arith, c.if-taken-total.false, length-is (up-After-total-total _ _ _ c.before.before))

pub bounds-recv-2 : goal.bounds-recv-2
bounds-recv-2 c =
    let known = c in
    omega (arith, (links role_receive _ (λ i. (known.slice_known-1.given i).fits) known.requires).long)

pub returns-then-recv-eq0 : goal.returns-then-recv-eq0
returns-then-recv-eq0 c =
    let e : row (goal.at.returns-then-recv-eq0 c).Start ≡ 23 = rw (none-whole _ c.if-recv-eq0.true) (stop _ _ _ refl) in
    rw e

pub returns-then-run-lt-READ_ROOM : goal.returns-then-run-lt-READ_ROOM
returns-then-run-lt-READ_ROOM c =
    let whole = c in
    let short = lt-leb take_room (length whole.args.run.now) c.if-run-lt-READ_ROOM.true in
    let e : row (goal.at.returns-then-run-lt-READ_ROOM c).Start
    ≡ 2 = rw (some-whole _ (oldest (goal.at.returns-then-run-lt-READ_ROOM c).Else-recv-eq0).some) (stop _ _ _ (rw short)) in
    rw e

pub overflow_add-total : goal.overflow_add-total
overflow_add-total c = let whole = c in omega
    (arith, (oldest-fine _ (bytes (goal.at.overflow_add-total c).Else-recv-eq0) (oldest (goal.at.overflow_add-total c).Else-recv-eq0)).total, length-is c)

pub returns-then-taken-total : goal.returns-then-taken-total
returns-then-taken-total c =
    let total = c in
    let fits = total in
    let whole = fits in
    let need = taken_room (message c.args.recv.now).label.total in
    let short = lt-leb need (length whole.args.taken.now)
    (omega (arith, c.if-taken-total.true, length-is (goal.at.returns-then-taken-total c).After-total-total)) in
    let e : row (goal.at.returns-then-taken-total c).Start
    ≡ 2 = rw (some-whole _ (oldest (goal.at.returns-then-taken-total c).Else-recv-eq0).some)
    (stop _ _ _ (rw (le-leb _ _ fits.if-run-lt-READ_ROOM.false, short))) in
    rw e

pub put_message-requires : goal.put_message-requires
put_message-requires c = room (goal.at.put_message-requires c).Else-taken-total

pub take_first-requires : goal.take_first-requires
take_first-requires c =
    let message = c in
    let holds = message in
    let whole = holds in
    let o = oldest (goal.at.take_first-requires c).Else-recv-eq0 in
    takable _ (links role_receive _ (bytes (goal.at.take_first-requires c).Else-recv-eq0) o.sound) o.sound o.some

pub returns : goal.returns
unfolding taken_bytes take_out rec_of
returns c =
    let first = c in
    let message = first in
    let read = message in
    let holds = read in
    let fits = holds in
    let whole = fits in
    let passed = both _ _ (le-leb _ _ fits.if-run-lt-READ_ROOM.false) (le-leb _ _ (room (goal.at.returns c).Else-taken-total)) in
    let e : row (goal.at.returns c).Start ≡ 0 = rw (some-whole _ (oldest (goal.at.returns c).Else-recv-eq0).some) (next _ _ _ passed ∙ clear) in
    rw (
      e,
      first.take_first.ensures,
      message.put_message.ensures,
      read.put_read.ensures,
      some-whole _
          (oldest (goal.at.returns c).Else-recv-eq0).some,
      long (goal.at.returns c).Else-recv-eq0,
    )

pub invariant_of-whole : goal.invariant_of-whole
invariant_of-whole c =
    let m = (goal.at.invariant_of-whole c).Else-recv-eq0 in
    record { octets = bytes m; reached = oldest-placed _ (bytes m) (oldest m) }

pub invariant_of-whole-2 : goal.invariant_of-whole-2
invariant_of-whole-2 c = record { oldest = oldest (goal.at.invariant_of-whole-2 c).Else-recv-eq0; first = refl }
