-- Demand 3: over every list of calls from two fresh stores, done and take answer by the ledger. Assumes nothing.
use Rattle.std.specs.Prelude.{ℕ, ◌≤◌, ◌≡◌, true, List, length, leb}
use Rattle.std.proofs.Common.{arith, ◌∙◌}
use Rattle.std.proofs.Math.Path.{refl, sym, ap}
use Rattle.std.proofs.Math.Option.{some}
use borrow.Author.Tests.{le-leb}
use Rattle.octets.specs.BoolsLaws.{both}
use Rattle.octets.specs.Lists.{All}
use Rattle.packet.specs.declared.header.Kind.{Kind}
use Rattle.packet.specs.declared.header.Kind.TheVariants.{Done}
use Rattle.packet.specs.Frame.{done_end, done_count, done_sum, largest_frame, is_frame, is_enough}
use Rattle.machine.specs.Limits.{most_cells}
use Rattle.machine.specs.Codes.{role_receive, role_send, yes}
use Rattle.machine.specs.Values.{Rec}
use Rattle.machine.specs.Layout.{decode}
use Rattle.machine.specs.Sound.{sound, rising}
use Rattle.machine.specs.Refusals.{refusal}
use Rattle.machine.specs.Receive.{found}
use Rattle.machine.specs.Packet.{Packet, kind, asked, packet_room, is_kind, done_row, kind_row}
use Rattle.machine.specs.Take.{take_row, take_of}
use Rattle.octets.specs.ListsLaws.{◌&◌}
use Rattle.machine_steps.proofs.Held.{held-fine}
use Rattle.ledger.specs.Run.{Stores, Call, packet, answer, left, answered, fresh_stores, Typed}
use Rattle.ledger.specs.Ledger.{Ledger, opening, ledger}
use Rattle.ledger.specs.Statement.{InRole, FullDone, Demand3}
use Rattle.ledger.proofs.FrontsLaws.{packet-answer, take-clear, take-answer}
use Rattle.ledger.proofs.RefusedLaws.{take-number}
use Rattle.ledger.proofs.StoredLaws.{stored-sound}
use Rattle.ledger.proofs.DueLaws.{done-iff}
use Rattle.ledger.proofs.TakenLaws.{none-iff, one-taken, taken-given}
use Rattle.ledger.proofs.HoldsLaws.{Holds, fresh-runs}

full-frame : (f : List ℕ) → FullDone f → is_frame f ≡ true
full-frame f h = both (leb 1 (length f)) (leb (length f) largest_frame) (le-leb 1 (length f) (omega (arith, h.0))) (le-leb (length f) largest_frame h.1)

module _ (s : Stores) (l : Ledger) (h : Holds s l) where
  recv-sound : InRole l → sound role_receive s.recv ≡ true
  recv-sound i = rw i.0 at (stored-sound l.recv_role s.recv h.recv)

  send-sound : InRole l → sound role_send s.send ≡ true
  send-sound i = rw i.1 at (stored-sound l.send_role s.send h.send)

  -- a done answers what its own row of refusals does
  done-answer : (p : Packet) (out : List ℕ) → InRole l → kind p ≡ Done → FullDone p.frame → packet_room ≤ length out
      → answer (packet p out) s ≡ refusal (done_row (done_count p.frame) (done_sum p.frame) (yes p.known) (found (asked p) (decode s.recv).held))
  unfolding answer kind_row
  done-answer p out i k f n =
      packet-answer p s.recv s.send out
      (recv-sound i & send-sound i & full-frame p.frame f & ap (λ (x : Kind). is_enough x p.frame) k ∙ le-leb done_end (length p.frame) f.0
      & ap is_kind k & le-leb packet_room (length out) n & tt)
      ∙ ap (λ (x : Kind). refusal (kind_row x p (decode s.recv) (decode s.send))) k

  -- the pieces of a held record rise
  found-rises : (k : List ℕ) (r : Rec) → found k (decode s.recv).held ≡ some r → rising 0 r.slots r.cells ≡ true
  found-rises k r e = (held-fine l.recv_role k r (decode s.recv) e h.recv.valid).rises

  pub holds-demand : Demand3 s l
  unfolding take_of answer
  holds-demand = record {
    done_by = λ p out i k f n.
        rw (done-answer p out i k f n)
        (done-iff (found (asked p) (decode s.recv).held) (l.book.pages (asked p)) (done_count p.frame) (done_sum p.frame) (yes p.known)
        (found-rises (asked p)) (h.book.paged (asked p)));
    take_none = λ taken out i. rw (take-answer s.recv taken out (recv-sound i)) (none-iff (decode s.recv).whole l.book.row taken out h.book.rowed);
    take_one = λ taken out g t i e a b. take-answer s.recv taken out (recv-sound i)
        ∙ one-taken (decode s.recv).whole l.book.row taken out g t h.book.rowed e a b;
    take_gives = λ taken out e.
        let n : refusal (take_row s.recv taken out) ≡ 0 = sym (take-number s.recv taken out) ∙ e in
        rw n (taken-given l.recv_role s.recv h.recv (decode s.recv).whole l.book.row taken out refl h.book.rowed
        (take-clear s.recv taken out n).1);
  }

-- whatever calls came before
pub demand3 : (c d : ℕ) → 1 ≤ c → c ≤ most_cells → 1 ≤ d → d ≤ most_cells → (t : List Call) → All Typed t
    → Demand3 (left t (fresh_stores c d)) (ledger (answered t (fresh_stores c d)) opening)
demand3 c d a b e f t y =
    holds-demand (left t (fresh_stores c d)) (ledger (answered t (fresh_stores c d)) opening) (fresh-runs c d a b e f t y)
