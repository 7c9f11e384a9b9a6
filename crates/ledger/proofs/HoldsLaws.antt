-- `Holds s l`: the stores are those of the roles that the ledger notes, and the receive store agrees with its book. Fresh stores do, and every call
-- keeps it. Assumes nothing.
use Rattle.std.specs.Prelude.{ℕ, ◌≤◌, ◌≡◌, true, cond, List, [], ◌∷◌, ◌++◌, length, eqb}
use Rattle.std.proofs.Common.{arith, ◌∙◌, eqb-true, leb-true}
use Rattle.std.proofs.Math.Path.{refl, sym}
use Rattle.std.proofs.lemmas.Bool.{eqb-false}
use Rattle.octets.specs.BoolsLaws.{cases}
use Rattle.octets.specs.Lists.{All}
use Rattle.machine.specs.Limits.{most_cells}
use Rattle.packet.specs.Frame.{needed}
use Rattle.machine.specs.Codes.{role_receive, role_send}
use Rattle.machine.specs.Values.{Store, same_key}
use Rattle.machine.specs.Layout.{encode, decode}
use Rattle.machine.specs.Sound.{sound, fresh, setup_cells, allowed}
use Rattle.machine.specs.Valid.{Valid}
use Rattle.machine.specs.Find.{find}
use Rattle.machine.specs.Refusals.{refusal}
use Rattle.machine.specs.Receive.{rec_key, take_step}
use Rattle.machine.specs.Typed.{TypedPacket}
use Rattle.machine.specs.Setup.{setup_of}
use Rattle.machine.specs.Packet.{Packet, kind, recv_step, send_step, packet_row}
use Rattle.machine.specs.Push.{push_row}
use Rattle.machine.specs.Wake.{wake_row}
use Rattle.machine.specs.Take.{take_row, take_of}
use Rattle.machine_laws.specs.ValidSound.{valid-sound}
use Rattle.machine_laws.specs.Fresh.{fresh-valid, setup-valid}
use Rattle.machine_steps.proofs.Unique.{Unique, unique-left}
use Rattle.machine_steps.proofs.Keys.{distinct-unique}
use Rattle.machine_steps.proofs.Take.{take-valid}
use Rattle.machine_steps.proofs.Valid.{recv-valid}
use Rattle.machine_steps.proofs.SendValid.{send-valid}
use Rattle.machine_steps.proofs.Push.{push-valid}
use Rattle.machine_steps.proofs.Wake.{wake-valid}
use Rattle.ledger.specs.Run.{receive, send, Stores, Call, setup, packet, push, wake, report, take_whole, answer, after, left, answered, fresh_stores, Typed}
use Rattle.ledger.specs.Ledger.{Book, Ledger, no_pages, opening, enter, ledger}
use Rattle.ledger.proofs.FrontsLaws.{packet-clear, push-sound, wake-sound, take-clear}
use Rattle.ledger.proofs.RefusedLaws.{packet-number, push-number, wake-number, take-number, refused-stays}
use Rattle.ledger.proofs.StoredLaws.{Stored, valid-stored, sound-role}
use Rattle.ledger.proofs.AgreeLaws.{Agree, packet-keeps, take-keeps}

pub record Holds (s : Stores) (l : Ledger) : Type 0 where
  pub recv : Stored l.recv_role s.recv
  pub send : Stored l.send_role s.send
  pub book : Agree (decode s.recv) l.book

-- ---- a receive store with its book

-- keys of held records are unique
valid-unique : (role : ℕ) (s : Store) → Valid role s → Unique same_key rec_key s.held
valid-unique role s v = unique-left same_key rec_key s.held s.whole (distinct-unique (s.held ++ s.whole) v.ids)

-- what agrees as a store agrees as its bytes
encoded : (role : ℕ) (s : Store) (b : Book) → Valid role s → Agree s b → Agree (decode (encode s)) b
encoded role s b v a = rw (valid-sound role s v).1 a

fresh-agrees : (role cells : ℕ) → Agree (fresh role cells) no_pages
unfolding find
fresh-agrees role cells = record { paged = λ k. tt; rowed = tt }

pub fresh_holds : (c d : ℕ) → 1 ≤ c → c ≤ most_cells → 1 ≤ d → d ≤ most_cells → Holds (fresh_stores c d) opening
unfolding opening
fresh_holds c d a b e f =
    let v = fresh-valid role_receive c refl a b in
    record {
      recv = valid-stored role_receive (fresh role_receive c) v;
      send = valid-stored role_send (fresh role_send d) (fresh-valid role_send d refl e f);
      book = encoded role_receive (fresh role_receive c) no_pages v (fresh-agrees role_receive c);
    }

-- ---- calls that are done

-- setup leaves a fresh store
setup-done : (store : List ℕ) (role : ℕ) → (setup_of store role).answer.number ≡ 0
    → Valid role (fresh role (setup_cells (length store))) × ((setup_of store role).store ≡ encode (fresh role (setup_cells (length store))))
unfolding setup_of
setup-done store role e =
    cases (allowed (length store) role)
    (λ t. ((setup-valid (length store) role t).0, rw t))
    (λ t. absurd (let z : ◌≡◌ {A = ℕ} 25 0 = rw t at e in omega arith))

module _ (s : Stores) (l : Ledger) (h : Holds s l) where
  -- a packet: both stores are in role, and take its kind's step
  packet-done : (p : Packet) (out : List ℕ) → TypedPacket p → refusal (packet_row p s.recv s.send out) ≡ 0
      → Holds (after (packet p out) s) (enter (packet p out) l)
  unfolding after enter
  packet-done p out y e =
      let R : Store = decode s.recv in
      let S : Store = decode s.send in
      let f = packet-clear p s.recv s.send out e in
      let r : l.recv_role ≡ role_receive = sound-role l.recv_role s.recv h.recv role_receive f.0.0 in
      let t : l.send_role ≡ role_send = sound-role l.send_role s.send h.send role_send f.0.1.0 in
      let v : Valid role_receive R = rw r at h.recv.valid in
      let w : Valid role_send S = rw t at h.send.valid in
      let v' = recv-valid p R S y (leb-true (needed (kind p) p.frame) (length p.frame) f.0.1.1.1.0) v f.1 in
      rw e (record {
        recv = rw r (valid-stored role_receive (recv_step (kind p) p R) v');
        send = rw t (valid-stored role_send (send_step (kind p) p S) (send-valid p R S y w f.1));
        book = encoded role_receive (recv_step (kind p) p R) _ v' (packet-keeps R l.book (valid-unique role_receive R v) h.book (kind p) p);
      })

  -- a call that takes the send store alone, and leaves a valid one
  send-done : (n : Store) → sound role_send s.send ≡ true → (Valid role_send (decode s.send) → Valid role_send n)
      → Holds (record { recv = s.recv; send = encode n }) l
  send-done n t keep =
      let r : l.send_role ≡ role_send = sound-role l.send_role s.send h.send role_send t in
      record { recv = h.recv; send = rw r (valid-stored role_send n (keep (rw r at h.send.valid))); book = h.book }

  take_done : (taken out : List ℕ) → refusal (take_row s.recv taken out) ≡ 0 → Holds (after (take_whole taken out) s) (enter (take_whole taken out) l)
  unfolding take_of after enter
  take_done taken out e =
      let R : Store = decode s.recv in
      let r : l.recv_role ≡ role_receive = sound-role l.recv_role s.recv h.recv role_receive (take-clear s.recv taken out e).0 in
      let v : Valid role_receive R = rw r at h.recv.valid in
      let v' = take-valid R v in
      rw e (record {
        recv = rw r (valid-stored role_receive (take_step R) v');
        send = h.send;
        book = encoded role_receive (take_step R) _ v' (take-keeps R l.book (valid-unique role_receive R v) h.book R.whole l.book.row refl h.book.rowed);
      })

  -- each call that answers 0, as the ledger enters it
  done-holds : (c : Call) → Typed c → answer c s ≡ 0 → Holds (after c s) (enter c l)
  unfolding answer after enter
  done-holds (setup receive store role) y e =
      let d = setup-done store role e in
      rw (e, d.1) (record {
        recv = valid-stored role (fresh role (setup_cells (length store))) d.0;
        send = h.send;
        book = encoded role (fresh role (setup_cells (length store))) no_pages d.0 (fresh-agrees role (setup_cells (length store)));
      })
  done-holds (setup send store role) y e =
      let d = setup-done store role e in
      rw (e, d.1) (record { recv = h.recv; send = valid-stored role (fresh role (setup_cells (length store))) d.0; book = h.book })
  done-holds (packet p out) y e = packet-done p out y (sym (packet-number p s.recv s.send out) ∙ e)
  done-holds (push p out) y e =
      let n : refusal (push_row p s.send out) ≡ 0 = sym (push-number p s.send out) ∙ e in
      rw n (send-done _ (push-sound p s.send out n) (λ v. push-valid p s.send out y v n))
  done-holds (wake w out) y e =
      let n : refusal (wake_row w s.send out) ≡ 0 = sym (wake-number w s.send out) ∙ e in
      rw n (send-done _ (wake-sound w s.send out n) (λ v. wake-valid w (decode s.send) y v))
  done-holds (report id out) y e = h
  done-holds (take_whole taken out) y e = take_done taken out (sym (take-number s.recv taken out) ∙ e)

-- ---- every call

pub call-holds : (c : Call) (s : Stores) (l : Ledger) → Typed c → Holds s l → Holds (after c s) (cond (eqb (answer c s) 0) (enter c l) l)
call-holds c s l y h =
    cases (eqb (answer c s) 0)
    (λ e. rw e (done-holds s l h c y (eqb-true (answer c s) 0 e)))
    (λ e. rw (e, refused-stays c s (eqb-false (answer c s) 0 e)) h)

pub run_holds : (t : List Call) (s : Stores) (l : Ledger) → All Typed t → Holds s l → Holds (left t s) (ledger (answered t s) l)
unfolding left answered ledger
run_holds [] s l y h = h
run_holds (c ∷ t) s l y h = run_holds t (after c s) (cond (eqb (answer c s) 0) (enter c l) l) y.1 (call-holds c s l y.0 h)

-- whatever calls came before, from two fresh stores
pub fresh-runs : (c d : ℕ) → 1 ≤ c → c ≤ most_cells → 1 ≤ d → d ≤ most_cells → (t : List Call) → All Typed t
    → Holds (left t (fresh_stores c d)) (ledger (answered t (fresh_stores c d)) opening)
fresh-runs c d a b e f t y = run_holds t (fresh_stores c d) opening y (fresh_holds c d a b e f)
