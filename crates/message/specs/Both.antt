-- What a packet's kind does to both stores, and its reply, apart from the refusals that stand before it.
use Rattle.std.specs.Prelude.{ℕ, cond, List, [], eqb}
use Rattle.packet.specs.declared.header.Kind.{Kind}
use Rattle.packet.specs.Outgoing.{entry, reply_packet}
use Rattle.machine.specs.Layout.{encode, decode}
use Rattle.machine.specs.Refusals.{refusal}
use Rattle.machine.specs.Packet.{Packet, kind_row, recv_step, send_step}

-- a number, and both stores
pub record Both : Type 0 where
  pub number : ℕ
  pub recv : List ℕ
  pub send : List ℕ

-- what the steps of a kind leave
abbrev pub both_of : Kind → Packet → List ℕ → List ℕ → Both
both_of k p recv send =
    let n = refusal (kind_row k p (decode recv) (decode send)) in
    record {
      number = n;
      recv = cond (eqb n 0) (encode (recv_step k p (decode recv))) recv;
      send = cond (eqb n 0) (encode (send_step k p (decode send))) send;
    }

-- the reply that keeps n bytes of a frame, none for 0
abbrev pub reply_out : ℕ → List ℕ → List ℕ → List ℕ → List ℕ
reply_out n frame from to = cond (eqb n 0) [] (entry to from (reply_packet n frame))
