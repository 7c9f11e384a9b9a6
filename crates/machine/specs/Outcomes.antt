-- What a call leaves: its answer, the stores it takes and every output buffer. "Refusals change nothing" and carry a number alone; "bytes past what is
-- written stay".
use Rattle.std.specs.Prelude.{ℕ, cond, List, length, eqb}
use Rattle.octets.specs.Octets.{put}
use Rattle.answer.specs.declared.Answer.{Answer}
use Rattle.answer.specs.Answers.{bare, sent}
use Rattle.machine.specs.Values.{Store}
use Rattle.machine.specs.Layout.{encode}

-- of setup
pub record SetupOutcome : Type 0 where
  pub answer : Answer
  pub store : List ℕ

-- of packet
pub record PacketOutcome : Type 0 where
  pub answer : Answer
  pub recv : List ℕ
  pub send : List ℕ
  pub out : List ℕ

-- of push and of both wakes
pub record SendOutcome : Type 0 where
  pub answer : Answer
  pub send : List ℕ
  pub out : List ℕ

-- .. with the number that a row gives: the send store that comes, what is sent, and how many piece packets that has
abbrev pub send_at : ℕ → Store → List ℕ → ℕ → List ℕ → List ℕ → SendOutcome
send_at n s run pieces send out =
    cond (eqb n 0)
    (record { answer = sent (length run) pieces; send = encode s; out = put out 0 run })
    (record { answer = bare n; send = send; out = out })

-- of report
pub record ReportOutcome : Type 0 where
  pub answer : Answer
  pub out : List ℕ

-- `taken` is the data buffer
pub record TakeOutcome : Type 0 where
  pub answer : Answer
  pub recv : List ℕ
  pub taken : List ℕ
  pub out : List ℕ
