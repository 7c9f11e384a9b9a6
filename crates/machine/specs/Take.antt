-- Take, as a function from its bytes to its outcome: PROTOCOL, "Calls and answers" and "The office".
use Rattle.std.specs.Prelude.{ℕ, ◌+◌, false, cond, ◌&&◌, List, [], ◌∷◌, ◌++◌, length, eqb, leb}
use Rattle.octets.specs.Octets.{put}
use Rattle.answer.specs.Answers.{bare, sent}
use Rattle.packet.specs.Outgoing.{entry, read_packet}
use Rattle.machine.specs.Limits.{rec_bytes}
use Rattle.machine.specs.Codes.{role_receive, short_output, none_whole, unsound_store}
use Rattle.machine.specs.Values.{Rec}
use Rattle.machine.specs.Layout.{encode, decode, rec_at}
use Rattle.machine.specs.Sound.{sound}
use Rattle.machine.specs.Refusals.{Refusals, refusal}
use Rattle.machine.specs.Pieces.{joined}
use Rattle.machine.specs.Receive.{take_step}
use Rattle.machine.specs.Outcomes.{TakeOutcome}

-- row 2: a take's run buffer, and its data buffer for a message of a length
abbrev pub take_room : ℕ
take_room = 46

abbrev pub taken_room : ℕ → ℕ
taken_room total = rec_bytes + total

-- rows 23 and 2, by what is whole
abbrev pub oldest_row : List Rec → List ℕ → List ℕ → Refusals
oldest_row [] taken out = (false, none_whole) ∷ []
oldest_row (r ∷ l) taken out = (leb take_room (length out) && leb (taken_room r.label.total) (length taken), short_output) ∷ []

-- take 25, 23, 2
unfoldable pub take_row : List ℕ → List ℕ → List ℕ → Refusals
take_row recv taken out = (sound role_receive recv, unsound_store) ∷ oldest_row (decode recv).whole taken out

-- "the oldest whole record's 328 bytes as they stood, then its data"
unfoldable pub taken_bytes : List ℕ → List Rec → List ℕ
taken_bytes recv [] = []
taken_bytes recv (r ∷ l) = rec_at recv r.place ++ joined r.cells

-- "read packet from its destination to its source"
unfoldable pub take_out : List Rec → List ℕ
take_out [] = []
take_out (r ∷ l) = entry r.label.destination r.label.source (read_packet r.label.id)

-- with the number that its row gives: the record and its data, the read packet, and the store without the record
abbrev pub take_at : ℕ → List Rec → List ℕ → List ℕ → List ℕ → TakeOutcome
take_at n whole recv taken out =
    cond (eqb n 0)
    (record {
      answer = sent (length (take_out whole)) 0;
      recv = encode (take_step (decode recv));
      taken = put taken 0 (taken_bytes recv whole);
      out = put out 0 (take_out whole);
    })
    (record { answer = bare n; recv = recv; taken = taken; out = out })

-- take, as the code has its parameters
unfoldable pub take_of : List ℕ → List ℕ → List ℕ → TakeOutcome
take_of recv taken out = take_at (refusal (take_row recv taken out)) (decode recv).whole recv taken out
