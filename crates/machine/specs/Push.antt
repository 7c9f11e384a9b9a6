-- Push, as a function from its bytes and numbers to its outcome: PROTOCOL, "Calls and answers" and "The tablet".
use Rattle.std.specs.Prelude.{ℕ, ◌+◌, not, List, [], ◌∷◌, length, leb, ltb}
use Rattle.octets.specs.Bools.{one}
use Rattle.machine.specs.Limits.{longest, largest_topic, slots_of}
use Rattle.machine.specs.Codes.{role_send, short_output, too_long, no_record, no_cell, topic_too_large, id_in_use, bad_clock, unsound_store, yes}
use Rattle.machine.specs.Values.{Label, Store}
use Rattle.machine.specs.Layout.{decode, number_limit}
use Rattle.machine.specs.Sound.{sound}
use Rattle.machine.specs.Find.{is_some}
use Rattle.machine.specs.Refusals.{Refusals, refusal}
use Rattle.machine.specs.Receive.{found}
use Rattle.machine.specs.Send.{push_step, init_out}
use Rattle.machine.specs.Outcomes.{SendOutcome, send_at}

-- what is pushed
pub record Push : Type 0 where
  pub id : List ℕ
  pub reply : ℕ
  pub from : List ℕ
  pub to : List ℕ
  pub topic : List ℕ
  pub bytes : List ℕ
  pub created : ℕ
  pub try : ℕ

-- what is said of the message that is pushed
abbrev pub push_label : Push → Label
push_label p = record {
  id = p.id;
  source = p.from;
  destination = p.to;
  reply = one (yes p.reply);
  total = length p.bytes;
  topic = p.topic;
}

-- row 2: a push's run buffer
abbrev pub push_room : ℕ
push_room = 310

-- push 2, 21, 6, 24, 22, 7, 12, on a store and with room for a run
abbrev pub push_tests : Push → Store → ℕ → Refusals
push_tests p s room =
    (leb push_room room, short_output)
    ∷ (leb (length p.topic) largest_topic, topic_too_large)
    ∷ (leb (length p.bytes) longest, too_long)
    ∷ (ltb (p.created + p.try) number_limit, bad_clock)
    ∷ (not (is_some (found p.id s.held)), id_in_use)
    ∷ (ltb 0 (length s.free), no_record)
    ∷ (leb (slots_of (length p.bytes)) (length s.free_cells), no_cell)
    ∷ []

-- .. behind 25
unfoldable pub push_row : Push → List ℕ → List ℕ → Refusals
push_row p send out = (sound role_send send, unsound_store) ∷ push_tests p (decode send) (length out)

-- the push call, with what is pushed as one value: its step, and the init that is sent
abbrev pub push_answer : Push → List ℕ → List ℕ → SendOutcome
push_answer p send out =
    send_at (refusal (push_row p send out)) (push_step (push_label p) p.created (p.created + p.try) p.bytes (decode send))
    (init_out (push_label p)) 0 send out

-- push, as the code has its parameters
abbrev pub pushed : List ℕ → ℕ → List ℕ → List ℕ → List ℕ → List ℕ → ℕ → ℕ → Push
pushed id reply from to topic bytes created try =
    record { id = id; reply = reply; from = from; to = to; topic = topic; bytes = bytes; created = created; try = try }

unfoldable pub push_of : List ℕ → List ℕ → ℕ → List ℕ → List ℕ → List ℕ → List ℕ → ℕ → ℕ → List ℕ → SendOutcome
push_of send id reply from to topic bytes created try out = push_answer (pushed id reply from to topic bytes created try) send out
