-- Laws of the push and of a round: a run lies within its buffer, and what the code sends is what the definition sends. Assumes nothing.
use Prim.Native.Nat.{ℕ, ◌+◌, ◌-◌, ◌≤◌}
use native.Mathlib.Omega.{arith}
use mathlib.Core.Path.{◌≡◌, refl, sym, ap, ◌∙◌}
use mathlib.Core.List.{List, [], ◌∷◌}
use lib.ListN.{length, take, replicate, length-replicate, replicate-append-replicate}
use lib.Seq.{take_at}
use lib.Dec.{eqb}
use Rattle.octets.specs.BoolsLaws.{cases}
use Rattle.octets.specs.Octets.{be}
use Rattle.machine.specs.Values.{Store}
use Rattle.machine.specs.Layout.{decode}
use Rattle.machine.specs.Receive.{found}
use Rattle.machine.specs.Refusals.{refusal}
use Rattle.machine.specs.Send.{push_step, init_out}
use Rattle.machine.specs.Outcomes.{SendOutcome, send_at}
use Rattle.machine.specs.Push.{Push, push_of, pushed, push_row, push_label, push_room}
use Rattle.machine.specs.Wake.{Wake, wake_of, waking, wake_row, wake_step, wake_run, wake_pieces, send_wake, send_wake_room}
use Rattle.link.specs.Link.{put_out}
use Rattle.lesson.specs.Room.{Room, tablet_address, office_address, settled}
use Rattle.lesson.specs.Lesson.{survey_id, survey, open_hours, clock_of, sent, round}
use Rattle.lesson.specs.Lesson as lesson
use Rattle.lesson.proofs.Rooms.{put-reaches}

-- ---- a run lies within its buffer

send_at_lem : (n : ℕ) (s : Store) (run : List ℕ) (pieces : ℕ) (send out : List ℕ)
    → (send_at n s run pieces send out).answer.run ≤ length (send_at n s run pieces send out).out
send_at_lem n s run pieces send out = cases (eqb n 0) (λ e. rw e (put-reaches out run)) (λ e. rw e (omega arith))

wake-run : (send : List ℕ) (kind : ℕ) (id : List ℕ) (clock : ℕ) (calendar : List ℕ) (unix : ℕ) (out : List ℕ)
    → (wake_of send kind id clock calendar unix out).answer.run ≤ length (wake_of send kind id clock calendar unix out).out
unfolding wake_of
wake-run send kind id clock calendar unix out =
    let w : Wake = waking kind id clock calendar unix in
    let r = found id (decode send).held in
    send_at_lem (refusal (wake_row w send out)) (wake_step w (decode send)) (wake_run w r) (length (wake_pieces w r)) send out

push-run : (send id : List ℕ) (reply : ℕ) (from to topic bytes : List ℕ) (created try : ℕ) (out : List ℕ)
    → (push_of send id reply from to topic bytes created try out).answer.run ≤ length (push_of send id reply from to topic bytes created try out).out
unfolding push_of
push-run send id reply from to topic bytes created try out =
    let p : Push = pushed id reply from to topic bytes created try in
    send_at_lem (refusal (push_row p send out)) (push_step (push_label p) created (created + try) bytes (decode send)) (init_out (push_label p)) 0 send out

pub wake-fits : (send : List ℕ) (kind : ℕ) (id : List ℕ) (clock : ℕ) (calendar : List ℕ) (unix : ℕ) (out : List ℕ) (o : SendOutcome)
    → o ≡ wake_of send kind id clock calendar unix out → o.answer.run ≤ length o.out
wake-fits send kind id clock calendar unix out o e = rw e (wake-run send kind id clock calendar unix out)

pub push-fits : (send id : List ℕ) (reply : ℕ) (from to topic bytes : List ℕ) (created try : ℕ) (out : List ℕ) (o : SendOutcome)
    → o ≡ push_of send id reply from to topic bytes created try out → o.answer.run ≤ length o.out
push-fits send id reply from to topic bytes created try out o e = rw e (push-run send id reply from to topic bytes created try out)

-- ---- what is sent

pub always-open : 0 ∷ 0 ∷ 5 ∷ 160 ∷ 0 ∷ 0 ∷ 5 ∷ 160 ∷ 0 ∷ 0 ∷ 5 ∷ 160 ∷ 0 ∷ 0 ∷ 5 ∷ 160 ∷ 0 ∷ 0 ∷ 5 ∷ 160 ∷ 0 ∷ 0 ∷ 5 ∷ 160 ∷ 0 ∷ 0 ∷ 5 ∷ 160 ∷ 2 ∷
    208 ∷ 0 ∷ []
    ≡ open_hours
unfolding be
always-open = refl

pub round_is : (k clock : ℕ) (hours : List ℕ) (s z : Room) (o : SendOutcome) → clock ≡ clock_of k → hours ≡ open_hours
    → o ≡ wake_of s.tablet.send send_wake survey_id clock hours clock (replicate send_wake_room 0)
    → z ≡ settled (record {
      tablet = record { recv = s.tablet.recv; send = o.send };
      office = s.office;
      link = put_out
          (take o.answer.run o.out) s.link;
    })
    → z ≡ round k s
unfolding round sent
round_is k clock hours s z o c h e f =
    f ∙ ap (λ (o : SendOutcome). sent o s) (e ∙ (λ i. wake_of s.tablet.send send_wake survey_id (c i) (h i) (c i) (replicate send_wake_room 0)))

take-replicate : (n m : ℕ) → n ≤ m → take n (replicate m 0) ≡ survey n
take-replicate n m h =
    let z : m ≡ n + (m - n) = omega arith in
    ap (λ (k : ℕ). take n (replicate k 0)) z ∙ ap (take n) (sym (replicate-append-replicate n (m - n) 0))
    ∙ take_at (replicate n 0) (replicate (m - n) 0) n (length-replicate {A = ℕ} n 0)

pub push-is : (n m : ℕ) (s z : Room) (o : SendOutcome) → n ≤ m
    → o ≡ push_of s.tablet.send survey_id 0 tablet_address office_address [] (take n (replicate m 0)) 0 0 (replicate push_room 0)
    → z ≡ settled (record {
      tablet = record { recv = s.tablet.recv; send = o.send };
      office = s.office;
      link = put_out
          (take o.answer.run o.out) s.link;
    })
    → z ≡ lesson.pushed n s
unfolding lesson.pushed sent
push-is n m s z o h e f =
    f
    ∙ ap (λ (o : SendOutcome). sent o s)
    (e ∙ ap (λ (l : List ℕ). push_of s.tablet.send survey_id 0 tablet_address office_address [] l 0 0 (replicate push_room 0)) (take-replicate n m h))
