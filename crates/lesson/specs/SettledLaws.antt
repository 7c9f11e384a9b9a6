-- When a row is written, nothing waits: each delivery lowers the queue's weight, a packet's being 3 and an acknowledgement's 1. Assumes nothing.
use Rattle.std.specs.Prelude.{ℕ, zero, suc, ◌+◌, ◌*◌, ◌≤◌, ◌<◌, ◌≡◌, refl, List, [], ◌∷◌, ◌++◌, length, drop, eqb}
use Rattle.std.proofs.Common.{arith, sym, ap, ◌∙◌, length-append}
use Rattle.octets.specs.BoolsLaws.{cases}
use Rattle.octets.specs.Lists.{All}
use Rattle.octets.specs.Octets.{same}
use Rattle.script.specs.Input.{lost, repeated}
use Rattle.packet.specs.Frame.{has, ack_flag, flags_of}
use Rattle.machine.specs.Outcomes.{SendOutcome}
use Rattle.link.specs.Entries.{entries_of, to_of, frame_of}
use Rattle.link.specs.Link.{copies, next_letter, through, put_out}
use Rattle.link.specs.StoredLaws.{through-all}
use Rattle.lesson.specs.Room.{Room, office_address, arrived, reply_of, deliver, deliver_first, deliveries, settled}
use Rattle.lesson.specs.Lesson.{sent, pushed, round}
use Rattle.lesson.specs.Steps.{asks, asking}
use Rattle.lesson.specs.RepliesLaws.{Answered, answered}

-- ---- the weight of a queue

unfoldable pub weight : List (List ℕ) → ℕ
weight q = length q + 2 * asking q

pub asks-le : (e : List ℕ) → asks e ≤ 1
asks-le e = cases (has (flags_of (frame_of e)) ack_flag) (λ a. rw a (omega arith)) (λ a. rw a (omega arith))

pub asking-le : (q : List (List ℕ)) → asking q ≤ length q
unfolding asking
asking-le [] = omega arith
asking-le (e ∷ q) = omega (arith, asks-le e, asking-le q)

pub asking-append : (p q : List (List ℕ)) → asking (p ++ q) ≡ asking p + asking q
unfolding asking
asking-append [] q = omega arith
asking-append (e ∷ p) q = omega (arith, asking-append p q)

asking-none : (q : List (List ℕ)) → All (λ e. asks e ≡ 0) q → asking q ≡ 0
unfolding asking
asking-none [] h = refl
asking-none (e ∷ q) h = omega (arith, h.0, asking-none q h.1)

pub through-count : (es : List (List ℕ)) (letters : List ℕ) → length (through es letters) ≤ 2 * length es
unfolding through copies
through-count [] letters = omega arith
through-count (e ∷ es) letters =
    omega (
      arith,
      length-append (copies (next_letter letters) e) (through es (drop 1 letters)),
      twice (next_letter letters),
      through-count es
          (drop 1 letters),
    )
  where
    twice : (x : ℕ) → length (copies x e) ≤ 2
    twice x =
        cases (eqb x lost) (λ a. rw a (omega arith)) (λ a. rw a (cases (eqb x repeated) (λ b. rw b (omega arith)) (λ b. rw b (omega arith))))

-- ---- a delivery

-- no reply asks
pub replies-ask : (k : ℕ) (run letters : List ℕ) → Answered k run → asking (through (entries_of run) letters) ≡ 0
replies-ask k run letters a = asking-none (through (entries_of run) letters) (through-all (λ e. asks e ≡ 0) (entries_of run) letters a.acks)

lower : (e : List ℕ) (q : List (List ℕ)) (run letters : List ℕ) → Answered (asks e) run
    → weight (q ++ through (entries_of run) letters) < weight (e ∷ q)
unfolding weight asking
lower e q run letters a =
    omega (
      arith,
      length-append q (through (entries_of run) letters),
      asking-append q (through (entries_of run) letters),
      replies-ask (asks e) run letters a,
      through-count (entries_of run) letters,
      a.count,
    )

pub deliver-lower : (e : List ℕ) (q : List (List ℕ)) (s : Room) → weight (deliver_first (e ∷ q) s).link.queue < weight (e ∷ q)
unfolding deliver_first put_out
deliver-lower e q s =
    cases (same (to_of e) office_address)
    (λ b. rw b (lower e q (reply_of (arrived s.office e)) s.link.letters (answered s.office e)))
    (λ b. rw b (lower e q (reply_of (arrived s.tablet e)) s.link.letters (answered s.tablet e)))

-- ---- all deliveries

pub none-delivered : (n : ℕ) (s : Room) → s.link.queue ≡ [] → deliveries n s ≡ s
unfolding deliveries deliver_first
none-delivered zero s e = refl
none-delivered (suc n) s e = ap (deliveries n) (ap (λ (q : List (List ℕ)). deliver_first q s) e) ∙ none-delivered n s e

-- where a packet waits, a delivery leaves less weight
less : (n : ℕ) (s : Room) (x : List ℕ) (q : List (List ℕ)) → s.link.queue ≡ x ∷ q → weight (x ∷ q) ≤ suc n → weight (deliver s).link.queue ≤ n
less n s x q e h =
    let d : weight (deliver s).link.queue ≡ weight (deliver_first (x ∷ q) s).link.queue = ap
    (λ (l : List (List ℕ)). weight (deliver_first l s).link.queue) e in
    omega (arith, d, deliver-lower x q s)

-- a queue without weight is empty
light : (q : List (List ℕ)) → weight q ≤ 0 → q ≡ []
unfolding weight
light [] h = refl
light (x ∷ q) h = absurd (omega arith)

-- the queue is empty after as many deliveries as it weighs
pub empty : (n : ℕ) (s : Room) → weight s.link.queue ≤ n → (deliveries n s).link.queue ≡ []
unfolding deliveries
empty zero s h = light s.link.queue h
empty (suc n) s h = turn n s s.link.queue refl h (empty n (deliver s))
  where
    turn : (n : ℕ) (s : Room) (q : List (List ℕ)) → s.link.queue ≡ q → weight q ≤ suc n
        → (weight (deliver s).link.queue ≤ n → (deliveries n (deliver s)).link.queue ≡ []) → (deliveries n (deliver s)).link.queue ≡ []
    turn n s [] e h f = ap (λ (r : Room). r.link.queue) (none-delivered (suc n) s e) ∙ e
    turn n s (x ∷ q) e h f = f (less n s x q e h)

-- .. and more change nothing
pub enough : (n m : ℕ) (s : Room) → weight s.link.queue ≤ n → weight s.link.queue ≤ m → deliveries n s ≡ deliveries m s
unfolding deliveries
enough zero m s h k = sym (none-delivered m s (light s.link.queue h))
enough (suc n) zero s h k = none-delivered (suc n) s (light s.link.queue k)
enough (suc n) (suc m) s h k = turn n m s s.link.queue refl h k (enough n m (deliver s))
  where
    turn : (n m : ℕ) (s : Room) (q : List (List ℕ)) → s.link.queue ≡ q → weight q ≤ suc n → weight q ≤ suc m
        → (weight (deliver s).link.queue ≤ n → weight (deliver s).link.queue ≤ m → deliveries n (deliver s) ≡ deliveries m (deliver s))
        → deliveries n (deliver s) ≡ deliveries m (deliver s)
    turn n m s [] e h k f = none-delivered (suc n) s e ∙ sym (none-delivered (suc m) s e)
    turn n m s (x ∷ q) e h k f = f (less n s x q e h) (less m s x q e k)

pub weight-le : (q : List (List ℕ)) → weight q ≤ 3 * length q
unfolding weight
weight-le q = omega (arith, asking-le q)

-- nothing waits after all that waited, with its replies, was delivered
pub settled-empty : (s : Room) → (settled s).link.queue ≡ []
unfolding settled
settled-empty s = empty (3 * length s.link.queue) s (weight-le s.link.queue)

sent-empty : (o : SendOutcome) (s : Room) → (sent o s).link.queue ≡ []
unfolding sent
sent-empty o s = settled-empty _

-- nothing waits when the row of the push is written, nor when that of a round is
pub pushed-empty : (n : ℕ) (s : Room) → (pushed n s).link.queue ≡ []
unfolding pushed
pushed-empty n s = sent-empty _ s

pub round-empty : (k : ℕ) (s : Room) → (round k s).link.queue ≡ []
unfolding round
round-empty k s = sent-empty _ s
