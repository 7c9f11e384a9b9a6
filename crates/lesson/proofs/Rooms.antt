-- Laws of a delivery: what comes to a node, and what the room is then. Assumes nothing.
use Prim.Native.Nat.{ℕ, ◌+◌, ◌-◌, ◌*◌, ◌≤◌}
use native.Mathlib.Omega.{arith}
use mathlib.Core.Path.{◌≡◌, sym, ap, ◌∙◌}
use mathlib.Core.Bool.{true, false}
use mathlib.Core.List.{List, ◌∷◌, ◌++◌}
use lib.ListN.{length, take, drop, replicate, length-append}
use lib.Dec.{eqb}
use Rattle.octets.specs.BoolsLaws.{cases}
use Rattle.octets.specs.Octets.{part, put, same}
use Rattle.octets.specs.PartsLaws.{length-put}
use Rattle.machine.specs.Outcomes.{PacketOutcome}
use Rattle.machine.specs.Refusals.{refusal}
use Rattle.machine.specs.Packet.{Packet, packet_of, packet_at, packet_row, arrival, packet_room}
use Rattle.link.specs.Entries.{entries_of, from_of, to_of, frame_of}
use Rattle.link.specs.Link.{through, put_out}
use Rattle.link.specs.Stored.{stored, Waits}
use Rattle.link.specs.StoredLaws.{first-is, first_reach, first_rest, more-waits, through-length, stored-small}
use Rattle.lesson.specs.Room.{Node, office_address, open_rules, known_key, arrived, reply_of, deliver_first}
use Rattle.lesson.specs.Steps.{node_of, room_of, asks, asking, replies_room, Handed, Ready, Delivered}
use Rattle.lesson.specs.RepliesLaws.{answered}
use Rattle.lesson.specs.SettledLaws.{asks-le, asking-append, replies-ask}

-- ---- a run lies within its buffer

pub put-reaches : (b v : List ℕ) → length v ≤ length (put b 0 v)
unfolding put
put-reaches b v = omega (arith, length-append v (drop (0 + length v) b))

packet-at : (n : ℕ) (p : Packet) (recv send out : List ℕ) → (packet_at n p recv send out).answer.run ≤ length (packet_at n p recv send out).out
packet-at n p recv send out = cases (eqb n 0) (λ e. rw e (put-reaches out _)) (λ e. rw e (omega arith))

-- ---- a packet comes to a node

pub came : (recv send e frame from to run : List ℕ) (o : PacketOutcome) → o ≡ packet_of recv send frame from to open_rules known_key run → frame ≡
    frame_of e
    → from ≡ from_of e → to ≡ to_of e → run ≡ replicate packet_room 0 → length o.out ≡ length run
    → (o.answer.run ≡ (arrived (node_of recv send) e).answer.run)
    × (o.recv ≡ (arrived (node_of recv send) e).recv)
    × (o.send ≡ (arrived (node_of recv send) e).send)
    × (o.out ≡ (arrived (node_of recv send) e).out)
    × (o.answer.run ≤ packet_room)
    × (length o.out ≡ packet_room)
unfolding arrived packet_of
came recv send e frame from to run o f g h k r m =
    let s : o ≡ arrived (node_of recv send) e = f ∙ (λ i. packet_of recv send (g i) (h i) (k i) open_rules known_key (r i)) in
    let p : Packet = arrival frame from to open_rules known_key in
    let w : o.answer.run ≤ length o.out = rw f (packet-at (refusal (packet_row p recv send run)) p recv send run) in
    let x : length run ≡ packet_room = ap length r in
    (λ i. (s i).answer.run, λ i. (s i).recv, λ i. (s i).send, λ i. (s i).out, omega (arith, w, m, x), m ∙ x)

-- its reply as it stands in the run's buffer
pub reply-is : (o : PacketOutcome) (n : ℕ) (run : List ℕ) → n ≡ o.answer.run → run ≡ o.out → take n run ≡ reply_of o
reply-is o n run e f = λ i. take (e i) (f i)

-- the room that a reply needs
pub reply-fits : (n : Node) (e run : List ℕ) (tail room : ℕ) → run ≡ reply_of (arrived n e) → tail + replies_room * asks e ≤ room
    → tail + 2 * length (stored (entries_of run)) ≤ room
reply-fits n e run tail room f h = omega (arith, h, (answered n e).bytes, ap (λ (l : List ℕ). length (stored (entries_of l))) f)

pub handed : (n : Node) (e run x y b c l : List ℕ) (tail end : ℕ) (rest : List ℕ) → run ≡ reply_of (arrived n e) → x ≡ (arrived n e).recv → y ≡ (arrived n
    e).send
    → (c ≡ put b tail (stored (through (entries_of run) l)))
    × (end ≡ tail + length (stored (through (entries_of run) l)))
    × (rest ≡ drop (length (entries_of run)) l)
    → Handed (arrived n e) x y b c l tail end rest
handed n e run x y b c l tail end rest f g h p = record {
  recv = g;
  send = h;
  queue = p.0 ∙ ap (λ (r : List ℕ). put b tail (stored (through (entries_of r) l))) f;
  ends = p.1 ∙ ap (λ (r : List ℕ). tail + length (stored (through (entries_of r) l))) f;
  letters = p.2 ∙ ap (λ (r : List ℕ). drop (length (entries_of r)) l) f;
}

-- ---- the first packet is delivered

-- the entry as the code takes it
pub entry-is : (b : List ℕ) (head tail : ℕ) (e : List ℕ) (q : List (List ℕ)) (n : ℕ) → Waits b head tail (e ∷ q) → n ≡ length e
    → take (head + 2 + n - (head + 2)) (drop (head + 2) b) ≡ e
unfolding part
entry-is b head tail e q n w h =
    (let z : head + 2 + n - (head + 2) ≡ length e = omega (arith, h) in ap (λ (k : ℕ). take k (drop (head + 2) b)) z) ∙ first-is b head tail e q w

-- the room for the replies of the first packet
pub first-room : (b : List ℕ) (head tail : ℕ) (e x : List ℕ) (q : List (List ℕ)) → Ready b head tail e q → x ≡ e → tail + replies_room * asks x ≤
    length b
unfolding asking
first-room b head tail e x q r f = let h = r.room in omega (arith, ap asks f)

-- the first packet is handed over: it lies in the queue, which has the room for its replies
pub handed-over : (b : List ℕ) (head tail : ℕ) (e : List ℕ) (q : List (List ℕ)) (size : ℕ) → Ready b head tail e q → size ≡ length e
    → (head + 2 ≤ head + 2 + size) × (head + 2 + size ≤ length b)
    × (tail + replies_room * asks (take (head + 2 + size - (head + 2)) (drop (head + 2) b)) ≤ length b)
handed-over b head tail e q size r f = (
  omega arith,
  omega (arith, f, r.waits.within, first_reach b head tail e q r.waits),
  first-room b head tail e _ q r (entry-is b head tail e q _ r.waits f),
)

module _ (b c l : List ℕ) (head tail end : ℕ) (rest : List ℕ) (e : List ℕ) (q : List (List ℕ)) (r : Ready b head tail e q) (n : Node) (x y : List ℕ)
    (h : Handed (arrived n e) x y b c l tail end rest) where
  grows : length (stored (through (entries_of (reply_of (arrived n e))) l)) ≤ replies_room * asks e
  grows = omega (arith, through-length (entries_of (reply_of (arrived n e))) l, (answered n e).bytes)

  kept : length c ≡ length b
  unfolding asking
  kept =
      let room = r.room in
      ap length h.queue ∙ length-put b tail (stored (through (entries_of (reply_of (arrived n e))) l)) (omega (arith, grows))

  pub waits-then : Waits c (head + 2 + length e) end (q ++ through (entries_of (reply_of (arrived n e))) l)
  unfolding asking
  waits-then =
      let room = r.room in
      rw h.ends
      (more-waits b c (head + 2 + length e) tail q (through (entries_of (reply_of (arrived n e))) l)
      (first_rest b head tail e q r.waits) h.queue
      (omega (arith, grows))
      (stored-small (through (entries_of (reply_of (arrived n e))) l) (omega (arith, grows, asks-le e))))

  pub fits-then : end + replies_room * asking (q ++ through (entries_of (reply_of (arrived n e))) l) ≤ length c
  unfolding asking
  fits-then =
      let room = r.room in
      omega (
        arith,
        kept,
        h.ends,
        grows,
        asking-append q (through (entries_of (reply_of (arrived n e))) l),
        replies-ask (asks e) (reply_of (arrived n e)) l (answered n e),
      )

at-office : (b c l : List ℕ) (head tail end : ℕ) (rest : List ℕ) (e : List ℕ) (q : List (List ℕ)) (tr ts or os x y : List ℕ) → Ready b head tail e q
    → Handed (arrived (node_of or os) e) x y b c l tail end rest → same (to_of e) office_address ≡ true
    → Delivered (deliver_first (e ∷ q) (room_of tr ts or os (e ∷ q) l)) (room_of tr ts x y) c (head + 2 + length e) end rest
unfolding deliver_first put_out
at-office b c l head tail end rest e q tr ts or os x y r h t =
    let n : Node = node_of or os in
    rw t
    (record {
      room =
          λ i.
          record {
            tablet = node_of tr ts;
            office = record { recv = h.recv i; send = h.send i };
            link = record { queue = q ++ through (entries_of (reply_of (arrived n e))) l; letters = h.letters i };
          };
      waits = waits-then b c l head tail end rest e q r n x y h;
      fits = fits-then b c l head tail end rest e q r n x y h;
    })

at-tablet : (b c l : List ℕ) (head tail end : ℕ) (rest : List ℕ) (e : List ℕ) (q : List (List ℕ)) (tr ts or os x y : List ℕ) → Ready b head tail e q
    → Handed (arrived (node_of tr ts) e) x y b c l tail end rest → same (to_of e) office_address ≡ false
    → Delivered (deliver_first (e ∷ q) (room_of tr ts or os (e ∷ q) l)) (room_of x y or os) c (head + 2 + length e) end rest
unfolding deliver_first put_out
at-tablet b c l head tail end rest e q tr ts or os x y r h t =
    let n : Node = node_of tr ts in
    rw t
    (record {
      room =
          λ i.
          record {
            tablet = record { recv = h.recv i; send = h.send i };
            office = node_of or os;
            link = record { queue = q ++ through (entries_of (reply_of (arrived n e))) l; letters = h.letters i };
          };
      waits = waits-then b c l head tail end rest e q r n x y h;
      fits = fits-then b c l head tail end rest e q r n x y h;
    })

-- .. with the entry and its size as the code takes them
module _ (b c l : List ℕ) (head tail end : ℕ) (rest : List ℕ) (e d : List ℕ) (n : ℕ) (q : List (List ℕ)) (tr ts or os x y : List ℕ)
    (r : Ready b head tail e q) (is : d ≡ e)
    (size : n ≡ length e) where
  pub office-then : Handed (arrived (node_of or os) d) x y b c l tail end rest → same (to_of d) office_address ≡ true
      → Delivered (deliver_first (e ∷ q) (room_of tr ts or os (e ∷ q) l)) (room_of tr ts x y) c (head + 2 + n) end rest
  office-then h t =
      let h' : Handed (arrived (node_of or os) e) x y b c l tail end rest = rw is at h in
      rw size (at-office b c l head tail end rest e q tr ts or os x y r h' (sym (ap (λ (z : List ℕ). same (to_of z) office_address) is) ∙ t))

  pub tablet-then : Handed (arrived (node_of tr ts) d) x y b c l tail end rest → same (to_of d) office_address ≡ false
      → Delivered (deliver_first (e ∷ q) (room_of tr ts or os (e ∷ q) l)) (room_of x y or os) c (head + 2 + n) end rest
  tablet-then h t =
      let h' : Handed (arrived (node_of tr ts) e) x y b c l tail end rest = rw is at h in
      rw size (at-tablet b c l head tail end rest e q tr ts or os x y r h' (sym (ap (λ (z : List ℕ). same (to_of z) office_address) is) ∙ t))
