-- Laws of the loop that delivers all that waits: what is left from here gives what the whole gives. Assumes nothing.
use Prim.Native.Nat.{ℕ, zero, suc, ◌+◌, ◌-◌, ◌*◌, ◌≤◌, ◌<◌}
use native.Mathlib.Omega.{arith}
use mathlib.Core.Path.{◌≡◌, refl, sym, ap, ◌∙◌}
use mathlib.Core.List.{List, [], ◌∷◌}
use lib.ListN.{length, drop}
use Rattle.octets.specs.Octets.{put}
use Rattle.octets.specs.PartsLaws.{length_part, length-put}
use Rattle.link.specs.Entries.{entries_of}
use Rattle.link.specs.Link.{through, put_out}
use Rattle.link.specs.Stored.{stored, Waits}
use Rattle.link.specs.StoredLaws.{first_reach, more-waits, none-waits, run_small, run-stored, through-all, through-length}
use Rattle.lesson.specs.declared.room.Nodes.{Nodes}
use Rattle.lesson.specs.Room.{Room, deliver_first, deliveries, settled}
use Rattle.lesson.specs.Steps.{node_of, room_with, asking, replies_room, Ready, SomeReady, Delivered}
use Rattle.lesson.specs.SettledLaws.{weight, asking-le, weight-le, through-count, deliver-lower, none-delivered, enough}

pub record Settling (goal : Room) (nodes : Nodes) (b l : List ℕ) (head tail left : ℕ) : Type 0 where
  pub queue : List (List ℕ)
  pub waits : Waits b head tail queue
  pub fits : tail + replies_room * asking queue ≤ length b
  pub light : weight queue ≤ left
  pub gives : deliveries left (room_with nodes queue l) ≡ goal

-- ---- a run is put out

abbrev pub goal_of : Nodes → List ℕ → List ℕ → Room
goal_of nodes run letters =
    settled
    (record {
      tablet = node_of nodes.tablet.recv nodes.tablet.send;
      office = node_of nodes.office.recv nodes.office.send;
      link = put_out run (record { queue = []; letters = letters });
    })

module _ (nodes : Nodes) (b c l run : List ℕ) (rest : List ℕ) (tail left : ℕ) (small : length run < 65536)
    (room : 2 * (length run + 2 * length (entries_of run)) + 352 * length (entries_of run) ≤ length b)
    (most : 6 * length (entries_of run) ≤ left)
    (out : (c ≡ put b 0 (stored (through (entries_of run) l)))
    × (tail ≡ 0 + length (stored (through (entries_of run) l)))
    × (rest ≡ drop (length (entries_of run)) l)) where
  bytes : length (stored (through (entries_of run) l)) ≤ 2 * (length run + 2 * length (entries_of run))
  bytes = omega (arith, through-length (entries_of run) l, run-stored run)

  few : length (through (entries_of run) l) ≤ 2 * length (entries_of run)
  few = through-count (entries_of run) l

  pub settling-start : Settling (goal_of nodes run l) nodes c rest 0 tail left
  unfolding settled put_out
  settling-start =
      let q : List (List ℕ) = through (entries_of run) l in
      let s : Room = room_with nodes q (drop (length (entries_of run)) l) in
      let kept : length c ≡ length b = ap length out.0 ∙ length-put b 0 (stored q) (omega (arith, bytes)) in
      let light : weight q ≤ left = omega (arith, weight-le q, few) in
      record {
        queue = q;
        waits =
            rw out.1
            (more-waits b c 0 0 [] q (none-waits b 0 (omega arith)) out.0 (omega (arith, bytes))
            (through-all _ (entries_of run) l (run_small run small)));
        fits = omega (arith, kept, out.1, bytes, few, asking-le q);
        light = light;
        gives = ap (λ (x : List ℕ). deliveries left (room_with nodes q x)) out.2 ∙ enough left (3 * length q) s light (weight-le q);
      }

-- ---- a delivery

no_bytes : (b : List ℕ) (head tail : ℕ) → Waits b head tail [] → tail ≤ head
unfolding stored
no_bytes b head tail w =
    let o = w.order in
    let k = w.within in
    omega (arith, length_part b head (tail - head) (omega arith), ap length w.is)

pub settling-ready : (goal : Room) (nodes : Nodes) (b l : List ℕ) (head tail left : ℕ) → Settling goal nodes b l head tail left → head <
    tail
    → SomeReady b head tail
settling-ready goal nodes b l head tail left s h = go s.queue s.waits s.fits
  where
    go : (q : List (List ℕ)) → Waits b head tail q → tail + replies_room * asking q ≤ length b → SomeReady b head tail
    go [] w f = absurd (omega (arith, no_bytes b head tail w))
    go (e ∷ q) w f = record { first = e; rest = q; ready = record { waits = w; room = f } }

heavy : (e : List ℕ) (q : List (List ℕ)) → 0 < weight (e ∷ q)
unfolding weight
heavy e q = omega arith

pub settling-left : (goal : Room) (nodes : Nodes) (b l : List ℕ) (head tail left : ℕ) → Settling goal nodes b l head tail left → head <
    tail → 0 < left
settling-left goal nodes b l head tail left s h = go s.queue s.waits s.light
  where
    go : (q : List (List ℕ)) → Waits b head tail q → weight q ≤ left → 0 < left
    go [] w f = absurd (omega (arith, no_bytes b head tail w))
    go (e ∷ q) w f = omega (arith, heavy e q)

module _ (goal : Room) (nodes : Nodes) (b l : List ℕ) (head tail : ℕ) (nodes' : Nodes) (c : List ℕ) (head' tail' : ℕ) (l' : List ℕ)
    (d : (e : List ℕ) (q : List (List ℕ)) → Ready b head tail e q
    → Delivered (deliver_first (e ∷ q) (room_with nodes (e ∷ q) l)) (room_with nodes') c head' tail' l')
    (h : head < tail) where
  turn : (left : ℕ) (q : List (List ℕ)) → Waits b head tail q → tail + replies_room * asking q ≤ length b → weight q ≤ left
      → deliveries left (room_with nodes q l) ≡ goal → Settling goal nodes' c l' head' tail' (left - 1)
  unfolding deliveries
  turn left [] w f k g = absurd (omega (arith, no_bytes b head tail w))
  turn zero (e ∷ q) w f k g = absurd (omega (arith, heavy e q))
  turn (suc n) (e ∷ q) w f k g =
      let p = d e q (record { waits = w; room = f }) in
      let after : Room = deliver_first (e ∷ q) (room_with nodes (e ∷ q) l) in
      let z : suc n - 1 ≡ n = omega arith in
      record {
        queue = after.link.queue;
        waits = p.waits;
        fits = p.fits;
        light = omega (arith, deliver-lower e q (room_with nodes (e ∷ q) l));
        gives = (λ i. deliveries (z i) (p.room i)) ∙ g;
      }

  pub settling-more : (left : ℕ) → Settling goal nodes b l head tail left → Settling goal nodes' c l' head' tail' (left - 1)
  settling-more left s = turn left s.queue s.waits s.fits s.light s.gives

-- ---- the end

pub settling-none : (goal : Room) (nodes : Nodes) (b l : List ℕ) (head tail left : ℕ) → Settling goal nodes b l head tail left → tail ≤
    head
    → room_with nodes [] l ≡ goal
settling-none goal nodes b l head tail left s h = go s.queue s.waits s.gives
  where
    go : (q : List (List ℕ)) → Waits b head tail q → deliveries left (room_with nodes q l) ≡ goal → room_with nodes []
        l ≡ goal
    go [] w g = sym (none-delivered left (room_with nodes [] l) refl) ∙ g
    go (e ∷ q) w g = absurd (omega (arith, first_reach b head tail e q w))
