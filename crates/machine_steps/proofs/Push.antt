-- Push: a message that is cut into the first free cells leaves a send store valid. Assumes nothing.
use Rattle.std.specs.Prelude.{ℕ, ◌+◌, ◌≤◌, ◌<◌, ◌≡◌, refl, true, List, length, drop}
use native.Mathlib.Omega.{arith}
use Rattle.std.proofs.Math.Option.{none}
use Rattle.std.proofs.Common.{eq-eqb, leb-true, ltb-true}
use Rattle.std.proofs.lemmas.Bool.{not-true}
use Rattle.octets.specs.Octets.{Bytes, capacity}
use Rattle.octets.specs.BoolsLaws.{both, one-le}
use Rattle.machine.specs.Limits.{longest, largest_topic, slots_of}
use Rattle.machine.specs.Codes.{role_send, kind_leaving, state_init, yes}
use Rattle.machine.specs.Values.{Label, Cell, Rec, Store, key_of}
use Rattle.machine.specs.Chains.{first}
use Rattle.machine.specs.Layout.{number_limit, decode}
use Rattle.machine.specs.Sound.{cell_fits}
use Rattle.machine.specs.Valid.{CellSized, RecSized, Valid}
use Rattle.machine.specs.Find.{find, is_some}
use Rattle.machine.specs.Refusals.{refusal}
use Rattle.machine.specs.Pieces.{cut_pieces}
use Rattle.machine.specs.Receive.{found}
use Rattle.machine.specs.Send.{push_step}
use Rattle.machine.specs.Push.{Push, push_label, push_row}
use Rattle.machine.specs.Typed.{TypedPush}
use Rattle.machine_laws.specs.Fine.{Fine, fine-fits}
use Rattle.machine_steps.proofs.Refusals.{refusal-clear}
use Rattle.machine_steps.proofs.Find.{is_none}
use Rattle.machine_steps.specs.LabelFine.{LabelFine}
use Rattle.machine_steps.proofs.Change.{add-valid}
use Rattle.machine_steps.proofs.Cut.{occurs-cut, length_cut, rising-cut, sizes-cut, cut-cut, all-cut}
use Rattle.machine_steps.proofs.Leaving.{leaving-whole}

-- a new leaving record of a message, its pieces in the cells at the places
abbrev pub leaving : ℕ → Label → ℕ → ℕ → List ℕ → List ℕ → Rec
leaving place h created end bytes places = record {
  place = place;
  label = h;
  slots = slots_of (length bytes);
  sending = record { state = state_init; timed_out = 0; created = created; end = end };
  cells = cut_pieces (slots_of (length bytes)) 0 places bytes;
}

module _ (place : ℕ) (h : Label) (created end : ℕ) (bytes places : List ℕ) (g : LabelFine h) (b : Bytes bytes) where
  pub leaving-fine : h.total ≡ length bytes → Fine role_send kind_leaving (leaving place h created end bytes places)
  leaving-fine e =
      let n : ℕ = slots_of (length bytes) in
      let l : List Cell = cut_pieces n 0 places bytes in
      record {
        reply = g.reply;
        total = g.total;
        sending = refl;
        cells = all-cut (λ c. cell_fits role_send c ≡ true) n 0 places bytes (λ p j c m. refl) b;
        rises = rising-cut n 0 n places bytes (omega arith);
        low = rw e (omega arith);
        high = rw e (omega arith);
        done = rw e (both _ _ (eq-eqb (length l) n (length_cut n 0 places bytes)) (eq-eqb _ (length bytes) (sizes-cut n 0 places bytes (omega arith))));
        cut = rw e (cut-cut 0 places bytes);
      }

  pub leaving-sized : created < number_limit → end < number_limit → RecSized (leaving place h created end bytes places)
  unfolding capacity
  leaving-sized c d = record {
    label = g.sized;
    created = c;
    end = d;
    cells = all-cut CellSized (slots_of (length bytes)) 0 places bytes
        (λ p j l m. record { bytes = (omega (arith, m.0), m.1); stamp = omega arith }) b;
  }

-- the id is not held, a record and the cells that it needs are free
pub pushed-valid : (h : Label) (created end : ℕ) (bytes : List ℕ) (s : Store) → found (key_of h) s.held ≡ none → 0 < length s.free
    → slots_of (length bytes) ≤ length s.free_cells → LabelFine h → h.total ≡ length bytes → Bytes bytes → created < number_limit → end < number_limit
    → Valid role_send s → Valid role_send (push_step h created end bytes s)
unfolding push_step find
pushed-valid h created end bytes s n a c g e b x y v =
    let q : Rec = leaving (first s.free) h created end bytes s.free_cells in
    add-valid role_send q (drop (slots_of (length bytes)) s.free_cells) s n (rw (leaving-whole s v)) a refl
    (λ k. omega (arith, occurs-cut k (slots_of (length bytes)) 0 s.free_cells bytes c))
    (fine-fits role_send kind_leaving q (leaving-fine (first s.free) h created end bytes s.free_cells g b e))
    (leaving-sized (first s.free) h created end bytes s.free_cells g b x y) (λ o. absurd (omega (arith, o))) v

-- the row that answers 0 bounds each field: row 24 created and end, 21 the topic, 6 the length
pub push-valid : (p : Push) (send out : List ℕ) → TypedPush p → Valid role_send (decode send) → refusal (push_row p send out) ≡ 0
    → Valid role_send (push_step (push_label p) p.created (p.created + p.try) p.bytes (decode send))
unfolding push_row capacity
push-valid p send out t v z =
    let s : Store = decode send in
    let c = refusal-clear (push_row p send out) refl z in
    let w : length p.topic ≤ largest_topic = leb-true (length p.topic) largest_topic c.1.1.0 in
    let m : length p.bytes ≤ longest = leb-true (length p.bytes) longest c.1.1.1.0 in
    let y : p.created + p.try < number_limit = ltb-true (p.created + p.try) number_limit c.1.1.1.1.0 in
    pushed-valid (push_label p) p.created (p.created + p.try) p.bytes s
    (is_none (found p.id s.held) (not-true (is_some (found p.id s.held)) c.1.1.1.1.1.0))
    (ltb-true 0 (length s.free) c.1.1.1.1.1.1.0)
    (leb-true (slots_of (length p.bytes)) (length s.free_cells) c.1.1.1.1.1.1.1.0)
    (record {
      sized = record { id = t.id; source = t.from; destination = t.to; total = omega arith; topic = (w, t.topic) };
      reply = one-le (yes p.reply);
      total = m;
    })
    refl t.bytes (omega arith) y v
