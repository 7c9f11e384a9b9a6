-- The record that a link leads to, in the bytes of a sound send store. Assumes nothing.
use Rattle.std.specs.Prelude.{ℕ, ◌+◌, ◌≡◌, List, map, get_or}
use Rattle.std.proofs.Common.{arith}
use Rattle.std.proofs.Math.Option.{some}
use Rattle.octets.specs.Octets.{Bytes}
use Rattle.machine.specs.Codes.{role_send, kind_leaving}
use Rattle.machine.specs.Chains.{first}
use Rattle.machine.specs.Layout.{first_cell_at, rec_off, rec_of, cell_place, decode}
use Rattle.machine.specs.Receive.{found}
use Rattle.machine_laws.specs.Fine.{fine-complete}
use Rattle.records.specs.HeldAt.{place_at, rec_in, key_in, HeldAt}
use Rattle.records.specs.MetLaws.{valid, rep, held-here, here-fine, here-sized, here-split}
use Rattle.pieces.specs.HeldLaws.{first_piece}
use Rattle.outbox.specs.Leaves.{Here}

pub here : {b : List ℕ} {link : ℕ} → Bytes b → HeldAt role_send b link → Here b link
here {b} {link} y h =
    let f = here-fine role_send b y link h in
    let complete = fine-complete role_send kind_leaving (rec_in b link) (λ e. omega arith) f in
    record {
      bytes = y;
      held = h;
      sized = (here-sized role_send b y link h).label;
      counted = complete.0;
      whole = omega (arith, complete.1, f.total);
    }

-- it is found by its key
pub found_here : {b : List ℕ} {link : ℕ} → Here b link → found (key_in b link) (decode b).held ≡ some (rec_in b link)
found_here {b} {link} h = held-here role_send b h.bytes link h.held

-- the record's link to its first piece
pub first-is : {b : List ℕ} {link : ℕ} → Here b link
    → get_or b (rec_off (place_at b link) + first_cell_at) 0 ≡ first (map cell_place (rec_in b link).cells)
unfolding rec_of
first-is {b} {link} h =
    let s = h.held.sound in
    let q = here-split role_send b h.bytes link h.held in
    first_piece role_send (decode b) (valid role_send b h.bytes s) q.before (rec_in b link) q.behind q.is b
    (rep role_send b h.bytes s)
