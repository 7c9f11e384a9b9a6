-- What a push's row of refusals leaves.
use Rattle.std.specs.Prelude.{ℕ, ◌+◌, ◌≤◌, ◌<◌, ◌≡◌, List, length, get_or, ltb, Option}
use Rattle.std.specs.Bool.{then_some}
use Rattle.std.proofs.Math.Option.{none}
use Rattle.octets.specs.Bools.{one}
use Rattle.machine.specs.Limits.{slots_of}
use Rattle.packet.specs.declared.label.Label as carried
use Rattle.machine.specs.Values.{Label, Store, key_of}
use Rattle.machine.specs.Layout.{free_cells_at, decode}
use Rattle.machine.specs.Receive.{found}
use Rattle.machine.specs.Send.{push_step}
use Rattle.machine.specs.Push.{Push, push_label, pushed}
use Rattle.records.specs.HeldAt.{Sends}
use Rattle.machine_steps.specs.LabelFine.{LabelFine}

-- what the row leaves: a label that a record can have, an id that is not held, and a record and the cells that the pieces need free
pub record Pushable (b : List ℕ) (h : Label) (bytes : List ℕ) : Type 0 where
  pub sound : Sends b
  pub fine : LabelFine h
  pub total : h.total ≡ length bytes
  pub held : found (key_of h) (decode b).held ≡ none
  pub free : 0 < length (decode b).free
  pub cells : slots_of (length bytes) ≤ length (decode b).free_cells

-- the place of the first of n bytes' pieces: the first free cell; none where there are no pieces
abbrev pub first_place : List ℕ → ℕ → Option ℕ
first_place b n = then_some (ltb 0 n) (get_or b free_cells_at 0)

-- what is pushed, under a label, and what a push that is not refused makes of the store
abbrev pub pushes : carried.Label → List ℕ → List ℕ → ℕ → ℕ → Push
pushes l topic bytes created try = pushed l.id (one l.reply) l.source l.destination topic bytes created try

abbrev pub pushed_into : Push → Store → Store
pushed_into p s = push_step (push_label p) p.created (p.created + p.try) p.bytes s
