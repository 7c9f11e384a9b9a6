-- A key's message between two inits: the calls that leave its page open, the pieces acknowledged meanwhile, and what it is that none of them is
-- lost. The theorem of BetweenLaws speaks of these.
use Rattle.std.specs.Prelude.{ℕ, ◌≡◌, Bool, true, false, cond, not, ◌||◌, List, [], ◌∷◌, eqb}
use Rattle.std.proofs.Math.Option.{Option, none, some}
use Rattle.octets.specs.Lists.{All}
use Rattle.packet.specs.declared.header.Kind.{Kind}
use Rattle.packet.specs.declared.header.Kind.TheVariants.{Init, Chunk, Done, Read, Aborted, AckInit, AckChunk, AckDone, Nothing}
use Rattle.machine.specs.Values.{Label, Rec, Key, same_key, equal_in_five}
use Rattle.machine.specs.Layout.{decode}
use Rattle.machine.specs.Pieces.{piece_bytes}
use Rattle.machine.specs.Receive.{found}
use Rattle.machine.specs.Packet.{Packet, kind, asked, init_label}
use Rattle.ledger.specs.Run.{receive, send, Call, setup, packet, push, wake, report, take_whole}
use Rattle.ledger.specs.Ledger.{Piece, look, piece_of}

-- ---- what leaves a page open

-- a packet of the page's key: no done, no aborted, and an init only if it says the page again
unfoldable pub leaves_open : Kind → Label → Packet → Bool
leaves_open Init h p = equal_in_five h (init_label p)
leaves_open Chunk h p = true
leaves_open Done h p = false
leaves_open Read h p = true
leaves_open Aborted h p = false
leaves_open AckInit h p = true
leaves_open AckChunk h p = true
leaves_open AckDone h p = true
leaves_open Nothing h p = true

-- a call that does not restart, abort, make whole or set up anew what a key's page says
unfoldable pub spares : Key → Label → Call → Bool
spares k h (setup receive store role) = false
spares k h (setup send store role) = true
spares k h (packet p out) = not (same_key k (asked p)) || leaves_open (kind p) h p
spares k h (push p out) = true
spares k h (wake w out) = true
spares k h (report id out) = true
spares k h (take_whole taken out) = true

-- .. each of the calls that are answered 0
abbrev pub Spared : Key → Label → List (Call × ℕ) → Type 0
Spared k h t = All (λ (c : Call × ℕ). c.1 ≡ 0 → spares k h c.0 ≡ true) t

-- ---- what is acknowledged

-- the pieces with that of a packet, in front
abbrev pub with_chunk : Kind → Packet → List Piece → List Piece
with_chunk Init p l = l
with_chunk Chunk p l = piece_of p ∷ l
with_chunk Done p l = l
with_chunk Read p l = l
with_chunk Aborted p l = l
with_chunk AckInit p l = l
with_chunk AckChunk p l = l
with_chunk AckDone p l = l
with_chunk Nothing p l = l

-- .. with that of a call, if it is a key's
unfoldable pub acked_by : Key → Call → List Piece → List Piece
acked_by k (setup which store role) l = l
acked_by k (packet p out) l = cond (same_key k (asked p)) (with_chunk (kind p) p l) l
acked_by k (push p out) l = l
acked_by k (wake w out) l = l
acked_by k (report id out) l = l
acked_by k (take_whole taken out) l = l

-- .. with those that calls acknowledged for a key, the last first
unfoldable pub acked : Key → List (Call × ℕ) → List Piece → List Piece
acked k [] l = l
acked k (c ∷ t) l = acked k t (cond (eqb c.1 0) (acked_by k c.0 l) l)

-- ---- none is lost

abbrev pub or_else : Option (List ℕ) → Option (List ℕ) → Option (List ℕ)
or_else none y = y
or_else (some x) y = some x

-- from a receive store to one after some calls: the key's record arrives in both and says the same; at each index it has the bytes acknowledged last
-- meanwhile, or those that it had
pub record NoneLost (k : Key) (t : List (Call × ℕ)) (before after : List ℕ) : Type 0 where
  pub was : Rec
  pub is : Rec
  pub found-was : found k (decode before).held ≡ some was
  pub found-is : found k (decode after).held ≡ some is
  pub labels : is.label ≡ was.label
  pub pieces : (i : ℕ) → piece_bytes i is.cells ≡ or_else (look i (acked k t [])) (piece_bytes i was.cells)
