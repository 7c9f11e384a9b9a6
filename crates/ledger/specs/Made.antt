-- Which messages a list of calls made, and what its takes put out. `made` is fed what the ledger is fed; `given` is read off the calls themselves.
use Rattle.std.specs.Prelude.{ℕ, ◌≡◌, cond, List, [], ◌∷◌, ◌++◌, eqb}
use Rattle.std.proofs.Math.Option.{Option, none, some}
use Rattle.packet.specs.declared.header.Kind.{Kind}
use Rattle.packet.specs.declared.header.Kind.TheVariants.{Init, Chunk, Done, Read, Aborted, AckInit, AckChunk, AckDone, Nothing}
use Rattle.machine.specs.Packet.{kind, asked}
use Rattle.machine.specs.Take.{take_of}
use Rattle.ledger.specs.Run.{receive, send, Stores, Call, setup, packet, push, wake, report, take_whole, answer, after}
use Rattle.ledger.specs.Ledger.{Page, Book, Ledger, opening, enter}
use Rattle.ledger.specs.Statement.{Given}

-- ---- messages made

abbrev pub page_of : Option Page → List Page
page_of none = []
page_of (some g) = g ∷ []

-- the message that a packet makes, where its id has that page or none: a done makes one of the open page
abbrev pub finished : Kind → Option Page → List Page
finished Init m = []
finished Chunk m = []
finished Done m = page_of m
finished Read m = []
finished Aborted m = []
finished AckInit m = []
finished AckChunk m = []
finished AckDone m = []
finished Nothing m = []

-- the messages made, after a call answered 0: a done's comes last; a setup of the receive store clears them
unfoldable pub made_by : Call → Book → List Page → List Page
made_by (setup receive store role) b l = []
made_by (setup send store role) b l = l
made_by (packet p out) b l = l ++ finished (kind p) (b.pages (asked p))
made_by (push p out) b l = l
made_by (wake w out) b l = l
made_by (report id out) b l = l
made_by (take_whole taken out) b l = l

-- .. after the messages l, and calls that a ledger is fed
unfoldable pub made_from : List (Call × ℕ) → Ledger → List Page → List Page
made_from [] g l = l
made_from (c ∷ t) g l = made_from t (cond (eqb c.1 0) (enter c.0 g) g) (cond (eqb c.1 0) (made_by c.0 g.book l) l)

-- the messages made since the receive store was last set up, oldest first, taken or not
abbrev pub made : List (Call × ℕ) → List Page
made t = made_from t opening []

-- ---- messages given

-- a take's data buffer, as it was lent and as it was left
pub record Filled : Type 0 where
  pub before : List ℕ
  pub after : List ℕ

-- the data buffers filled, after a call answered 0
unfoldable pub given_by : Call → Stores → List Filled → List Filled
given_by (setup receive store role) s l = []
given_by (setup send store role) s l = l
given_by (packet p out) s l = l
given_by (push p out) s l = l
given_by (wake w out) s l = l
given_by (report id out) s l = l
given_by (take_whole taken out) s l = l ++ (record { before = taken; after = (take_of s.recv taken out).taken } ∷ [])

-- .. after the buffers l, and calls from the stores s on
unfoldable pub given_from : List Call → Stores → List Filled → List Filled
given_from [] s l = l
given_from (c ∷ t) s l = given_from t (after c s) (cond (eqb (answer c s) 0) (given_by c s l) l)

-- the data buffers that takes filled since the receive store was last set up, in the order of the takes
abbrev pub given : List Call → Stores → List Filled
given t s = given_from t s []

-- each buffer was filled with the message that stands at its place
abbrev pub Gives : List Page → List Filled → Type 0
Gives [] [] = Unit {0}
Gives [] (x ∷ l) = ⊥
Gives (g ∷ row) [] = ⊥
Gives (g ∷ row) (x ∷ l) = Given g x.before x.after × Gives row l

-- of the messages made, takes gave the first, and the row has the others
pub record Taken (row made : List Page) (buffers : List Filled) : Type 0 where
  pub gone : List Page
  pub rest : made ≡ gone ++ row
  pub gives : Gives gone buffers
