-- What concerns what: of the calls that are fed to the ledger those of a key, of pages those of a key, and of the two stores the one that a packet
-- works on. The theorems of Own and Untouched speak of these.
use Rattle.std.specs.Prelude.{ℕ, Bool, true, false, cond, not, ◌&&◌, List, [], ◌∷◌, eqb}
use Rattle.packet.specs.declared.header.Kind.{Kind}
use Rattle.packet.specs.declared.header.Kind.TheVariants.{Init, Chunk, Done, Read, Aborted, AckInit, AckChunk, AckDone, Nothing}
use Rattle.machine.specs.Values.{Key, key_of, same_key, repeats}
use Rattle.machine.specs.Packet.{Packet, asked, init_label}
use Rattle.ledger.specs.Run.{receive, send, Call, setup, packet, push, wake, report, take_whole}
use Rattle.ledger.specs.Ledger.{Page, Ledger, page_label}

-- the elements of a list that a test picks, in their order
unfoldable pub pick : {A : Type 0} → (A → Bool) → List A → List A
pick f [] = []
pick f (a ∷ l) = cond (f a) (a ∷ pick f l) (pick f l)

-- of what is fed: the calls answered 0 that a test picks
abbrev pub among : (Call → Bool) → List (Call × ℕ) → List (Call × ℕ)
among f t = pick (λ (c : Call × ℕ). eqb c.1 0 && f c.0) t

-- a key's own packets, and setups of the receive store
unfoldable pub concerns : Key → Call → Bool
concerns k (setup receive store role) = true
concerns k (setup send store role) = false
concerns k (packet p out) = same_key k (asked p)
concerns k (push p out) = false
concerns k (wake w out) = false
concerns k (report id out) = false
concerns k (take_whole taken out) = false

abbrev pub only : Key → List (Call × ℕ) → List (Call × ℕ)
only k t = among (concerns k) t

-- an init opens its key's page: it does not say the open one again
abbrev pub opens : Packet → Ledger → Bool
opens p l = not (repeats page_label (l.book.pages (asked p)) (init_label p))

-- the pages of a key
abbrev pub of_key : Key → List Page → List Page
of_key k row = pick (λ (g : Page). same_key k (key_of g.label)) row

-- a packet to the office works on the receive store, any other on the send store
abbrev pub to_office : Kind → Bool
to_office Init = true
to_office Chunk = true
to_office Done = true
to_office Read = false
to_office Aborted = true
to_office AckInit = false
to_office AckChunk = false
to_office AckDone = false
to_office Nothing = false
