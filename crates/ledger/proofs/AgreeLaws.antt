-- The receive store and the ledger's book agree: held records with open pages by key, whole records with the row in order; and each step of the
-- store keeps it. That keys are unique and indices rise is no part of it: a valid store has both. Assumes nothing.
use Rattle.std.specs.Prelude.{ℕ, ◌≡◌, false}
use Rattle.std.proofs.Common.{arith, ◌∙◌}
use Rattle.std.proofs.Math.Path.{refl, ap}
use mathlib.Core.List.{List, [], ◌∷◌, ◌++◌}
use Rattle.std.proofs.Math.Option.{Option, none, some}
use Rattle.octets.specs.BoolsLaws.{cases}
use Rattle.packet.specs.declared.header.Kind.{Kind}
use Rattle.packet.specs.declared.header.Kind.TheVariants.{Init, Chunk, Done, Read, Aborted, AckInit, AckChunk, AckDone, Nothing}
use Rattle.machine.specs.Values.{Label, Rec, Store, Key, key_of, same_key, equal_in_five}
use Rattle.machine.specs.Chains.{first}
use Rattle.machine.specs.Find.{find}
use Rattle.machine.specs.Receive.{rec_key, found, replaced, dropped, started, init_at, init_with, with_piece, chunk_at, done_at, drop_at, take_from}
use Rattle.machine.specs.Packet.{Packet, asked, init_label, recv_step}
use Rattle.machine_laws.specs.Keys.{key-eq, key-refl}
use Rattle.machine_steps.proofs.Find.{find-key, find-first-same, find-first-other, find-swap-same, find-swap-other, find-without-other}
use Rattle.machine_steps.proofs.Unique.{Unique, find-without-same}
use Rattle.machine.specs.Pieces.{piece_bytes}
use Rattle.machine_steps.proofs.Pieces.{bytes-put}
use Rattle.ledger.specs.Ledger.{Piece, Page, Book, look, reach, count_of, write, with_page, opened, init_in, chunk_in, done_in, packet_in, later}

-- ---- what it is to agree

-- a record and a page: one head, as many slots as the page counts, and at each index the bytes last acknowledged
pub record Agrees (r : Rec) (g : Page) : Type 0 where
  pub heads : r.label ≡ g.label
  pub slotted : r.slots ≡ count_of g
  pub pieced : (i : ℕ) → piece_bytes i r.cells ≡ look i g.pieces

-- a record where there is a page, and none where there is none
abbrev pub Tied : Option Rec → Option Page → Type 0
Tied none none = Unit {0}
Tied none (some g) = ⊥
Tied (some r) none = ⊥
Tied (some r) (some g) = Agrees r g

-- records and pages one by one
abbrev pub Rows : List Rec → List Page → Type 0
Rows [] [] = Unit {0}
Rows [] (g ∷ row) = ⊥
Rows (r ∷ l) [] = ⊥
Rows (r ∷ l) (g ∷ row) = Agrees r g × Rows l row

-- held records and open pages, key by key
abbrev pub Paged : List Rec → (Key → Option Page) → Type 0
Paged l pages = (k : Key) → Tied (found k l) (pages k)

-- a receive store and a book
pub record Agree (s : Store) (b : Book) : Type 0 where
  pub paged : Paged s.held b.pages
  pub rowed : Rows s.whole b.row

-- ---- records

-- an init's record with the page that it opens
started-agrees : (place : ℕ) (h : Label) → Agrees (started place h) (opened h)
unfolding find look reach
started-agrees place h = record { heads = refl; slotted = omega arith; pieced = λ i. refl }

-- a piece put on both sides
abbrev added : Piece → Page → Page
added q g = record { label = g.label; pieces = q ∷ g.pieces }

piece-agrees : (place : ℕ) (q : Piece) (r : Rec) (g : Page) → Agrees r g → Agrees (with_piece place q.index q.bytes r) (added q g)
unfolding reach look
piece-agrees place q r g a = record {
  heads = a.heads;
  slotted = let e : r.slots ≡ count_of g = a.slotted in omega arith;
  pieced = λ i. bytes-put place q.index q.bytes i r.cells ∙ rw (a.pieced i);
}

-- ---- pages by key

-- what is set for one key on both sides, where every other key keeps its record
set-paged : (k : Key) (o : Option Rec) (m : Option Page) (pages : Key → Option Page) (l n : List Rec) → found k n ≡ o → Tied o m
    → ((j : Key) → same_key j k ≡ false → found j n ≡ found j l) → Paged l pages → Paged n (write k m pages)
set-paged k o m pages l n e t others old j = cases (same_key j k) (λ h. rw (h, key-eq j k h, e) t) (λ h. rw (h, others j h) (old j))

-- a new record in front
cons-paged : (r : Rec) (g : Page) (pages : Key → Option Page) (l : List Rec) → Agrees r g → Paged l pages → Paged (r ∷ l) (write (rec_key r) (some g) pages)
cons-paged r g pages l a old =
    set-paged (rec_key r) (some r) (some g) pages l (r ∷ l) (find-first-same same_key rec_key key-eq key-refl r l) a
    (λ j h. find-first-other same_key rec_key j r l h) old

-- a held record replaced
swap-paged : (r q : Rec) (g : Page) (pages : Key → Option Page) (l : List Rec) → found (rec_key r) l ≡ some q → Agrees r g → Paged l pages
    → Paged (replaced r l) (write (rec_key r) (some g) pages)
swap-paged r q g pages l e a old =
    set-paged (rec_key r) (some r) (some g) pages l (replaced r l) (find-swap-same same_key rec_key key-eq key-refl r q l e) a
    (λ j h. find-swap-other same_key rec_key key-eq key-refl j r l h) old

-- a held record dropped
drop-paged : (k : Key) (pages : Key → Option Page) (l : List Rec) → Unique same_key rec_key l → Paged l pages → Paged (dropped k l) (write k none pages)
drop-paged k pages l u old =
    set-paged k none none pages l (dropped k l) (find-without-same same_key rec_key key-eq key-refl k l u) tt
    (λ j h. find-without-other same_key rec_key key-eq key-refl j k l h) old

-- ---- the row

-- a record and a page that agree, behind those that do
rows_last : (l : List Rec) (row : List Page) (r : Rec) (g : Page) → Rows l row → Agrees r g → Rows (l ++ (r ∷ [])) (row ++ (g ∷ []))
rows_last [] [] r g h a = (a, tt)
rows_last [] (q ∷ row) r g h a = absurd h
rows_last (t ∷ l) [] r g h a = absurd h
rows_last (t ∷ l) (q ∷ row) r g h a = (h.0, rows_last l row r g h.1 a)

-- ---- steps

module _ (s : Store) (b : Book) (u : Unique same_key rec_key s.held) (a : Agree s b) where
  -- a new record, or one that restarts, and the page that is opened
  afresh-keeps : (h : Label) (o : Option Rec) → found (key_of h) s.held ≡ o → Agree (init_at o h s) (with_page (key_of h) (some (opened h)) b)
  unfolding init_at
  afresh-keeps h none e = record {
    paged = cons-paged (started (first s.free) h) (opened h) b.pages s.held (started-agrees (first s.free) h) a.paged;
    rowed = a.rowed;
  }
  afresh-keeps h (some r) e = record {
    paged = swap-paged (started r.place h) r (opened h) b.pages s.held e (started-agrees r.place h) a.paged;
    rowed = a.rowed;
  }

  -- a record and its page have one head: an init says both again or neither
  init-keeps : (h : Label) (o : Option Rec) (m : Option Page) → found (key_of h) s.held ≡ o → Tied o m → Agree (init_with o h s) (init_in m (key_of h) h b)
  unfolding init_in
  init-keeps h none none e t = afresh-keeps h none e
  init-keeps h none (some g) e t = absurd t
  init-keeps h (some r) none e t = absurd t
  init-keeps h (some r) (some g) e t =
      let both : equal_in_five r.label h ≡ equal_in_five g.label h = ap (λ (x : Label). equal_in_five x h) t.heads in
      cases (equal_in_five g.label h) (λ z. rw (both, z) a) (λ z. rw (both, z) (afresh-keeps h (some r) e))

  -- a record found by a key has that key
  chunk-keeps : (k : Key) (q : Piece) (o : Option Rec) (m : Option Page) → found k s.held ≡ o → Tied o m
      → Agree (chunk_at o q.index q.bytes s) (chunk_in m k q b)
  unfolding chunk_at chunk_in
  chunk-keeps k q none none e t = a
  chunk-keeps k q none (some g) e t = absurd t
  chunk-keeps k q (some r) none e t = absurd t
  chunk-keeps k q (some r) (some g) e t =
      let d : k ≡ rec_key r = find-key same_key rec_key key-eq key-refl k r s.held e in
      let r' : Rec = with_piece (first s.free_cells) q.index q.bytes r in
      record {
        paged = rw d (swap-paged r' r (added q g) b.pages s.held (rw d at e) (piece-agrees (first s.free_cells) q r g t) a.paged);
        rowed = a.rowed;
      }

  -- a record goes last in the whole chain, its page last in the row
  done-keeps : (k : Key) (o : Option Rec) (m : Option Page) → found k s.held ≡ o → Tied o m → Agree (done_at o s) (done_in m k b)
  unfolding done_at done_in
  done-keeps k none none e t = a
  done-keeps k none (some g) e t = absurd t
  done-keeps k (some r) none e t = absurd t
  done-keeps k (some r) (some g) e t = record {
    paged = rw (find-key same_key rec_key key-eq key-refl k r s.held e) (drop-paged (rec_key r) b.pages s.held u a.paged);
    rowed = rows_last s.whole b.row r g a.rowed t;
  }

  -- a record and its page go
  drop_keeps : (k : Key) (o : Option Rec) → found k s.held ≡ o → Agree (drop_at o s) (with_page k none b)
  unfolding drop_at
  drop_keeps k none e = record { paged = set-paged k none none b.pages s.held s.held e tt (λ j h. refl) a.paged; rowed = a.rowed }
  drop_keeps k (some r) e = record {
    paged = rw (find-key same_key rec_key key-eq key-refl k r s.held e) (drop-paged (rec_key r) b.pages s.held u a.paged);
    rowed = a.rowed;
  }

  -- a packet, by its kind
  pub packet-keeps : (kind : Kind) (p : Packet) → Agree (recv_step kind p s) (packet_in kind p b)
  unfolding recv_step packet_in
  packet-keeps Init p = init-keeps (init_label p) (found (asked p) s.held) (b.pages (asked p)) refl (a.paged (asked p))
  packet-keeps Chunk p = chunk-keeps (asked p) _ (found (asked p) s.held) (b.pages (asked p)) refl (a.paged (asked p))
  packet-keeps Done p = done-keeps (asked p) (found (asked p) s.held) (b.pages (asked p)) refl (a.paged (asked p))
  packet-keeps Read p = a
  packet-keeps Aborted p = drop_keeps (asked p) (found (asked p) s.held) refl
  packet-keeps AckInit p = a
  packet-keeps AckChunk p = a
  packet-keeps AckDone p = a
  packet-keeps Nothing p = a

  -- the first of the whole chain and of the row go
  pub take-keeps : (l : List Rec) (row : List Page) → s.whole ≡ l → Rows l row → Agree (take_from l s) (record { pages = b.pages; row = later row })
  unfolding take_from
  take-keeps [] [] e h = record { paged = a.paged; rowed = rw e tt }
  take-keeps [] (g ∷ row) e h = absurd h
  take-keeps (r ∷ l) [] e h = absurd h
  take-keeps (r ∷ l) (g ∷ row) e h = record { paged = a.paged; rowed = h.1 }
