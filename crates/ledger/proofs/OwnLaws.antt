-- "Nothing earlier and no other id changes a byte of one." A key's open page is that of the packets since the init that opened it, whatever came
-- before (`since-init`), and so is the message that a done makes of it (`since-init-made`); a key's open page is that of the key's own acknowledged
-- packets and the setups of the receive store alone (`own-page`), and so are the messages made under the key (`own-made`). The answers are fed: what
-- else they hang on (a free record, a free cell) is no part of it. Assumes nothing.
use Rattle.std.specs.Prelude.{ℕ, ◌≡◌, Bool, true, false, eqb}
use Rattle.std.proofs.Math.Path.{refl, ap}
use Rattle.std.proofs.Common.{sym, ◌∙◌}
use Rattle.std.proofs.Math.Bool.{cond}
use mathlib.Core.List.{List, [], ◌∷◌, ◌++◌, append-nil}
use Rattle.std.proofs.Math.Option.{Option, none, some}
use Rattle.std.proofs.lemmas.Bool.{not-true}
use Rattle.octets.specs.BoolsLaws.{cases, clash}
use Rattle.packet.specs.declared.header.Kind.{Kind}
use Rattle.packet.specs.declared.header.Kind.TheVariants.{Init, Chunk, Done, Read, Aborted, AckInit, AckChunk, AckDone, Nothing}
use Rattle.machine.specs.Values.{Key, same_key, repeats}
use Rattle.machine.specs.Packet.{Packet, kind, asked, init_label}
use Rattle.machine_laws.specs.Keys.{key-eq, key-refl}
use Rattle.ledger.specs.Run.{receive, send, Call, setup, packet, push, wake, report, take_whole}
use Rattle.ledger.specs.Ledger.{Page, Book, Ledger, opening, page_label, opened, init_in, packet_in, enter, ledger}
use Rattle.ledger.specs.Made.{page_of, finished, made_by, made_from, made}
use Rattle.ledger.specs.Only.{pick, among, concerns, only, of_key, opens}
use Rattle.ledger.proofs.DeedsLaws.{Deed, keep, set, finish, apply, deed, deed-is, Fits, Keyed, no-page, deed-fits, keyed-apply}
use Rattle.ledger.proofs.InOrderLaws.{row-finished}

-- ---- deeds on two books

-- that have one page for a key
page-apply : (d : Deed) (j k : Key) (b c : Book) → b.pages k ≡ c.pages k → (apply d j b).pages k ≡ (apply d j c).pages k
page-apply keep j k b c e = e
page-apply (set m) j k b c e = ap (λ (x : Option Page). cond (same_key k j) m x) e
page-apply (finish g) j k b c e = ap (λ (x : Option Page). cond (same_key k j) none x) e

-- another key's deed leaves it
other-page : (d : Deed) (j k : Key) (b : Book) → same_key k j ≡ false → (apply d j b).pages k ≡ b.pages k
other-page keep j k b h = refl
other-page (set m) j k b h = rw h
other-page (finish g) j k b h = rw h

-- ---- packets

module _ (p : Packet) (b : Book) where
  -- what it does
  abbrev its : Deed
  its = deed (kind p) p (b.pages (asked p))

  its-is : packet_in (kind p) p b ≡ apply its (asked p) b
  its-is = deed-is (kind p) p b (b.pages (asked p)) refl

  keyed-packet : Keyed b → Keyed (packet_in (kind p) p b)
  keyed-packet y = rw its-is (keyed-apply its (asked p) b (deed-fits (kind p) p (b.pages (asked p)) (y (asked p))) y)

  -- two books with one page for its key: one deed
  both_is : (c : Book) → b.pages (asked p) ≡ c.pages (asked p) → packet_in (kind p) p c ≡ apply its (asked p) c
  both_is c e = deed-is (kind p) p c (b.pages (asked p)) (sym e)

page-packet : (p : Packet) (k : Key) (b c : Book) → b.pages k ≡ c.pages k → (packet_in (kind p) p b).pages k ≡ (packet_in (kind p) p c).pages k
page-packet p k b c e =
    cases (same_key k (asked p))
    (λ h. rw (its-is p b, both_is p b c (rw (key-eq k (asked p) h) at e)) (page-apply (its p b) (asked p) k b c e))
    (λ h. rw (its-is p b, its-is p c) (other-page (its p b) (asked p) k b h ∙ e ∙ sym (other-page (its p c) (asked p) k c h)))

-- ---- messages made

pick-append : {A : Type 0} (f : A → Bool) (l m : List A) → pick f (l ++ m) ≡ pick f l ++ pick f m
unfolding pick
pick-append f [] m = refl
pick-append f (a ∷ l) m = cases (f a) (λ e. rw (e, pick-append f l m)) (λ e. rw (e, pick-append f l m))

-- those of a key are of it, those of another are not
page-own : (k : Key) (m : Option Page) → Fits k m → of_key k (page_of m) ≡ page_of m
unfolding pick
page-own k none f = refl
page-own k (some g) f = rw (ap (same_key k) (f g refl) ∙ key-refl k)

page-other : (j k : Key) (m : Option Page) → Fits j m → same_key k j ≡ false → of_key k (page_of m) ≡ []
unfolding pick
page-other j k none f h = refl
page-other j k (some g) f h = rw (f g refl, h)

finished-own : (kind : Kind) (k : Key) (m : Option Page) → Fits k m → of_key k (finished kind m) ≡ finished kind m
unfolding pick
finished-own Init k m f = refl
finished-own Chunk k m f = refl
finished-own Done k m f = page-own k m f
finished-own Read k m f = refl
finished-own Aborted k m f = refl
finished-own AckInit k m f = refl
finished-own AckChunk k m f = refl
finished-own AckDone k m f = refl
finished-own Nothing k m f = refl

finished-other : (kind : Kind) (j k : Key) (m : Option Page) → Fits j m → same_key k j ≡ false → of_key k (finished kind m) ≡ []
unfolding pick
finished-other Init j k m f h = refl
finished-other Chunk j k m f h = refl
finished-other Done j k m f h = page-other j k m f h
finished-other Read j k m f h = refl
finished-other Aborted j k m f h = refl
finished-other AckInit j k m f h = refl
finished-other AckChunk j k m f h = refl
finished-other AckDone j k m f h = refl
finished-other Nothing j k m f h = refl

-- ---- calls

page-enter : (k : Key) (c : Call) (l m : Ledger) → l.book.pages k ≡ m.book.pages k → (enter c l).book.pages k ≡ (enter c m).book.pages k
unfolding enter
page-enter k (setup receive store role) l m e = refl
page-enter k (setup send store role) l m e = e
page-enter k (packet p out) l m e = page-packet p k l.book m.book e
page-enter k (push p out) l m e = e
page-enter k (wake w out) l m e = e
page-enter k (report id out) l m e = e
page-enter k (take_whole taken out) l m e = e

-- a call that does not concern a key leaves its page
pub other-enter : (k : Key) (c : Call) (l : Ledger) → concerns k c ≡ false → (enter c l).book.pages k ≡ l.book.pages k
unfolding enter concerns
other-enter k (setup receive store role) l h = clash refl h
other-enter k (setup send store role) l h = refl
other-enter k (packet p out) l h = rw (its-is p l.book) (other-page (its p l.book) (asked p) k l.book h)
other-enter k (push p out) l h = refl
other-enter k (wake w out) l h = refl
other-enter k (report id out) l h = refl
other-enter k (take_whole taken out) l h = refl

-- a ledger with the messages made, and one with a key's part of them
record Own (k : Key) (l m : Ledger) (whole part : List Page) : Type 0 where
  keyed : Keyed l.book
  page : l.book.pages k ≡ m.book.pages k
  messages : of_key k whole ≡ part

keyed-enter : (c : Call) (l : Ledger) → Keyed l.book → Keyed (enter c l).book
unfolding enter
keyed-enter (setup receive store role) l y = no-page
keyed-enter (setup send store role) l y = y
keyed-enter (packet p out) l y = keyed-packet p l.book y
keyed-enter (push p out) l y = y
keyed-enter (wake w out) l y = y
keyed-enter (report id out) l y = y
keyed-enter (take_whole taken out) l y = y

module _ (k : Key) (l m : Ledger) (whole part : List Page) (s : Own k l m whole part) where
  -- a call that concerns the key, on both sides
  own-made-by : (c : Call) → concerns k c ≡ true → of_key k (made_by c l.book whole) ≡ made_by c m.book part
  unfolding concerns made_by pick
  own-made-by (setup receive store role) h = refl
  own-made-by (setup send store role) h = clash h refl
  own-made-by (packet p out) h =
      let e : k ≡ asked p = key-eq k (asked p) h in
      let o : Option Page = l.book.pages (asked p) in
      let own : of_key k (finished (kind p) o) ≡ finished (kind p) o = rw e (finished-own (kind p) (asked p) o (s.keyed (asked p))) in
      pick-append _ whole (finished (kind p) o) ∙ (λ i. s.messages i ++ own i)
      ∙ ap (λ (x : Option Page). part ++ finished (kind p) x) (rw e at s.page)
  own-made-by (push p out) h = clash h refl
  own-made-by (wake w out) h = clash h refl
  own-made-by (report id out) h = clash h refl
  own-made-by (take_whole taken out) h = clash h refl

  -- one that does not
  other-made-by : (c : Call) → concerns k c ≡ false → of_key k (made_by c l.book whole) ≡ part
  unfolding concerns made_by pick
  other-made-by (setup receive store role) h = clash refl h
  other-made-by (setup send store role) h = s.messages
  other-made-by (packet p out) h =
      let o : Option Page = l.book.pages (asked p) in
      pick-append _ whole (finished (kind p) o)
      ∙ (λ i. s.messages i ++ finished-other (kind p) (asked p) k o (s.keyed (asked p)) h i)
      ∙ append-nil part
  other-made-by (push p out) h = s.messages
  other-made-by (wake w out) h = s.messages
  other-made-by (report id out) h = s.messages
  other-made-by (take_whole taken out) h = s.messages

  own-enter : (c : Call) → Own k (enter c l) (cond (concerns k c) (enter c m) m) (made_by c l.book whole) (cond (concerns k c) (made_by c m.book part) part)
  own-enter c = record {
    keyed = keyed-enter c l s.keyed;
    page = cases (concerns k c) (λ h. rw h (page-enter k c l m s.page)) (λ h. rw h (other-enter k c l h ∙ s.page));
    messages = cases (concerns k c) (λ h. rw h (own-made-by c h)) (λ h. rw h (other-made-by c h));
  }

-- ---- lists of calls

-- of the first call: refused, not picked, or entered
abbrev entered : (Call → Bool) → Call × ℕ → Ledger → Ledger
entered f c l = cond (eqb c.1 0) (cond (f c.0) (enter c.0 l) l) l

abbrev made_of : (Call → Bool) → Call × ℕ → Ledger → List Page → List Page
made_of f c l g = cond (eqb c.1 0) (cond (f c.0) (made_by c.0 l.book g) g) g

module _ (f : Call → Bool) (c : Call × ℕ) (t : List (Call × ℕ)) (l : Ledger) where
  among_next : ledger (among f (c ∷ t)) l ≡ ledger (among f t) (entered f c l)
  unfolding pick ledger
  among_next =
      cases (eqb c.1 0)
      (λ e. let q : cond (eqb c.1 0) (enter c.0 l) l ≡ enter c.0 l = rw e in
      cases (f c.0) (λ h. rw (e, h) (ap (ledger (among f t)) q)) (λ h. rw (e, h)))
      (λ e. rw e)

  made-next : (g : List Page) → made_from (among f (c ∷ t)) l g ≡ made_from (among f t) (entered f c l) (made_of f c l g)
  unfolding pick made_from
  made-next g =
      cases (eqb c.1 0)
      (λ e. let q : cond (eqb c.1 0) (enter c.0 l) l ≡ enter c.0 l = rw e in
      let r : cond (eqb c.1 0) (made_by c.0 l.book g) g ≡ made_by c.0 l.book g = rw e in
      cases (f c.0) (λ h. rw (e, h) (λ i. made_from (among f t) (q i) (r i))) (λ h. rw (e, h)))
      (λ e. rw e)

-- a key's page, after calls and after those of them that concern it
page-run : (k : Key) (t : List (Call × ℕ)) (l m : Ledger) → l.book.pages k ≡ m.book.pages k
    → (ledger t l).book.pages k ≡ (ledger (only k t) m).book.pages k
unfolding pick ledger
page-run k [] l m e = e
page-run k (c ∷ t) l m e =
    rw (among_next (concerns k) c t m)
    (page-run k t (cond (eqb c.1 0) (enter c.0 l) l) (entered (concerns k) c m)
    (cases (eqb c.1 0)
    (λ z. cases (concerns k c.0) (λ h. rw (z, h) (page-enter k c.0 l m e)) (λ h. rw (z, h) (other-enter k c.0 l h ∙ e)))
    (λ z. rw z e)))

own-run : (k : Key) (t : List (Call × ℕ)) (l m : Ledger) (whole part : List Page) → Own k l m whole part
    → Own k (ledger t l) (ledger (only k t) m) (made_from t l whole) (made_from (only k t) m part)
unfolding pick ledger made_from
own-run k [] l m whole part s = s
own-run k (c ∷ t) l m whole part s =
    rw (among_next (concerns k) c t m, made-next (concerns k) c t m part)
    (own-run k t (cond (eqb c.1 0) (enter c.0 l) l) (entered (concerns k) c m) (cond (eqb c.1 0) (made_by c.0 l.book whole) whole)
    (made_of (concerns k) c m part)
    (cases (eqb c.1 0) (λ z. rw z (own-enter k l m whole part s c.0)) (λ z. rw z s)))

-- ---- the theorems

-- each open page has the key under which it stands
pub ledger-keyed : (t : List (Call × ℕ)) → Keyed (ledger t opening).book
unfolding opening pick
ledger-keyed t = (own-run [] t opening opening [] [] (record { keyed = no-page; page = refl; messages = refl })).keyed

-- an init that opens its key's page does so with what it says
pub opened-page : (p : Packet) (out : List ℕ) (l : Ledger) → kind p ≡ Init → opens p l ≡ true
    → (enter (packet p out) l).book.pages (asked p) ≡ some (opened (init_label p))
unfolding enter packet_in init_in
opened-page p out l e x = rw (e, not-true (repeats page_label (l.book.pages (asked p)) (init_label p)) x, key-refl (asked p))

-- after an acknowledged init that opened it, the page of its key is that of the key's packets since, whatever came before the init
pub since-init : (p : Packet) (out : List ℕ) (t : List (Call × ℕ)) (l m : Ledger) → kind p ≡ Init → opens p l ≡ true → opens p m ≡ true
    → (ledger ((packet p out, 0) ∷ t) l).book.pages (asked p) ≡ (ledger ((packet p out, 0) ∷ only (asked p) t) m).book.pages (asked p)
unfolding ledger
since-init p out t l m e x y =
    page-run (asked p) t (enter (packet p out) l) (enter (packet p out) m) (opened-page p out l e x ∙ sym (opened-page p out m e y))

-- .. and the message that its done makes of the page goes last in the row, the same whatever came before the init
pub since-init-made : (p q : Packet) (out room : List ℕ) (t : List (Call × ℕ)) (l m : Ledger) (g : Page) → kind p ≡ Init → opens p l ≡ true → opens p m ≡ true
    → kind q ≡ Done → asked q ≡ asked p
    → (ledger ((packet p out, 0) ∷ t) l).book.pages (asked p) ≡ some g
    → ((enter (packet q room) (ledger ((packet p out, 0) ∷ t) l)).book.row ≡ (ledger ((packet p out, 0) ∷ t) l).book.row ++ (g ∷ []))
    × ((enter (packet q room) (ledger ((packet p out, 0) ∷ only (asked p) t) m)).book.row
    ≡ (ledger ((packet p out, 0) ∷ only (asked p) t) m).book.row ++ (g ∷ []))
unfolding enter
since-init-made p q out room t l m g e x y d k o =
    let last : (v : Ledger) → v.book.pages (asked p) ≡ some g → (packet_in (kind q) q v.book).row ≡ v.book.row ++ (g ∷ []) =
    λ v z. row-finished (kind q) q v.book (some g) (ap v.book.pages k ∙ z) ∙ ap (λ (n : Kind). v.book.row ++ finished n (some g)) d in
    (last (ledger ((packet p out, 0) ∷ t) l) o, last (ledger ((packet p out, 0) ∷ only (asked p) t) m) (sym (since-init p out t l m e x y) ∙ o))

-- a key's open page is that of its own acknowledged packets and the setups of the receive store
pub own-page : (k : Key) (t : List (Call × ℕ)) → (ledger t opening).book.pages k ≡ (ledger (only k t) opening).book.pages k
own-page k t = page-run k t opening opening refl

-- the messages made under a key are those that these calls alone make
pub own-made : (k : Key) (t : List (Call × ℕ)) → of_key k (made t) ≡ made (only k t)
unfolding opening pick
own-made k t = (own-run k t opening opening [] [] (record { keyed = no-page; page = refl; messages = refl })).messages
