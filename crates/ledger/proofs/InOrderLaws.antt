-- "Take gives the messages so made since the receive store was last set up, oldest first, each once", over every list of calls. Assumes nothing.
use Rattle.std.specs.Prelude.{ℕ, ◌≤◌, ◌≡◌, refl, cond, eqb}
use Rattle.std.proofs.Math.Path.{sym, ap}
use Rattle.std.proofs.Common.{◌∙◌, eqb-true}
use mathlib.Core.List.{List, [], ◌∷◌, ◌++◌, append-nil, append_assoc}
use Rattle.std.proofs.Math.Option.{Option, none, some}
use Rattle.octets.specs.BoolsLaws.{cases}
use Rattle.octets.specs.Lists.{All}
use Rattle.packet.specs.declared.header.Kind.{Kind}
use Rattle.packet.specs.declared.header.Kind.TheVariants.{Init, Chunk, Done, Read, Aborted, AckInit, AckChunk, AckDone, Nothing}
use Rattle.machine.specs.Limits.{most_cells}
use Rattle.machine.specs.Values.{repeats}
use Rattle.machine.specs.Packet.{Packet, kind, asked, init_label}
use Rattle.ledger.specs.Run.{receive, send, Stores, Call, setup, packet, push, wake, report, take_whole, answer, after, left, answered, fresh_stores, Typed}
use Rattle.ledger.specs.Ledger.{Page, Book, Ledger, opening, page_label, init_in, chunk_in, done_in, packet_in, enter, ledger, later}
use Rattle.ledger.specs.Statement.{Given}
use Rattle.ledger.specs.Made.{finished, made_by, made_from, made, Filled, given_by, given_from, given, Gives, Taken}
use Rattle.ledger.proofs.HoldsLaws.{Holds, fresh_holds, call-holds}
use Rattle.ledger.proofs.DemandLaws.{holds-demand}

-- the page of a done goes last in the row, and nothing else does
pub row-finished : (k : Kind) (p : Packet) (b : Book) (m : Option Page) → b.pages (asked p) ≡ m → (packet_in k p b).row ≡ b.row ++ finished k m
unfolding packet_in init_in chunk_in done_in
row-finished Init p b m e = cases (repeats page_label (b.pages (asked p)) (init_label p)) (λ z. rw z (sym (append-nil b.row)))
    (λ z. rw z (sym (append-nil b.row)))
row-finished Chunk p b none e = rw e (sym (append-nil b.row))
row-finished Chunk p b (some g) e = rw e (sym (append-nil b.row))
row-finished Done p b none e = rw e (sym (append-nil b.row))
row-finished Done p b (some g) e = rw e
row-finished Read p b m e = sym (append-nil b.row)
row-finished Aborted p b m e = sym (append-nil b.row)
row-finished AckInit p b m e = sym (append-nil b.row)
row-finished AckChunk p b m e = sym (append-nil b.row)
row-finished AckDone p b m e = sym (append-nil b.row)
row-finished Nothing p b m e = sym (append-nil b.row)

-- one more buffer, filled with one more message
gives-last : (row : List Page) (l : List Filled) (g : Page) (x : Filled) → Gives row l → Given g x.before x.after → Gives (row ++ (g ∷ [])) (l ++ (x ∷ []))
gives-last [] [] g x h y = (y, tt)
gives-last [] (z ∷ l) g x h y = absurd h
gives-last (q ∷ row) [] g x h y = absurd h
gives-last (q ∷ row) (z ∷ l) g x h y = (h.0, gives-last row l g x h.1 y)

module _ (s : Stores) (l : Ledger) (h : Holds s l) (pages : List Page) (buffers : List Filled) (y : Taken l.book.row pages buffers) where
  done-taken : (c : Call) → answer c s ≡ 0 → Taken (enter c l).book.row (made_by c l.book pages) (given_by c s buffers)
  unfolding enter made_by given_by
  done-taken (setup receive store role) e = record { gone = []; rest = refl; gives = tt }
  done-taken (setup send store role) e = y
  done-taken (packet p out) e =
      let m : Option Page = l.book.pages (asked p) in
      record {
        gone = y.gone;
        rest =
            ap (λ (x : List Page). x ++ finished (kind p) m) y.rest ∙ append_assoc y.gone l.book.row (finished (kind p) m)
            ∙ ap (λ (x : List Page). y.gone ++ x) (sym (row-finished (kind p) p l.book m refl));
        gives = y.gives;
      }
  done-taken (push p out) e = y
  done-taken (wake w out) e = y
  done-taken (report id out) e = y
  done-taken (take_whole taken out) e =
      let q = (holds-demand s l h).take_gives taken out e in
      record {
        gone = y.gone ++ (q.0 ∷ []);
        rest =
            y.rest ∙ ap (λ (x : List Page). y.gone ++ x) q.2 ∙ sym (append_assoc y.gone (q.0 ∷ []) q.1)
            ∙ ap (λ (x : List Page). (y.gone ++ (q.0 ∷ [])) ++ later x) (sym q.2);
        gives = gives-last y.gone buffers q.0 _ y.gives q.3;
      }

  call-taken : (c : Call) → Taken (cond (eqb (answer c s) 0) (enter c l) l).book.row (cond (eqb (answer c s) 0) (made_by c l.book pages) pages)
      (cond (eqb (answer c s) 0) (given_by c s buffers) buffers)
  call-taken c = cases (eqb (answer c s) 0) (λ e. rw e (done-taken c (eqb-true (answer c s) 0 e))) (λ e. rw e y)

run-taken : (t : List Call) (s : Stores) (l : Ledger) → All Typed t → Holds s l → (pages : List Page) (buffers : List Filled)
    → Taken l.book.row pages buffers → Taken (ledger (answered t s) l).book.row (made_from (answered t s) l pages) (given_from t s buffers)
unfolding left answered ledger made_from given_from
run-taken [] s l z h pages buffers y = y
run-taken (c ∷ t) s l z h pages buffers y =
    run-taken t (after c s) (cond (eqb (answer c s) 0) (enter c l) l) z.1 (call-holds c s l z.0 h) _ _ (call-taken s l h pages buffers y c)

-- the buffers that the takes of a run filled are, one for one and in order, the first of the messages made; the others are the row
pub takes-give : (c d : ℕ) → 1 ≤ c → c ≤ most_cells → 1 ≤ d → d ≤ most_cells → (t : List Call) → All Typed t
    → Taken (ledger (answered t (fresh_stores c d)) opening).book.row (made (answered t (fresh_stores c d))) (given t (fresh_stores c d))
unfolding opening
takes-give c d a b e f t z = run-taken t (fresh_stores c d) opening z (fresh_holds c d a b e f) [] [] (record { gone = []; rest = refl; gives = tt })
