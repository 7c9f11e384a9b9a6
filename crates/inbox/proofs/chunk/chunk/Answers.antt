-- Assumes nothing.
use native.Mathlib.Omega.{arith}
use Rattle.std.proofs.Common.{ℕ, List, ◌≡◌, ◌++◌, refl, sym, ap, ◌∙◌, leb-true, length}
use Rattle.answer.specs.AnswersLaws.{some_number}
use Rattle.machine.specs.Values.{Key, Rec}
use Rattle.machine.specs.Layout.{encode, decode}
use Rattle.machine.specs.Packet.{piece_row, cell_row}
use Rattle.machine.specs.Receive.{chunk_step}
use Rattle.machine.specs.Refusals.{refusal}
use Rattle.machine_steps.proofs.Refusals.{refusal-clear}
use Rattle.records.specs.HeldAt.{place_at, rec_in}
use Rattle.records.specs.RefuseLaws.{front-stop, front-next, known, unknown_step, known_step, refused_up}
use Rattle.pieces.specs.InPlace.{Spot}
use Rattle.inbox.proofs.chunk.chunk.Goals as goal
use Rattle.inbox.proofs.chunk.chunk.Goals.{In-Some, After-find-at}

-- the record, in the bytes that the call was given
abbrev r : In-Some → Rec
r c = rec_in c.args.recv.now c.in-Some.held.row.link

-- what the piece's tests answer of it, and those of the cell
by-piece : (c : In-Some) {n : ℕ} → let a = c.args in let h = c.in-Some.held.row in
    n ≡ refusal (piece_row a.index a.offset (length a.piece.now) (rec_in h.store.now h.link))
    → n ≡ refusal (piece_row a.index a.offset (length a.piece.now) (r c))
by-piece c e =
    let a = c.args in
    e ∙ ap (λ (b : List ℕ). refusal (piece_row a.index a.offset (length a.piece.now) (rec_in b c.in-Some.held.row.link))) c.in-Some.ensures.0

by-cell : (c : After-find-at) {n : ℕ} → let p = c.find-at.result in let b = p.held.row.store.now in
    n ≡ refusal (cell_row p.index (decode b) (rec_in b p.held.row.link))
    → n ≡ refusal (cell_row c.args.index (decode c.args.recv.now) (rec_in c.args.recv.now c.in-Some.held.row.link))
by-cell c e =
    let f = c.find-at.ensures in
    e ∙ (λ i. refusal (cell_row (f.1 i) (decode (f.0 i).row.store.now) (rec_in (f.0 i).row.store.now (f.0 i).row.link)))
    ∙ ap (λ (b : List ℕ). refusal (cell_row c.args.index (decode b) (rec_in b c.in-Some.held.row.link))) c.in-Some.ensures.0

-- where the piece's tests are clear, the whole row answers what those of the cell answer
both-rows : (c : In-Some) {n : ℕ} → let a = c.args in let rest = cell_row a.index (decode a.recv.now) (r c) in
    0 ≡ refusal (piece_row a.index a.offset (length a.piece.now) (r c)) → n ≡ refusal rest
    → n ≡ refusal (piece_row a.index a.offset (length a.piece.now) (r c) ++ rest)
both-rows c e f =
    let a = c.args in
    f ∙ sym (front-next (piece_row a.index a.offset (length a.piece.now) (r c)) (cell_row a.index (decode a.recv.now) (r c)) refl (sym e))

-- .. and where its link stands
spot-at : (b c : List ℕ) (l i at : ℕ) → c ≡ b → Spot c (place_at c l) i at → Spot b (place_at b l) i at
spot-at b c l i at e s = rw (sym e) s

pub returns-in_default : goal.returns-in_default
returns-in_default c = unknown_step _ _ _ _ c.in_default.ensures

pub returns-in_err-refusal : goal.returns-in_err-refusal
returns-in_err-refusal c =
    let s = (goal.at.returns-in_err-refusal c).In-Some in
    let a = c.args in
    let e = c.in_err-refusal.field-0.0 in
    refused_up _ _ _ _ _ c.from_residual.ensures.1
    (known _ _ _ _ s.in-Some.ensures.2
    (front-stop (piece_row a.index a.offset (length a.piece.now) (r s)) (cell_row a.index (decode a.recv.now) (r s)) _ (by-piece s c.in_err-refusal.ensures)
    (λ z. omega (arith, z, some_number e))))

pub returns-in_err-cell_refusal : goal.returns-in_err-cell_refusal
returns-in_err-cell_refusal c =
    let s = (goal.at.returns-in_err-cell_refusal c).In-Some in
    refused_up _ _ _ _ _ c.from_residual-in_err-cell_refusal.ensures.1
    (known _ _ _ _ s.in-Some.ensures.2
    (both-rows s (by-piece s c.in_ok-refusal.ensures) (by-cell (goal.at.returns-in_err-cell_refusal c).After-find-at c.in_err-cell_refusal.ensures)))

pub put_piece-requires : goal.put_piece-requires
put_piece-requires c =
    let s = (goal.at.put_piece-requires c).In-Some in
    let f = c.find-at.ensures in
    let spot : Spot s.in-Some.held.row.store.now (place_at s.in-Some.held.row.store.now s.in-Some.held.row.link) c.args.index c.find-at.result.at =
    rw (sym f.0, sym f.1) c.find-at.result.spot in
    let piece = refusal-clear _ refl (sym (by-piece s c.in_ok-refusal.ensures)) in
    let room = refusal-clear _ refl (sym (by-cell (goal.at.put_piece-requires c).After-find-at c.in_ok-cell_refusal.ensures)) in (
      s.in-Some.ensures.1,
      spot-at _ _ _ _ _ s.in-Some.ensures.0 spot,
      leb-true _ _ piece.1.0,
      leb-true _ _ room.1.0,
      c.requires.1,
      room.0,
    )

pub returns : goal.returns
returns c =
    let s = (goal.at.returns c).In-Some in
    let f = s.in-Some.ensures in
    let a = c.args in
    known_step _ _ _ _ _ _ f.2
    (both-rows s (by-piece s c.in_ok-refusal.ensures) (by-cell (goal.at.returns c).After-find-at c.in_ok-cell_refusal.ensures))
    (c.put_piece.ensures ∙ ap (λ (k : Key). encode (chunk_step k a.index a.piece.now (decode a.recv.now))) f.3)
