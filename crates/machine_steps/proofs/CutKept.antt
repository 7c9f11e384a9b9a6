-- Every piece that a push cuts is kept by a receiver whose record has the length of what was pushed: as a chunk it passes rows 9, 10 and 11.
-- Assumes nothing.
use Rattle.std.specs.Prelude.{ℕ, zero, suc, ◌+◌, ◌*◌, ◌-◌, ◌<◌, ◌≡◌, Bool, false, not, ◌&&◌, List, length, take, drop, eqb}
use Rattle.std.proofs.Common.{arith, length-drop}
use Rattle.std.proofs.Math.Path.{refl}
use Rattle.std.proofs.Math.Bool.{true}
use Rattle.std.proofs.Math.ListN.{length-take}
use Rattle.std.proofs.Math.Dec.{leb}
use borrow.Author.Tests.{eq-eqb, ne_eqb, le-leb, le-ltb, lt-ltb, leb-true, leb-false}
use Rattle.octets.specs.BoolsLaws.{cases}
use Rattle.octets.specs.Lists.{All}
use Rattle.machine.specs.Limits.{cut_by, least_piece, ceil, slots_of, top_of}
use Rattle.machine.specs.Values.{Cell, Rec}
use Rattle.machine.specs.Refusals.{refusal}
use Rattle.machine.specs.Pieces.{new_cell, rest, cut_pieces}
use Rattle.machine.specs.Chains.{first}
use Rattle.machine.specs.Packet.{too_short, piece_row}

-- a chunk with this piece, at the offset that a wake sends it with, passes rows 9, 10 and 11 of the record
abbrev pub Kept : Rec → Cell → Type 0
Kept r c = refusal (piece_row c.index (cut_by * c.index) (length c.bytes) r) ≡ 0

and-false : (b : Bool) → (b && false) ≡ false
and-false true = refl
and-false false = refl

-- the piece that starts what is left behind i pieces
module _ (r : Rec) (i : ℕ) (bytes : List ℕ) (some : 0 < length bytes) (left : length bytes ≡ r.label.total - cut_by * i) where
  abbrev total : ℕ
  total = r.label.total

  abbrev size : ℕ
  size = length (take cut_by bytes)

  -- it has 1,300 bytes, or it ends the message
  long-or-last : too_short total i (cut_by * i) size ≡ false
  unfolding too_short
  long-or-last =
      cases (leb least_piece size)
      (λ e. rw (le-ltb size least_piece (leb-true _ _ e)) refl)
      (λ e.
      let short = leb-false least_piece size e in
      let ends = eq-eqb (cut_by * i + size) total (omega (arith, short, length-take cut_by bytes)) in
      rw (lt-ltb size least_piece short, ends) (and-false (not (eqb i (top_of total)))))

  kept_here : (place : ℕ) → Kept r (new_cell place i (take cut_by bytes))
  unfolding refusal
  kept_here place =
      let inside = le-leb (cut_by * i + size) total (omega (arith, length-take cut_by bytes)) in
      let below : leb i (top_of total) ≡ true = rw (ne_eqb total 0 (λ e. omega arith)) (le-leb i (ceil total least_piece - 1) (omega arith)) in
      rw (inside, below, long-or-last) refl

-- .. and so on
kept_from : (r : Rec) (n i : ℕ) (places bytes : List ℕ) → n ≡ slots_of (length bytes) → length bytes ≡ r.label.total - cut_by * i
    → All (Kept r) (cut_pieces n i places bytes)
unfolding cut_pieces
kept_from r zero i places bytes e h = tt
kept_from r (suc n) i places bytes e h =
    let d = length-drop cut_by bytes in (
      kept_here r i bytes (omega arith) h (first places),
      kept_from r n (suc i) (rest places) (drop cut_by bytes) (omega (arith, d)) (omega (arith, d)),
    )

-- every piece that a push of these bytes cuts, into whatever cells
pub cut-kept : (r : Rec) (places bytes : List ℕ) → r.label.total ≡ length bytes → All (Kept r) (cut_pieces (slots_of (length bytes)) 0 places bytes)
cut-kept r places bytes e = kept_from r (slots_of (length bytes)) 0 places bytes refl (omega arith)
