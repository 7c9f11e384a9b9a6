-- A record that agrees with a page, and whose indices rise below its slots: its pieces joined and added up are the page's, and a done is not refused
-- on it exactly where demand 3's condition holds of the page. Assumes nothing.
use Rattle.std.specs.Prelude.{ℕ, zero, suc, ◌≡◌, refl, Bool, true, List, ◌↔◌, length}
use Rattle.std.proofs.Common.{arith, sym, ap, ◌∙◌, length-append, eqb-true, eq-eqb}
use Rattle.std.proofs.Math.Option.{Option, none, some, none-ne-some, some-ne-none, some-injective}
use Rattle.octets.specs.BoolsLaws.{clash}
use Rattle.octets.specs.CompareLaws.{same-eq, same_refl}
use Rattle.blake3.specs.Tree.{blake3}
use Rattle.machine.specs.Values.{Label, Rec}
use Rattle.machine.specs.Sound.{rising, sizes}
use Rattle.machine.specs.Find.{is_some}
use Rattle.machine.specs.Refusals.{refusal}
use Rattle.machine.specs.Pieces.{piece_at, piece_bytes, joined}
use Rattle.machine.specs.Packet.{done_row}
use Rattle.octets.specs.ListsLaws.{◌&◌}
use Rattle.machine_steps.proofs.Refusals.{refusal-clear, clear-refusal}
use Rattle.machine_steps.proofs.Pieces.{some_bytes}
use Rattle.machine_steps.proofs.ByIndex as by
use Rattle.machine_steps.proofs.ByIndex.{join-alike, joined-by-index, length-joined, complete-some, some-complete}
use Rattle.ledger.specs.Ledger.{Piece, Page, look, count_of, join_from, sizes_from, whole_of, Due}
use Rattle.ledger.proofs.AgreeLaws.{Agrees, Tied}

-- ---- what is joined

join-look : (i n : ℕ) (l : List Piece) → join_from i n l ≡ by.join_from i n (λ j. look j l)
unfolding join_from by.join_from
join-look i zero l = refl
join-look i (suc n) l = rw (join-look (suc i) n l)

length-join : (i n : ℕ) (l : List Piece) → length (join_from i n l) ≡ sizes_from i n l
unfolding join_from sizes_from
length-join i zero l = refl
length-join i (suc n) l = rw (length-append, length-join (suc i) n l)

-- ---- there or not

some-not : {A : Type 0} (o : Option A) → is_some o ≡ true → o ≡ none → ⊥
some-not none h e = clash h refl
some-not (some a) h e = some-ne-none a e

not_some : {A : Type 0} (o : Option A) → (o ≡ none → ⊥) → is_some o ≡ true
not_some none h = absurd (h refl)
not_some (some a) h = refl

-- ---- a record and its page

module _ (r : Rec) (g : Page) (a : Agrees r g) (u : rising 0 r.slots r.cells ≡ true) where
  -- its pieces joined are the page's
  pub agrees_joined : whole_of g ≡ joined r.cells
  agrees_joined =
      join-look 0 (count_of g) g.pieces
      ∙ ap (λ (n : ℕ). by.join_from 0 n (λ j. look j g.pieces)) (sym a.slotted)
      ∙ join-alike (λ j. look j g.pieces) (λ j. piece_bytes j r.cells) 0 r.slots (λ j b c. sym (a.pieced j))
      ∙ joined-by-index r.slots r.cells u

  agrees-sizes : sizes_from 0 (count_of g) g.pieces ≡ sizes r.cells
  agrees-sizes = sym (length-join 0 (count_of g) g.pieces) ∙ ap length agrees_joined ∙ length-joined r.cells

  agrees-some : (i : ℕ) → is_some (look i g.pieces) ≡ is_some (piece_at i r.cells)
  agrees-some i = ap is_some (sym (a.pieced i)) ∙ some_bytes i r.cells

  agrees-total : r.label.total ≡ g.label.total
  agrees-total = ap (λ (h : Label). h.total) a.heads

  module _ (count : ℕ) (sum : List ℕ) (known : Bool) where
    done-due : refusal (done_row count sum known (some r)) ≡ 0 → Due g count sum known
    done-due e =
        let k = refusal-clear (done_row count sum known (some r)) refl e in
        let c : count ≡ r.slots = eqb-true count r.slots k.0 in
        let f = complete-some r.slots r.cells u (eqb-true (length r.cells) r.slots k.1.0) in
        record {
          counted = c ∙ a.slotted;
          filled = λ i b. some-not (look i g.pieces) (agrees-some i ∙ f i (omega arith));
          added = rw (c ∙ a.slotted) (agrees-sizes ∙ eqb-true (sizes r.cells) r.label.total k.1.1.0 ∙ agrees-total);
          summed = same-eq sum (blake3 (joined r.cells)) k.1.1.1.0 ∙ ap blake3 (sym agrees_joined);
          keyed = k.1.1.1.1.0;
        }

    due-done : Due g count sum known → refusal (done_row count sum known (some r)) ≡ 0
    due-done d =
        let c : count ≡ r.slots = d.counted ∙ sym a.slotted in
        clear-refusal (done_row count sum known (some r))
        (eq-eqb count r.slots c
        & eq-eqb (length r.cells) r.slots (some-complete r.slots r.cells u (λ i b. sym (agrees-some i) ∙ not_some (look i g.pieces) (d.filled i (omega arith))))
        & eq-eqb (sizes r.cells) r.label.total (sym agrees-sizes ∙ (rw d.counted at d.added) ∙ sym agrees-total)
        & rw (d.summed, agrees_joined) (same_refl (blake3 (joined r.cells))) & d.keyed & tt)

-- a done is not refused exactly where there is a page for which it is due
pub done-iff : (o : Option Rec) (m : Option Page) (count : ℕ) (sum : List ℕ) (known : Bool)
    → ((r : Rec) → o ≡ some r → rising 0 r.slots r.cells ≡ true) → Tied o m
    → (refusal (done_row count sum known o) ≡ 0) ↔ ((g : Page) × (m ≡ some g) × Due g count sum known)
unfolding refusal
done-iff none none count sum known u t = (λ e. absurd (omega arith), λ d. absurd (none-ne-some d.0 d.1))
done-iff none (some g) count sum known u t = absurd t
done-iff (some r) none count sum known u t = absurd t
done-iff (some r) (some g) count sum known u t = (
  (λ e. (g, refl, done-due r g t (u r refl) count sum known e)),
  (λ d. due-done r g t (u r refl) count sum known (rw (some-injective g d.0 d.1) d.2)),
)
