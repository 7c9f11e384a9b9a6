-- Take, by the ledger's row: when it finds none, when it answers 0, and that it puts out the first page. Assumes nothing.
use Rattle.std.specs.Prelude.{ℕ, ◌≤◌, ◌≡◌, true, ◌&&◌, ◌↔◌, length, get_or, leb}
use Rattle.std.proofs.Common.{arith, sym, ap, ◌∙◌, le-leb}
use Rattle.std.proofs.Math.Path.{refl}
use mathlib.Core.List.{List, [], ◌∷◌, ◌++◌}
use Rattle.octets.specs.Octets.{put}
use Rattle.octets.specs.BoolsLaws.{cases}
use Rattle.octets.specs.Lists.{All}
use Rattle.octets.specs.ListsLaws.{all_right}
use Rattle.machine.specs.Codes.{kind_whole}
use Rattle.machine.specs.Values.{Label, Rec}
use Rattle.machine.specs.Chains.{chain_rows}
use Rattle.machine.specs.Layout.{rec_place, rec_row, rec_of, rec_at, topic_size_at, label_of, decode}
use Rattle.machine.specs.Sound.{rising}
use Rattle.machine.specs.Valid.{RecSized}
use Rattle.machine.specs.Refusals.{refusal}
use Rattle.machine.specs.Pieces.{joined}
use Rattle.machine.specs.Take.{take_room, taken_room, oldest_row, taken_bytes}
use Rattle.machine_laws.specs.Fine.{fits-fine}
use Rattle.machine_laws.specs.Rows.{Held}
use Rattle.machine_laws.specs.RecRow.{rec-back, rec-length}
use Rattle.machine_laws.specs.StoreRows.{held_whole}
use Rattle.machine_laws.specs.Rep.{Rep, encode-rep}
use Rattle.ledger.specs.Ledger.{Page}
use Rattle.ledger.specs.Statement.{Given}
use Rattle.ledger.proofs.StoredLaws.{Stored}
use Rattle.ledger.proofs.AgreeLaws.{Agrees, Rows}
use Rattle.ledger.proofs.DueLaws.{agrees_joined}

-- ---- what it answers

-- it finds none exactly where the row is empty
pub none-iff : (l : List Rec) (row : List Page) (taken out : List ℕ) → Rows l row → (refusal (oldest_row l taken out) ≡ 23) ↔ (row ≡ [])
unfolding refusal
none-iff [] [] taken out h = (λ e. refl, λ e. refl)
none-iff [] (g ∷ row) taken out h = absurd h
none-iff (r ∷ l) [] taken out h = absurd h
none-iff (r ∷ l) (g ∷ row) taken out h = (
  (λ e. cases (leb take_room (length out) && leb (taken_room r.label.total) (length taken))
      (λ t. absurd (let z : ◌≡◌ {A = ℕ} 0 23 = rw t at e in omega arith))
      (λ t. absurd (let z : ◌≡◌ {A = ℕ} 2 23 = rw t at e in omega arith))),
  (λ e. cc),
)

-- with full buffers it takes the first
pub one-taken : (l : List Rec) (row : List Page) (taken out : List ℕ) (g : Page) (t : List Page) → Rows l row → row ≡ g ∷ t
    → take_room ≤ length out → taken_room g.label.total ≤ length taken → refusal (oldest_row l taken out) ≡ 0
unfolding refusal
one-taken [] [] taken out g t h e a b = cc
one-taken [] (q ∷ row) taken out g t h e a b = absurd h
one-taken (r ∷ l) [] taken out g t h e a b = absurd h
one-taken (r ∷ l) (q ∷ row) taken out g t h e a b =
    let w : q ≡ g = cc in
    let v : r.label.total ≡ g.label.total = ap (λ (x : Label). x.total) h.0.heads ∙ ap (λ (x : Page). x.label.total) w in
    rw (le-leb take_room (length out) a, le-leb (taken_room r.label.total) (length taken) (omega arith))

-- ---- what it puts out

-- a record's row and its pieces joined are what a page that agrees with it gives
row-given : (r : Rec) (g : Page) (row taken : List ℕ) (next : ℕ) → Agrees r g → rising 0 r.slots r.cells ≡ true → RecSized r → row ≡ rec_row kind_whole next r
    → Given g taken (put taken 0 (row ++ joined r.cells))
unfolding rec_row rec_of
row-given r g row taken next a u z e = record {
  row = row;
  sized = ap length e ∙ rec-length kind_whole next r z;
  label = ap label_of e ∙ ap (λ (x : Rec). x.label) (rec-back kind_whole next r z) ∙ a.heads;
  topic_size = ap (λ (x : List ℕ). get_or x topic_size_at 0) e ∙ ap (λ (x : Label). length x.topic) a.heads;
  bytes = ap (λ (x : List ℕ). put taken 0 (row ++ x)) (sym (agrees_joined r g a u));
}

module _ (role : ℕ) (b : List ℕ) (h : Stored role b) where
  whole-rows : Held (rec_at b) (chain_rows rec_place (rec_row kind_whole) (decode b).whole)
  whole-rows =
      let rep : Rep (decode b) b = rw h.bytes at (encode-rep role (decode b) h.valid) in
      held_whole (decode b) (rec_at b) rep.recs

  whole-sized : All RecSized (decode b).whole
  whole-sized = all_right RecSized (decode b).held (decode b).whole h.valid.sized

  pub taken-given : (l : List Rec) (row : List Page) (taken out : List ℕ) → (decode b).whole ≡ l → Rows l row → refusal (oldest_row l taken out) ≡ 0
      → (g : Page) × (t : List Page) × (row ≡ g ∷ t) × Given g taken (put taken 0 (taken_bytes b l))
  unfolding refusal taken_bytes
  taken-given [] [] taken out w a e = absurd (omega arith)
  taken-given [] (g ∷ row) taken out w a e = absurd a
  taken-given (r ∷ l) [] taken out w a e = absurd a
  taken-given (r ∷ l) (g ∷ row) taken out w a e =
      let fits = rw w at h.valid.whole in
      let rows = rw w at whole-rows in
      let sized = rw w at whole-sized in
      (g, row, refl, row-given r g (rec_at b r.place) taken _ a.0 (fits-fine role kind_whole r fits.0).rises sized.0 rows.0)
