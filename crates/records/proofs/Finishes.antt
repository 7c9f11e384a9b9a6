-- The calls of a record that becomes whole. In each law b is the store at entry. Assumes nothing.
use Prim.Native.Nat.{ℕ}
use mathlib.Core.Path.{◌≡◌, sym, ap, ◌∙◌}
use mathlib.Core.List.{List, [], ◌∷◌}
use lib.ListN.{get_or}
use Rattle.octets.specs.Octets.{put}
use Rattle.machine.specs.Codes.{kind_whole}
use Rattle.machine.specs.Values.{Key, Label}
use Rattle.machine.specs.Layout.{whole_at, rec_off, label_of}
use Rattle.records.specs.Seek.{seek}
use Rattle.records.specs.HeldAt.{place_at, row_in, key_in}
use Rattle.records.specs.MetLaws.{read-key, rec-label}
use Rattle.records.specs.Finishing.{finished}

-- the id of a row is its record's key
pub end_is : (b : List ℕ) (link : ℕ) {k : Key} {r : ℕ} → k ≡ (label_of (row_in b link)).id → r ≡ seek k b whole_at → r ≡ seek (key_in b link) b whole_at
end_is b link e f = f ∙ ap (λ (k : Key). seek k b whole_at) (e ∙ sym (ap (λ (l : Label). l.id) (rec-label b link)) ∙ read-key b (place_at b link))

pub finished-is : (b : List ℕ) {m1 m2 l : List ℕ} {row : ℕ} (link last : ℕ) → row ≡ rec_off (place_at b link) → m1 ≡ put b link (get_or b row 0 ∷ [])
    → m2 ≡ put m1 row (0 ∷ kind_whole ∷ []) → l ≡ put m2 last (place_at b link ∷ []) → l ≡ finished link last b
finished-is b {row = row} link last e w1 w2 w3 =
    w3 ∙ (λ i. put (w2 i) last (place_at b link ∷ [])) ∙ (λ i. put (put (w1 i) row (0 ∷ kind_whole ∷ [])) last (place_at b link ∷ []))
    ∙ (λ i. put (put (put b link (get_or b (e i) 0 ∷ [])) (e i) (0 ∷ kind_whole ∷ [])) last (place_at b link ∷ []))

pub ruleset whole = (end_is, finished-is)
