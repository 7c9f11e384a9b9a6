-- The oldest whole record, in sound bytes. Assumes nothing.
use Rattle.std.specs.Prelude.{ℕ, ◌≤◌, ◌<◌, ◌≡◌, refl, true, List, [], ◌∷◌, map, get_or}
use Rattle.std.proofs.Common.{arith, subst, eq-eqb, ne_eqb}
use Rattle.octets.specs.Octets.{Bytes}
use Rattle.octets.specs.Lists.{All}
use Rattle.octets.specs.ListsLaws.{all_right}
use Rattle.octets.specs.PartsLaws.{get_or-part}
use Rattle.machine.specs.Limits.{rec_count, rec_bytes}
use Rattle.machine.specs.Codes.{role_receive, kind_whole}
use Rattle.machine.specs.Values.{Rec}
use Rattle.machine.specs.Chains.{link, walk}
use Rattle.machine.specs.Layout.{whole_at, count_at, first_cell_at, rec_off, rec_at, label_of, rec_of, read_cells, read_rec, decode}
use Rattle.machine.specs.Sound.{sizes, rec_fits}
use Rattle.machine.specs.Valid.{LabelSized, RecSized, Valid}
use Rattle.machine_laws.specs.Fine.{Fine, fits-fine, fine-complete}
use Rattle.machine_laws.specs.SoundValid.{sound-valid}
use Rattle.machine_writes.specs.Links.{Links}
use Rattle.machine_writes.specs.InRange.{links}
use Rattle.records.specs.HeldAt.{place_at, row_in, rec_in, Reached}
use Rattle.inbox.specs.Oldest.{Oldest}

-- the whole records, as their chain starts
pub none-whole : (b : List ℕ) → get_or b whole_at 0 ≡ 0 → (decode b).whole ≡ []
unfolding decode walk
none-whole b e = rw (eq-eqb (get_or b whole_at 0) 0 e)

-- what follows the oldest
abbrev pub younger : List ℕ → List Rec
younger b = map (read_rec b) (walk (link (rec_at b)) rec_count (link (rec_at b) (get_or b whole_at 0)))

pub some-whole : (b : List ℕ) → 0 < get_or b whole_at 0 → (decode b).whole ≡ rec_in b whole_at ∷ younger b
unfolding decode walk
some-whole b h = rw (ne_eqb (get_or b whole_at 0) 0 (λ e. omega arith))

module _ (b : List ℕ) (y : Bytes b) (h : Oldest b) where
  abbrev r : Rec
  r = rec_in b whole_at

  in-range : Links b
  in-range = links role_receive b y h.sound

  pub oldest-placed : Reached b whole_at
  oldest-placed = record { some = h.some; small = in-range.whole.small; inside = omega (arith, in-range.long); long = omega (arith, in-range.long) }

  valid : Valid role_receive (decode b)
  valid = (sound-valid role_receive b y h.sound).0

  pub oldest-sized : RecSized r
  oldest-sized = (subst (All RecSized) (some-whole b h.some) (all_right RecSized (decode b).held (decode b).whole valid.sized)).0

  pub oldest-fine : Fine role_receive kind_whole r
  oldest-fine = fits-fine role_receive kind_whole r (subst (All (λ (x : Rec). rec_fits role_receive kind_whole x ≡ true)) (some-whole b h.some) valid.whole).0

  -- it is complete
  pub oldest-sizes : sizes r.cells ≡ r.label.total
  oldest-sizes = (fine-complete role_receive kind_whole r (λ e. omega arith) oldest-fine).1

  -- its fields and its pieces, from its row
  pub oldest-head : LabelSized (label_of (row_in b whole_at))
  unfolding rec_of
  oldest-head = oldest-sized.label

  pub oldest-first : get_or (row_in b whole_at) first_cell_at 0 ≤ get_or b count_at 0
  oldest-first =
      omega (arith, get_or-part b (rec_off (place_at b whole_at)) rec_bytes first_cell_at (omega arith), in-range.firsts (place_at b whole_at) h.some in-range.whole.small)

  pub oldest-pieces : sizes (read_cells b (get_or (row_in b whole_at) first_cell_at 0)) ≡ r.label.total
  unfolding rec_of
  oldest-pieces = oldest-sizes

-- its length, from its row
pub total-is : (b : List ℕ) → (label_of (row_in b whole_at)).total ≡ (rec_in b whole_at).label.total
unfolding rec_of
total-is b = refl
