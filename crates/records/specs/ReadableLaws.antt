-- A sound store can be read along all its chains: its head fits, records stand inside, and so do cells, whose sizes are in range. Assumes nothing.
use Rattle.std.specs.Prelude.{ℕ, zero, suc, ◌+◌, ◌≤◌, ◌<◌, ◌≡◌, refl, true, List, length, get_or, eqb, leb}
use Rattle.std.proofs.Common.{arith, ap, ◌∙◌, add-zero, le-leb}
use Rattle.std.proofs.lemmas.Bool.{eqb-false}
use Rattle.std.proofs.lemmas.List.{length-map}
use Rattle.octets.specs.Octets.{Bytes, num}
use Rattle.octets.specs.BoolsLaws.{cases, both}
use Rattle.octets.specs.Lists.{all}
use Rattle.octets.specs.PartsLaws.{get_or-part, part-part}
use Rattle.packet.specs.Frame.{largest_piece}
use Rattle.machine.specs.Limits.{rec_count, rec_bytes, cell_bytes, most_cells}
use Rattle.machine.specs.Values.{Cell}
use Rattle.machine.specs.Chains.{link, walk}
use Rattle.machine.specs.Counting.{inside}
use Rattle.machine.specs.Layout.{held_at, whole_at, free_cells_at, count_at, first_cell_at, size_at, size_width, rec_off, cell_off, rec_at, cell_at}
use Rattle.machine.specs.Layout.{rec_chain, cell_chain, num_at, rec_of, read_cell, read_cells, read_rec, decode}
use Rattle.machine.specs.Sound.{sound_tests, sound}
use Rattle.machine_laws.specs.Tests.{every_true}
use Rattle.machine_laws.specs.Counting.{is-inside}
use Rattle.machine_writes.specs.Links.{count, Links}
use Rattle.machine_writes.specs.InRange.{links}
use Rattle.rows.specs.Asked.{head_fits}
use Rattle.soundness.specs.Walked.{readable, Room}
use Rattle.records.specs.HeldAt.{place_at, row_in, rec_in, HeldAt}
use Rattle.records.specs.MetLaws.{here-within}

module _ (b : List ℕ) (h : Links b) where
  -- a cell from 1 to C
  cell-read : (p : ℕ) → 0 < p → p ≤ count b → readable (count b) b p ≡ true
  cell-read p z m =
      let size : num_at size_width (cell_at b p) size_at ≤ largest_piece =
      omega (arith, h.sizes p z m, ap (num size_width) (part-part b (cell_off p) cell_bytes size_at size_width (omega arith))) in
      both (inside (count b) p) (leb (num_at size_width (cell_at b p) size_at) largest_piece) (is-inside (count b) p z m)
      (le-leb (num_at size_width (cell_at b p) size_at) largest_piece size)

  -- the cells of a chain, and the records of one
  cells-read : (n p : ℕ) → p ≤ count b → all (readable (count b) b) (walk (link (cell_at b)) n p) ≡ true
  unfolding walk
  cells-read zero p m = refl
  cells-read (suc n) p m = cases (eqb p 0) (λ e. rw e refl) (λ e. rw e (
      let z : 0 < p = omega (arith, eqb-false p 0 e) in
      let to : link (cell_at b) p ≡ get_or b (cell_off p) 0 =
      get_or-part b (cell_off p) cell_bytes 0 (omega arith) ∙ ap (λ (o : ℕ). get_or b o 0) (add-zero (cell_off p)) in
      both (readable (count b) b p) (all (readable (count b) b) (walk (link (cell_at b)) n (link (cell_at b) p))) (cell-read p z m)
      (cells-read n (link (cell_at b) p) (omega (arith, to, h.cells p z m)))
      ))

  recs-read : (n p : ℕ) → p ≤ rec_count → all (inside rec_count) (walk (link (rec_at b)) n p) ≡ true
  unfolding walk
  recs-read zero p m = refl
  recs-read (suc n) p m = cases (eqb p 0) (λ e. rw e refl) (λ e. rw e (
      let z : 0 < p = omega (arith, eqb-false p 0 e) in
      let to : link (rec_at b) p ≡ get_or b (rec_off p) 0 =
      get_or-part b (rec_off p) rec_bytes 0 (omega arith) ∙ ap (λ (o : ℕ). get_or b o 0) (add-zero (rec_off p)) in
      both (inside rec_count p) (all (inside rec_count) (walk (link (rec_at b)) n (link (rec_at b) p))) (is-inside rec_count p z m)
      (recs-read n (link (rec_at b) p) (omega (arith, to, (h.recs p z m).small)))
      ))

module _ (role : ℕ) (b : List ℕ) (y : Bytes b) (t : sound role b ≡ true) where
  all-links : Links b
  all-links = links role b y t

  pub its_head : head_fits role b ≡ true
  unfolding sound head_fits
  its_head = (every_true (sound_tests role b (decode b)) t).0

  pub its_room : Room (get_or b count_at 0) b
  its_room = record { most = all-links.most; long = all-links.long }

  pub some_long : (o : ℕ) → o < 14 → o < length b
  some_long o h = omega (arith, all-links.long, h)

  pub held_inside : all (inside rec_count) (rec_chain b (get_or b held_at 0)) ≡ true
  held_inside = recs-read b all-links (suc rec_count) (get_or b held_at 0) all-links.held.small

  pub whole_inside : all (inside rec_count) (rec_chain b (get_or b whole_at 0)) ≡ true
  whole_inside = recs-read b all-links (suc rec_count) (get_or b whole_at 0) all-links.whole.small

  pub free_readable : all (readable (get_or b count_at 0) b) (cell_chain b (get_or b free_cells_at 0)) ≡ true
  free_readable = cells-read b all-links (suc most_cells) (get_or b free_cells_at 0) all-links.free_cells

  -- the pieces of the record at a place
  pub first_readable : (p : ℕ) → 0 < p → p ≤ rec_count
      → all (readable (get_or b count_at 0) b) (cell_chain b (get_or (rec_at b p) first_cell_at 0)) ≡ true
  first_readable p z m =
      let to : get_or (rec_at b p) first_cell_at 0 ≡ get_or b (rec_off p + first_cell_at) 0 = get_or-part b (rec_off p) rec_bytes first_cell_at (omega arith) in
      cells-read b all-links (suc most_cells) (get_or (rec_at b p) first_cell_at 0) (omega (arith, to, all-links.firsts p z m))

  -- .. as code reads them, in bytes c that are those of the store
  pub read_on : (p : ℕ) → 0 < p → p ≤ rec_count → {c : List ℕ} {cells first : ℕ} → c ≡ b → cells ≡ get_or b count_at 0
      → first ≡ get_or (rec_at b p) first_cell_at 0 → all (readable cells c) (cell_chain c first) ≡ true
  read_on p z m e f g = (λ i. all (readable (f i) (e i)) (cell_chain (e i) (g i))) ∙ first_readable p z m

pub cells_on : (b : List ℕ) (p : ℕ) {c : List ℕ} {first : ℕ} {l : List Cell} → c ≡ b → first ≡ get_or (rec_at b p) first_cell_at 0
    → l ≡ read_cells c first → l ≡ (read_rec b p).cells
unfolding rec_of
cells_on b p e f g = g ∙ (λ i. read_cells (e i) (f i))

pub held_readable : (role : ℕ) (b : List ℕ) (link : ℕ) → Bytes b → HeldAt role b link
    → all (readable (get_or b count_at 0) b) (cell_chain b (get_or (row_in b link) first_cell_at 0)) ≡ true
held_readable role b link y h =
    let w = here-within role b y link h in
    first_readable role b y h.sound (place_at b link) w.0 w.1

pub held_cells : (b : List ℕ) (link : ℕ) → read_cells b (get_or (row_in b link) first_cell_at 0) ≡ (rec_in b link).cells
unfolding rec_of
held_cells b link = refl

pub free_count : (b : List ℕ) (l : List Cell) → l ≡ read_cells b (get_or b free_cells_at 0) → length l ≡ length (decode b).free_cells
unfolding decode
free_count b l e = ap length e ∙ length-map (cell_chain b (get_or b free_cells_at 0)) (read_cell b)

pub ruleset reads = (free_count, its_head, its_room, some_long, held_inside, whole_inside, free_readable, held_readable, held_cells)
