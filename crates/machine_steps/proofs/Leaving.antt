-- What is so of a valid send store and of its records: nothing is whole; a record has at most 25 pieces of at most 1,300 bytes, and its i-th cell is
-- its piece i. Assumes nothing.
use Rattle.std.specs.Prelude.{ℕ, ◌-◌, ◌≤◌, ◌<◌, ◌≡◌, refl, true, cond, ◌&&◌, List, [], ◌∷◌, length, get_or, eqb, leb, ltb}
use Rattle.std.proofs.Common.{arith, sym, ap, ◌∙◌, eqb-true, leb-true}
use Rattle.std.proofs.Math.Option.{some}
use Rattle.octets.specs.BoolsLaws.{cases, clash, split}
use Rattle.octets.specs.Lists.{All}
use Rattle.machine.specs.Limits.{longest, cut_by, slots_of}
use Rattle.machine.specs.Codes.{role_send, kind_leaving}
use Rattle.machine.specs.Values.{Cell, Rec, Store}
use Rattle.machine.specs.Sound.{no_rec, is_cut}
use Rattle.machine.specs.Valid.{Valid}
use Rattle.machine.specs.Pieces.{piece_at}
use Rattle.machine_laws.specs.Fine.{Fine, fine-complete, cut-count}
use Rattle.machine_steps.proofs.Nth.{index-between, piece-nth}

-- ---- the store

no-rec : (l : List Rec) → no_rec l ≡ true → l ≡ []
no-rec [] h = refl
no-rec (r ∷ l) h = clash h refl

-- nothing is whole
pub leaving-whole : (s : Store) → Valid role_send s → s.whole ≡ []
leaving-whole s v = no-rec s.whole v.kinds

-- ---- a record

-- pieces that are cut have at most 1,300 bytes
pub cut_most : (n : ℕ) (l : List Cell) → is_cut n l ≡ true → All (λ (c : Cell). length c.bytes ≤ cut_by) l
unfolding is_cut
cut_most n [] h = tt
cut_most n (c ∷ l) h =
    let w : ℕ = cond (leb n cut_by) n cut_by in
    let s = split (ltb 0 n && eqb (length c.bytes) w) (is_cut (n - cut_by) l) h in
    let e : length c.bytes ≡ w = eqb-true (length c.bytes) w (split (ltb 0 n) (eqb (length c.bytes) w) s.0).1 in
    let m : w ≤ cut_by = cases (leb n cut_by) (λ t. rw t (leb-true n cut_by t)) (λ t. rw t (omega arith)) in
    (omega arith, cut_most (n - cut_by) l s.1)

module _ (r : Rec) (f : Fine role_send kind_leaving r) where
  pub leaving-count : length r.cells ≡ slots_of r.label.total
  leaving-count = cut-count r.label.total r.cells f.cut

  pub leaving-few : length r.cells ≤ slots_of longest
  leaving-few = omega (arith, leaving-count, f.total)

  pub leaving-most : All (λ (c : Cell). length c.bytes ≤ cut_by) r.cells
  leaving-most = cut_most r.label.total r.cells f.cut

  -- the i-th cell has index i, and is the piece at i
  pub leaving-index : (i : ℕ) (d : Cell) → i < length r.cells → (get_or r.cells i d).index ≡ i
  leaving-index i d h =
      let n = index-between 0 r.slots r.cells f.rises i d h in
      omega (arith, n.0, n.1, (fine-complete role_send kind_leaving r (λ e. omega arith) f).0)

  pub leaving-piece : (i : ℕ) (d : Cell) → i < length r.cells → piece_at i r.cells ≡ some (get_or r.cells i d)
  leaving-piece i d h = ap (λ (j : ℕ). piece_at j r.cells) (sym (leaving-index i d h)) ∙ piece-nth 0 r.slots r.cells f.rises i d h
