-- The tests of a record as facts (`Fine`), and what follows of its fields and pieces, for the laws of operations. Assumes nothing.
use Rattle.std.specs.Prelude.{ℕ, suc, ◌-◌, ◌≤◌, ◌<◌, ◌≡◌, true, ◌&&◌, ◌||◌, not, cond, List, [], ◌∷◌, length, eqb, leb, ltb}
use Rattle.std.proofs.Common.{arith}
use borrow.Author.Tests.{eqb-true, leb-true, le-leb, ltb-true}
use Rattle.octets.specs.BoolsLaws.{cases, split}
use Rattle.octets.specs.Lists.{All}
use Rattle.octets.specs.ListsLaws.{all_true, true-all, ◌&◌}
use Rattle.machine.specs.Limits.{longest, cut_by, slots_of, most_slots}
use Rattle.machine.specs.Codes.{role_receive, kind_arriving, kind_leaving, state_aborted, piece_sent, piece_acked}
use Rattle.machine.specs.Values.{Cell, Sending, Rec}
use Rattle.machine.specs.Sound.{idle_tests, sending_fits, cell_fits, rising, sizes, is_complete, is_cut, rec_tests, rec_fits}
use Rattle.machine_laws.specs.Tests.{every_true, true-every}

pub record Fine (role kind : ℕ) (r : Rec) : Type 0 where
  pub reply : r.label.reply ≤ 1
  pub total : r.label.total ≤ longest
  pub sending : sending_fits role r.sending ≡ true
  pub cells : All (λ (c : Cell). cell_fits role c ≡ true) r.cells
  pub rises : rising 0 r.slots r.cells ≡ true
  pub low : slots_of r.label.total ≤ r.slots
  pub high : r.slots ≤ most_slots r.label.total
  pub done : (eqb kind kind_arriving || is_complete r) ≡ true
  pub cut : (not (eqb kind kind_leaving) || is_cut r.label.total r.cells) ≡ true

module _ (role kind : ℕ) (r : Rec) where
  pub fits-fine : rec_fits role kind r ≡ true → Fine role kind r
  unfolding rec_fits
  fits-fine h =
      let t = every_true (rec_tests role kind r) h in
      record {
        reply = leb-true r.label.reply 1 t.0;
        total = leb-true r.label.total longest t.1.0;
        sending = t.1.1.0;
        cells = all_true (cell_fits role) r.cells t.1.1.1.0;
        rises = t.1.1.1.1.0;
        low = leb-true (slots_of r.label.total) r.slots t.1.1.1.1.1.0;
        high = leb-true r.slots (most_slots r.label.total) t.1.1.1.1.1.1.0;
        done = t.1.1.1.1.1.1.1.0;
        cut = t.1.1.1.1.1.1.1.1.0;
      }

  pub fine-fits : Fine role kind r → rec_fits role kind r ≡ true
  unfolding rec_fits
  fine-fits f =
      true-every (rec_tests role kind r)
      (le-leb r.label.reply 1 f.reply & le-leb r.label.total longest f.total & f.sending & true-all (cell_fits role) r.cells f.cells & f.rises
      & le-leb (slots_of r.label.total) r.slots f.low & le-leb r.slots (most_slots r.label.total) f.high & f.done & f.cut & tt)

-- ---- slots and indices

-- the slots of a message that is not too long fit a byte
pub slots-few : (n : ℕ) → n ≤ longest → most_slots n < 256
slots-few n h = cases (eqb n 0) (λ e. rw e (omega arith)) (λ e. rw e (omega arith))

-- indices that rise stay below
pub rising-below : (low high : ℕ) (l : List Cell) → rising low high l ≡ true → All (λ (c : Cell). c.index < high) l
unfolding rising
rising-below low high [] h = tt
rising-below low high (c ∷ l) h =
    let s = split (leb low c.index) (ltb c.index high && rising (suc c.index) high l) h in
    let t = split (ltb c.index high) (rising (suc c.index) high l) s.1 in
    (ltb-true c.index high t.0, rising-below (suc c.index) high l t.1)

-- ---- the sender's fields

pub sending-small : (role : ℕ) (x : Sending) → sending_fits role x ≡ true → (x.state ≤ state_aborted) × (x.timed_out ≤ 1)
sending-small role x h =
    cases (eqb role role_receive)
    (λ e. let t = every_true (idle_tests x) (rw e at h) in
    (omega (arith, eqb-true x.state 0 t.0), omega (arith, eqb-true x.timed_out 0 t.1.0)))
    (λ e. let t = split (leb x.state state_aborted) (leb x.timed_out 1) (rw e at h) in
    (leb-true x.state state_aborted t.0, leb-true x.timed_out 1 t.1))

pub cell-small : (role : ℕ) (c : Cell) → cell_fits role c ≡ true → c.state ≤ piece_acked
cell-small role c h =
    cases (eqb role role_receive)
    (λ e. let t = split (eqb c.stamp 0) (eqb c.state 0) (rw e at h) in omega (arith, eqb-true c.state 0 t.1))
    (λ e. let t = split (leb c.state piece_acked) (eqb c.state piece_sent || eqb c.stamp 0) (rw e at h) in leb-true c.state piece_acked t.0)

-- ---- complete records

-- a record that is whole or leaves has a piece for every slot, and their sizes are its length
pub fine-complete : (role kind : ℕ) (r : Rec) → (kind ≡ kind_arriving → ⊥) → Fine role kind r → (length r.cells ≡ r.slots) × (sizes r.cells ≡ r.label.total)
fine-complete role kind r n f =
    cases (eqb kind kind_arriving)
    (λ e. absurd (n (eqb-true kind kind_arriving e)))
    (λ e. let d : is_complete r ≡ true = rw e at f.done in
    let t = split (eqb (length r.cells) r.slots) (eqb (sizes r.cells) r.label.total) d in
    (eqb-true (length r.cells) r.slots t.0, eqb-true (sizes r.cells) r.label.total t.1))

-- what is cut by 1,300 has ceil(length/1,300) pieces
pub cut-count : (n : ℕ) (l : List Cell) → is_cut n l ≡ true → length l ≡ slots_of n
unfolding is_cut
cut-count n [] h = omega (arith, eqb-true n 0 h)
cut-count n (c ∷ l) h =
    let s = split (ltb 0 n && eqb (length c.bytes) (cond (leb n cut_by) n cut_by)) (is_cut (n - cut_by) l) h in
    let t = split (ltb 0 n) (eqb (length c.bytes) (cond (leb n cut_by) n cut_by)) s.0 in
    omega (arith, ltb-true 0 n t.0, cut-count (n - cut_by) l s.1)
