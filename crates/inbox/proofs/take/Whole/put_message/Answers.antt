-- The row is written, then the pieces behind it. Assumes nothing.
use native.Mathlib.Omega.{arith}
use native.Mathlib.Nat.{zero-add}
use Rattle.std.proofs.Common.{ℕ, List, ◌+◌, ◌-◌, ◌≤◌, ◌≡◌, ◌++◌, refl, sym, ap, ◌∙◌}
use Rattle.std.proofs.Math.ListN.{length, take, drop}
use mathlib.Core.List.{append-nil, append_assoc}
use lib.ListN.{length-drop, drop_of_length-le}
use lib.Seq.{take_all, drop-drop}
use Rattle.octets.specs.Octets.{put}
use Rattle.octets.specs.PartsLaws.{length_part, put-put}
use Rattle.machine.specs.Limits.{rec_bytes}
use Rattle.machine.specs.Values.{Rec}
use Rattle.machine.specs.Layout.{rec_off}
use Rattle.machine.specs.Sound.{sizes}
use Rattle.soundness.specs.Places.{pieces_left}
use Rattle.records.specs.HeldAt.{place_at, row_in, rec_in}
use Rattle.records.specs.ReadableLaws.{read_on, cells_on}
use Rattle.inbox.specs.OldestLaws.{oldest-sizes}
use Rattle.inbox.proofs.take.Whole.put_message.Goals as goal
use Rattle.inbox.proofs.take.Whole.put_message.Goals.{After-whole_row, After-pieces-pieces}

-- what is put at the start of all that stands from a on is put at a
tail-put : (m v : List ℕ) (a n : ℕ) → n ≡ length m - a → take a m ++ (put (take n (drop a m)) 0 v ++ drop n (drop a m)) ≡ put m a v
unfolding put
tail-put m v a n q =
    let long : length (drop a m) ≤ n = omega (arith, length-drop a m) in
    let rest = drop (a + length v) m in
    rw (take_all n (drop a m) long, drop_of_length-le (drop a m) long, zero-add, drop-drop, append-nil (v ++ rest)) (sym (append_assoc (take a m) v rest))

long : (c : After-whole_row) → length c.whole_row.result.now ≡ rec_bytes
long c =
    let r = c.args.self.row in
    ap length c.whole_row.ensures
    ∙ length_part r.store.now (rec_off (place_at r.store.now r.link)) rec_bytes (omega (arith, r.reached.small, r.reached.some, r.reached.long))

cells-are : (c : After-pieces-pieces) → let r = c.args.self.row in pieces_left c.pieces-pieces.result ≡ (rec_in r.store.now r.link).cells
cells-are c = let r = c.args.self.row in cells_on r.store.now (place_at r.store.now r.link) c.headed.ensures.0 c.first_cell.ensures c.pieces-pieces.ensures

pub copy_in-requires : goal.copy_in-requires
copy_in-requires c = omega (arith, long c, c.requires)

pub pieces-pieces-requires : goal.pieces-pieces-requires
pieces-pieces-requires c =
    let w = c.args.self in
    let r = w.row in
    let e = c.headed.ensures in
    read_on _ _ r.octets w.oldest.sound (place_at r.store.now r.link) r.reached.some r.reached.small e.0 e.1 c.first_cell.ensures

pub join-requires : goal.join-requires
join-requires c =
    let w = c.args.self in
    let r : Rec = rec_in w.row.store.now w.row.link in
    let whole : sizes r.cells ≡ r.label.total = rw w.first (oldest-sizes _ w.row.octets w.oldest) in
    omega (
      arith,
      c.requires,
      ap sizes (cells-are (goal.at.join-requires c).After-pieces-pieces),
      whole,
      length-drop 328 c.copy_in.new.d,
      ap length (take_all (length c.copy_in.new.d - 328) (drop 328 c.copy_in.new.d) (omega (arith, length-drop 328 c.copy_in.new.d))),
      c.copy_in.auto.d,
    )

pub returns : goal.returns
returns c =
    let r = c.args.self.row in
    let row-long : length (row_in r.store.now r.link) ≡ rec_bytes = ap length (sym c.whole_row.ensures) ∙ long (goal.at.returns c).After-whole_row in
    rw (c.join.ensures.1, cells-are (goal.at.returns c).After-pieces-pieces, c.copy_in.ensures, c.whole_row.ensures)
    (tail-put _ _ rec_bytes _ refl ∙ put-put _ 0 rec_bytes _ _ (omega (arith, c.requires)) (omega arith))
