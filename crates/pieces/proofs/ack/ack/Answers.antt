-- The cell that is marked is the one at the spot of the index; the law of acknowledging says what the store is. Assumes nothing.
use Prim.Native.Nat.{ℕ}
use mathlib.Core.Path.{◌≡◌, refl, sym, ap, ◌∙◌, subst}
use mathlib.Core.List.{List}
use lib.ListN.{get_or}
use Rattle.std.proofs.Common.{rules}
use Rattle.machine.specs.Codes.{piece_acked}
use Rattle.records.specs.HeldAt.{place_at}
use Rattle.pieces.specs.InPlace.{spot_in, remarked, CellIn}
use Rattle.pieces.specs.AckLaws.{acked-is, acked-cell}
use Rattle.pieces.proofs.ack.ack.Goals as goal
use Rattle.pieces.proofs.ack.ack.Goals.{After-from-place}

-- the cell that is read
cell-is : (c : After-from-place) → let b = c.args.store.now in
    c.from-place.result ≡ get_or b (spot_in b (place_at b c.args.link) c.args.index) 0
cell-is c =
    let e = c.find-at.ensures in
    c.from-place.ensures ∙ ap (λ (o : ℕ). get_or c.args.store.now o 0)
    (c.find-at.result.spot.is ∙ (λ i. spot_in (e.0 i).row.store.now (place_at (e.0 i).row.store.now (e.0 i).row.link) (e.1 i)))

pub mark-requires : goal.mark-requires
mark-requires c =
    subst (CellIn c.args.store.now) (sym (cell-is (goal.at.mark-requires c).After-from-place))
    (acked-cell _ _ _ (search rules) c.requires.0 c.requires.1)

-- what is written there, said of that cell
written : (b b' : List ℕ) (k cell state : ℕ) → k ≡ cell → b' ≡ remarked b k 0 state → state ≡ piece_acked → b' ≡ remarked b cell 0 piece_acked
written b b' k cell state e w s = w ∙ (λ i. remarked b (e i) 0 (s i))

pub returns : goal.returns
returns c =
    written c.args.store.now _ _ _ _ (cell-is (goal.at.returns c).After-from-place) c.mark.ensures refl
    ∙ acked-is _ _ _ (search rules) c.requires.0 c.requires.1
