-- The law of a piece that comes says what the store is. Assumes nothing.
use Prim.Native.Nat.{ℕ, ◌<◌}
use mathlib.Core.Path.{◌≡◌, sym, ap, ◌∙◌, subst}
use mathlib.Core.Bool.{false}
use lib.ListN.{length, get_or}
use Rattle.machine_writes.specs.Links.{Links}
use Rattle.machine.specs.Layout.{free_cells_at}
use Rattle.pieces.specs.InPlace.{holds_index, chunked, Spot, PieceFits}
use Rattle.pieces.specs.OfHeldLaws.{here-inside}
use Rattle.pieces.specs.ChunkLaws.{put_is, put-asks}
use Rattle.pieces.proofs.insert.put_piece.Goals as goal

pub bounds-store-link : goal.bounds-store-link
bounds-store-link c =
    let known = c in
    here-inside _ _ (λ i. (known.slice_known-1.given i).fits) _ known.requires.0

pub put_in-requires : goal.put_in-requires
put_in-requires c =
    let shared = c in
    let start = shared in
    let a = start.args in
    let b = a.store.now in
    let p = start.requires in
    let asks = put-asks b _ a.index a.bytes.now (λ j. (shared.slice_known-1.given j).fits)
    p.0 (p.4, λ j. (shared.type_inv.bytes j).fits) p.2 p.5 p.3 in
    subst (λ (k : ℕ). Links b × Spot b k a.index a.spot × PieceFits k a.index (length a.bytes.now)
    × (holds_index b a.spot a.index ≡ false → 0 < get_or b free_cells_at 0)) (sym c.from-place.ensures)
    (asks.0, p.1, asks.1, λ e. asks.2 (ap (λ (o : ℕ). holds_index b o a.index) (sym p.1.is) ∙ e))

pub returns : goal.returns
returns c =
    let put = c in
    let small = put in
    let shared = small in
    let start = shared in
    let a = start.args in
    let p = start.requires in
    put.put_in.ensures ∙ ap (λ (k : ℕ). chunked a.store.now k a.index a.bytes.now) small.from-place.ensures
    ∙ put_is _ _ a.index a.bytes.now (λ j. (shared.slice_known-1.given j).fits) p.0
    (p.4, λ j. (shared.type_inv.bytes j).fits) p.2 p.5 p.3
