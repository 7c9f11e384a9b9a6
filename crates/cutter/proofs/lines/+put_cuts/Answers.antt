-- `cutter::lines::put_cuts` meets its contract: nothing is left; the front grows where some is; the lines behind it; those of a larger size.
-- Assumes nothing.
use Rattle.std.proofs.Common.{arith, refl, sym}
use lib.Seq.{length-take-le}
use Rattle.cutter.proofs.FrontsLaws.{wrote_as, growing-none, room-line, front-short, longer-within}
use Rattle.cutter.proofs.FrontsLaws.{room-first, room-second, wrote-last, wrote-both}
use Rattle.cutter.proofs.lines.+put_cuts.Goals as goal

pub put_behind-requires : goal.put_behind-requires
put_behind-requires t c =
    room-line c.requires c.if-left-eq0.true

pub returns-then-left-eq0 : goal.returns-then-left-eq0
returns-then-left-eq0 t c =
    let a = c.args in
    wrote_as (sym (growing-none a.front.now a.size a.left c.if-left-eq0.true)) c.put_behind.ensures

pub put_behind-n-requires : goal.put_behind-n-requires
put_behind-n-requires t c =
    omega (arith, front-short c.requires c.if-left-eq0.false)

pub slice_bounds-longer-end : goal.slice_bounds-longer-end
slice_bounds-longer-end t c = longer-within c.requires c.if-left-eq0.false c.put_behind-n.ensures refl

pub slice_bounds-put_cuts-end : goal.slice_bounds-put_cuts-end
slice_bounds-put_cuts-end t c = sym (length-take-le _ _ (longer-within c.requires c.if-left-eq0.false c.put_behind-n.ensures refl))

pub put_cuts-end-requires : goal.put_cuts-end-requires
put_cuts-end-requires t c = (omega arith, room-first c.requires c.if-left-eq0.false c.put_behind-n.ensures refl)

pub put_cuts-requires : goal.put_cuts-requires
put_cuts-requires t c =
    (omega arith, room-second c.requires c.if-left-eq0.false c.put_behind-n.ensures refl c.put_cuts-end.ensures c.if-size-lt-LARGEST.true)

pub returns-then-size-lt-LARGEST : goal.returns-then-size-lt-LARGEST
returns-then-size-lt-LARGEST t c =
    wrote-both c.requires c.if-left-eq0.false c.put_behind-n.ensures refl c.put_cuts-end.ensures c.if-size-lt-LARGEST.true c.put_cuts.ensures

pub returns : goal.returns
returns t c = wrote-last c.requires c.if-left-eq0.false c.put_behind-n.ensures refl c.put_cuts-end.ensures c.if-size-lt-LARGEST.false
