-- Assumes nothing.
use Rattle.std.proofs.Common.{eq-eqb, ne_eqb, rules, tests}
use Rattle.std.proofs.lemmas.Iterator.{YieldsList-from_slice}
use Rattle.std.proofs.lemmas.Iterator.Search.{find_from_yields_List}
use Rattle.packet.specs.Frame.{has, kind_of}
use Rattle.packet.proofs.Fitting.{first-found}
use Rattle.packet.proofs.header.kind_of.Goals as goal
use Rattle.packet.proofs.header.kind_of.Goals.{then-flags-ne0, else-flags-ne0}

pub returns : goal.returns
unfolding kind_of
returns c =
    let f = c.args.flags in
    let l = c.if-flags-ne0.kinds.now in
    let rows = YieldsList-from_slice l c.iter.ensures.rest in
    let row = find_from_yields_List (λ p. has f p.0) _ _ c.find.result c.find.ensures.ran rows (λ x b q k. search (rules, tests)) in
    let found = first-found (has f) l c.find.result c.map_or.result row (search rules) in
    elim c.if-flags-ne0.branch [
      | then-flags-ne0 w ↦ rw (ne_eqb _ _ w.if-flags-ne0.true) (rw w.kinds-is at found)
      | else-flags-ne0 w ↦ rw (eq-eqb _ _ w.if-flags-ne0.false) (rw w.kinds-is at found)
    ]
