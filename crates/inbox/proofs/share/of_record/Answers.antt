-- Assumes nothing.
use native.Mathlib.Omega.{arith}
use Rattle.std.proofs.Common.{ℕ, List, ◌≡◌, ap, ◌∙◌}
use Rattle.std.proofs.Math.ListN.{length, get_or}
use Rattle.octets.specs.Octets.{same, part}
use Rattle.machine.specs.Layout.{source_at, address_width, first_cell_at, rec_at, rec_of}
use Rattle.records.specs.ReadableLaws.{read_on, cells_on}
use Rattle.inbox.proofs.Shares.{none_from, some_from}
use Rattle.inbox.proofs.share.of_record.Goals as goal
use Rattle.inbox.proofs.share.of_record.Goals.{After-equal, After-from}
use Rattle.inbox.proofs.share.of_record.Given.{Over}

-- the row is read from the store
row-is : {g : Over} (c : After-equal g) → c.record-row.result.now ≡ rec_at c.args.store.bytes.now c.args.x.number
row-is c = c.record-row.ensures.0 ∙ ap (λ (b : List ℕ). rec_at b c.args.x.number) c.headed-headed.ensures.0

compared : {g : Over} (c : After-equal g) → let a = c.args in
    c.equal.result ≡ same a.source.now (part (rec_at a.store.bytes.now a.x.number) source_at address_width)
unfolding part same
compared c = c.equal.ensures ∙ ap (λ (l : List ℕ). same c.args.source.now (part l source_at address_width)) (row-is c)

first-is : {g : Over} (c : After-from g) → c.from.result ≡ get_or (rec_at c.args.store.bytes.now c.args.x.number) first_cell_at 0
first-is c = c.from.ensures ∙ ap (λ (l : List ℕ). get_or l first_cell_at 0) (row-is (goal.at.pieces-requires _ c).After-equal)

pub returns-then-not-equal : goal.returns-then-not-equal
returns-then-not-equal g c =
    (none_from _ _ _ (compared (goal.at.returns-then-not-equal g c).After-equal) c.if-not-equal.true, omega arith)

pub pieces-requires : goal.pieces-requires
pieces-requires g c =
    let s = c.args.store in
    let at = c.args.x.inside in
    let e = c.headed-headed.ensures in
    read_on _ _ s.octets s.sound c.args.x.number at.0 at.1 e.0 e.1 (first-is c)

pub returns : goal.returns
unfolding rec_of
returns g c =
    let from = (goal.at.returns g c).After-from in
    let e = cells_on _ c.args.x.number c.headed-headed.ensures.0 (first-is from) c.pieces.ensures in
    (some_from _ _ _ (compared (goal.at.returns g c).After-equal) c.if-not-equal.false (c.count.ensures.0 ∙ ap length e), c.count.ensures.1)
