-- What is compared is that part of each row. Assumes nothing.
use native.Mathlib.Omega.{arith}
use Rattle.std.proofs.Common.{List, ℕ, ◌≡◌, ◌+◌, ◌-◌, ◌∙◌}
use lib.ListN.{take, drop}
use Rattle.octets.specs.Octets.{part, same}
use Rattle.soundness.proofs.store.Store.same_bytes.Goals as goal

pub returns : goal.returns
unfolding part
returns g c =
    let size : g.row.FIELD + g.row.SIZE - g.row.FIELD ≡ g.row.SIZE = omega arith in
    c.equal.ensures
    ∙ (λ i. same (take (size i) (drop g.row.FIELD (c.record.ensures.0 i))) (take (size i) (drop g.row.FIELD (c.record-2.ensures.0 i))))
