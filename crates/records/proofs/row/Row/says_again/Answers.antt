-- The five are compared one by one. Assumes nothing.
use Rattle.std.proofs.Common.{ℕ, List, sym, ap, ◌∙◌}
use mathlib.Core.Bool.{◌&&◌}
use lib.Dec.{eqb}
use Rattle.octets.specs.BoolsLaws.{one_is}
use Rattle.octets.specs.Octets.{same}
use Rattle.machine.specs.Values.{equal_in_five}
use Rattle.records.specs.Opening.{new_label}
use Rattle.records.proofs.row.Row.says_again.Goals as goal

pub slice_bounds-equal-end : goal.slice_bounds-equal-end
slice_bounds-equal-end c = sym c.requires.source.0

pub slice_bounds-equal-end-2 : goal.slice_bounds-equal-end-2
slice_bounds-equal-end-2 c = sym c.requires.destination.0

pub returns : goal.returns
unfolding equal_in_five
returns c =
    let said = new_label c.args.label c.args.topic.now in
    let from = c.equal-from.ensures ∙ ap (λ (l : List ℕ). same l said.source) c.source.ensures in
    let to = c.equal-to.ensures ∙ ap (λ (l : List ℕ). same l said.destination) c.destination.ensures in
    let about = c.equal-about.ensures ∙ ap (λ (l : List ℕ). same l said.topic) c.topic.ensures in
    λ i. from i && to i && eqb (c.total.ensures i) said.total && about i && eqb (c.reply.ensures i) ((c.from.ensures ∙ one_is _) i)
