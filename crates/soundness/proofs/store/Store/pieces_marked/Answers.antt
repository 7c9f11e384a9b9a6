use Rattle.std.proofs.Common.{List, ℕ, sym, ap, ◌∙◌}
use Rattle.soundness.specs.Walked.{pieces_marked}
use Rattle.soundness.proofs.Rests.{marked_bad}
use Rattle.soundness.proofs.store.Store.pieces_marked.Goals as goal

pub returns-then-not-marked : goal.returns-then-not-marked
returns-then-not-marked c =
    let s = c.args.self in
    sym (c.loop-x.invariant.2 ∙ ap (λ (ps : List ℕ). pieces_marked s.cells s.role s.bytes.now ps c.loop-x.marks) c.in-Some.ensures.steps
    ∙ marked_bad _ _ _ _ _ _ c.cells.ensures c.byte-first.ensures c.marked.ensures c.if-not-marked.true)
