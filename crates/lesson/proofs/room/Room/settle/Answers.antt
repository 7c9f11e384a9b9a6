use Rattle.std.proofs.Common.{ℕ, arith, replicate}
use Rattle.std.proofs.lemmas.List.{length-replicate}
use Rattle.link.specs.EntriesLaws.{entries-count}
use Rattle.link.specs.StoredLaws.{run-stored}
use Rattle.lesson.specs.Steps.{queue_room}
use Rattle.lesson.proofs.Settles.{settling-start, settling-ready, settling-left, settling-more, settling-none}
use Rattle.lesson.proofs.room.Room.settle.Goals as goal

pub put_all-queue-requires : goal.put_all-queue-requires
put_all-queue-requires c = (
  omega (arith, run-stored c.args.run.now, entries-count c.args.run.now, length-replicate {A = ℕ} queue_room 0, c.requires),
  omega (arith, c.requires),
)

pub loop-queue-init : goal.loop-queue-init
loop-queue-init c =
    let n = entries-count c.args.run.now in
    settling-start c.args.self.now.nodes (replicate queue_room 0) _ c.args.self.now.letters.now c.args.run.now _ _ _ (omega (arith, c.requires))
    (omega (arith, n, c.requires, length-replicate {A = ℕ} queue_room 0)) (omega (arith, n, c.requires)) c.put_all-queue.ensures

pub deliver-requires : goal.deliver-requires
deliver-requires c = settling-ready _ _ _ _ _ _ _ c.loop-queue.invariant c.loop-queue-test.true

pub overflow_sub-left : goal.overflow_sub-left
overflow_sub-left c = settling-left _ _ _ _ _ _ _ c.loop-queue.invariant c.loop-queue-test.true

pub loop-queue-smaller : goal.loop-queue-smaller
loop-queue-smaller c = omega (arith, settling-left _ _ _ _ _ _ _ c.loop-queue.invariant c.loop-queue-test.true)

pub loop-queue-preserved : goal.loop-queue-preserved
loop-queue-preserved c = settling-more _ _ _ _ _ _ _ _ _ _ _ c.deliver.ensures c.loop-queue-test.true _ c.loop-queue.invariant

pub returns : goal.returns
returns c = settling-none _ _ _ _ _ _ _ c.loop-queue.invariant c.loop-queue-test.false
