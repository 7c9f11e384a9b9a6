use Rattle.link.proofs.Puts.{putting-start, putting_room, putting-more, putting-none}
use Rattle.link.proofs.queue.put_all.Goals as goal

pub loop-entry-init : goal.loop-entry-init
loop-entry-init c =
    rw c.into_iter-entry-iterator.ensures.into_iter_gives
    (tt, tt, putting-start c.args.queue.now c.args.mark.tail c.args.mark.letters.now c.args.run.now c.requires.0 c.requires.1)

pub put_out-end-requires : goal.put_out-end-requires
put_out-end-requires c = putting_room (rw c.in-Some.ensures.steps at c.loop-entry.invariant.2)

pub loop-entry-preserved : goal.loop-entry-preserved
loop-entry-preserved c =
    let out = c.put_out-end.ensures in
    (tt, tt, putting-more (rw c.in-Some.ensures.steps at c.loop-entry.invariant.2) (out.0, out.1) c.put_out-end.auto.queue out.2)

pub returns : goal.returns
returns c = putting-none (rw c.in-None.ensures.steps.0 at c.loop-entry.invariant.2)
