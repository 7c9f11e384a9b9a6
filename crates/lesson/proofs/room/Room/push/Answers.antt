use Rattle.std.proofs.Common.{sym, length-take-le}
use Rattle.machine.specs.Limits.{longest}
use Rattle.lesson.specs.Steps.{at_rest}
use Rattle.lesson.proofs.Sends.{push-fits, push-is}
use Rattle.lesson.proofs.room.Room.push.Goals as goal

pub slice_bounds-run-end : goal.slice_bounds-run-end
slice_bounds-run-end c = rw c.run_length-count.ensures (push-fits _ _ _ _ _ _ _ _ _ _ _ c.push.ensures)

pub slice_bounds-settle-end : goal.slice_bounds-settle-end
slice_bounds-settle-end c = sym (length-take-le _ _ (rw c.run_length-count.ensures (push-fits _ _ _ _ _ _ _ _ _ _ _ c.push.ensures)))

pub returns : goal.returns
returns c =
    push-is c.args.n longest (at_rest c.args.self.now) _ _ c.requires c.push.ensures
    (rw c.run_length-count.ensures at c.settle.ensures)
