use Rattle.std.proofs.Common.{sym, ap, length-take-le}
use Rattle.lesson.specs.Lesson.{clock_of}
use Rattle.lesson.specs.Steps.{at_rest}
use Rattle.lesson.proofs.Sends.{wake-fits, always-open, round_is}
use Rattle.lesson.proofs.room.Room.round.Goals as goal

pub slice_bounds-run-end : goal.slice_bounds-run-end
slice_bounds-run-end c = rw c.run_length-count.ensures (wake-fits _ _ _ _ _ _ _ _ c.wake.ensures)

pub slice_bounds-settle-end : goal.slice_bounds-settle-end
slice_bounds-settle-end c = sym (length-take-le _ _ (rw c.run_length-count.ensures (wake-fits _ _ _ _ _ _ _ _ c.wake.ensures)))

pub returns : goal.returns
returns c =
    round_is c.args.k _ _ (at_rest c.args.self.now) _ _ (ap clock_of c.from-clock.ensures) always-open c.wake.ensures
    (rw c.run_length-count.ensures at c.settle.ensures)
