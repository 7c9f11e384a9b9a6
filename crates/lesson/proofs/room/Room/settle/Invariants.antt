use Rattle.lesson.proofs.Settles.{Settling, goal_of}
use Rattle.lesson.proofs.room.Room.settle.Given as goal

abbrev pub invariant-loop-queue : goal.invariant-loop-queue
invariant-loop-queue l =
    Settling (goal_of l.fn.self.nodes l.run l.fn.self.letters.now) l.self.nodes l.queue.bytes l.queue.mark.letters.now l.queue.head l.queue.mark.tail l.left

abbrev pub decreases-loop-queue : goal.decreases-loop-queue
decreases-loop-queue l = l.left
