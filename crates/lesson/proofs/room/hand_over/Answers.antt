use Rattle.std.proofs.Common.{arith, refl, length-take}
use Rattle.lesson.specs.Room.{Node, arrived}
use Rattle.lesson.specs.Steps.{node_of}
use Rattle.lesson.proofs.Rooms.{reply-is, reply-fits, handed}
use Rattle.lesson.proofs.room.hand_over.Goals as goal

pub put_all-queue-requires : goal.put_all-queue-requires
put_all-queue-requires c =
    let o = c.arrive-n in
    let node : Node = node_of c.args.node.now.recv c.args.node.now.send in (
      reply-fits node _ _ c.args.queue.now.mark.tail _ (reply-is (arrived node _) _ _ o.ensures.0 o.ensures.3) c.requires.2,
      omega (arith, o.ensures.4, length-take o.result o.new.run),
    )

pub returns : goal.returns
returns c =
    let o = c.arrive-n in
    let queue = c.args.queue.now in
    let node : Node = node_of c.args.node.now.recv c.args.node.now.send in (
      handed node _ _ _ _ queue.bytes _ queue.mark.letters.now queue.mark.tail _ _ (reply-is (arrived node _) _ _ o.ensures.0 o.ensures.3) o.ensures.1
          o.ensures.2 c.put_all-queue.ensures,
      refl,
    )
