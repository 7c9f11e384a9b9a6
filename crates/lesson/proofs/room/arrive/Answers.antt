use Rattle.std.proofs.Common.{arith, ◌∙◌}
use Rattle.lesson.proofs.Rooms.{came}
use Rattle.lesson.proofs.room.arrive.Goals as goal

pub returns : goal.returns
returns c =
    let a = c.args in
    let o = came a.node.now.recv a.node.now.send a.e.now _ _ _ a.run.now _ c.packet.ensures c.frame_of-frame.ensures c.from_of-from.ensures
    c.to_of-to.ensures c.requires c.packet.auto.run in
    (c.run_length.ensures ∙ o.0, o.1, o.2, o.3, omega (arith, c.run_length.ensures, o.4), o.5)
