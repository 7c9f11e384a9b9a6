use Rattle.std.proofs.Common.{rules, arith, sym, ◌∙◌, ◌≡◌, length}
use Rattle.link.specs.StoredLaws.{first_reach}
use Rattle.lesson.proofs.Rooms.{entry-is, handed-over, office-then, tablet-then}
use Rattle.lesson.proofs.room.deliver.Goals as goal

pub first_size-requires : goal.first_size-requires
first_size-requires c =
    let queue = c.args.queue.now in
    let w = c.requires.ready.waits in
    omega (arith, w.within, first_reach queue.bytes queue.head queue.mark.tail c.requires.first c.requires.rest w)

pub slice_bounds-to_office-end : goal.slice_bounds-to_office-end
slice_bounds-to_office-end c =
    let queue = c.args.queue.now in
    let w = c.requires.ready.waits in
    let size = c.first_size.ensures queue.mark.tail c.requires.first c.requires.rest w in
    let long : length c.args.queue.now.bytes ≡ 136908 = search rules in
    omega (arith, size, long, w.within, first_reach queue.bytes queue.head queue.mark.tail c.requires.first c.requires.rest w)

pub hand_over-requires : goal.hand_over-requires
hand_over-requires c =
    let ready = c.requires.ready in
    handed-over _ _ _ _ _ _ ready (c.first_size.ensures c.args.queue.now.mark.tail c.requires.first c.requires.rest ready.waits)

pub hand_over-requires-2 : goal.hand_over-requires-2
hand_over-requires-2 c =
    let ready = c.requires.ready in
    handed-over _ _ _ _ _ _ ready (c.first_size.ensures c.args.queue.now.mark.tail c.requires.first c.requires.rest ready.waits)

pub returns-then-to_office : goal.returns-then-to_office
returns-then-to_office c = λ e q r.
    let queue = c.args.queue.now in
    let nodes = c.args.nodes.now in
    let size = c.first_size.ensures queue.mark.tail e q r.waits in
    let is = entry-is queue.bytes queue.head queue.mark.tail e q _ r.waits size in
    let out = c.hand_over.ensures in
    rw out.1
    (office-then queue.bytes _ queue.mark.letters.now queue.head queue.mark.tail _ _ e _ _ q nodes.tablet.recv nodes.tablet.send nodes.office.recv
    nodes.office.send _ _ r is size out.0 (sym c.to_office.ensures ∙ c.if-to_office.true))

pub returns : goal.returns
returns c = λ e q r.
    let queue = c.args.queue.now in
    let nodes = c.args.nodes.now in
    let size = c.first_size.ensures queue.mark.tail e q r.waits in
    let is = entry-is queue.bytes queue.head queue.mark.tail e q _ r.waits size in
    let out = c.hand_over-2.ensures in
    rw out.1
    (tablet-then queue.bytes _ queue.mark.letters.now queue.head queue.mark.tail _ _ e _ _ q nodes.tablet.recv nodes.tablet.send nodes.office.recv
    nodes.office.send _ _ r is size out.0 (sym c.to_office.ensures ∙ c.if-to_office.false))
