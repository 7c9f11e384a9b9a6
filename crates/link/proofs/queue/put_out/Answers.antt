use Rattle.link.proofs.Puts.{out-lost, out_once, out-twice}
use Rattle.link.proofs.queue.put_out.Goals as goal

pub returns-then-letter-eq76 : goal.returns-then-letter-eq76
returns-then-letter-eq76 c =
    let next = c.next_letter-letter.ensures in
    let out = out-lost c.args.queue.now c.args.e.now c.args.mark.tail _ _ next.0 c.if-letter-eq76.true in
    (out.0, out.1, next.1)

pub returns-then-letter-ne82 : goal.returns-then-letter-ne82
returns-then-letter-ne82 c =
    let next = c.next_letter-letter.ensures in
    let once = c.keep-once.ensures in
    let out = out_once c.args.queue.now _ c.args.e.now c.args.mark.tail _ _ _ next.0 c.if-letter-eq76.false c.if-letter-ne82.true once.0 once.1 in
    (out.0, out.1, next.1)

pub returns : goal.returns
returns c =
    let next = c.next_letter-letter.ensures in
    let once = c.keep-once.ensures in
    let twice = c.keep-twice.ensures in
    let out = out-twice c.args.queue.now _ _ c.args.e.now c.args.mark.tail _ _ _ _ next.0 c.if-letter-eq76.false c.if-letter-ne82.false
    c.requires.0 once.0 once.1 twice.0 twice.1 in
    (out.0, out.1, next.1)
