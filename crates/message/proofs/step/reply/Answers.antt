-- Assumes nothing.
use Rattle.message.proofs.Steps.{silent, replies}
use borrow.Author.Rules.{rules}
use Rattle.message.proofs.step.reply.Goals as goal

pub returns-then-keeps-eq0 : goal.returns-then-keeps-eq0
returns-then-keeps-eq0 c = let s = c in silent s.requires.0 _ _ _ _ c.if-keeps-eq0.true

pub returns : goal.returns
returns c =
    let put = c in
    let some = put in
    let s = some in
    replies s.requires.0 some.if-keeps-eq0.false _ _ _ _ s.requires.1 (search rules) (search rules) _ put.put_reply.ensures
