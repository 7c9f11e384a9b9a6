use Rattle.script.proofs.Writes.{byte-more}
use Rattle.script.proofs.decimal.put_item.Goals as goal

pub returns : goal.returns
returns c =
    let l = byte-more _ _ _ _ _ c.args.end c.put_number-last.ensures.0 c.put_number-last.ensures.1 c.requires in (l.1, l.2)
