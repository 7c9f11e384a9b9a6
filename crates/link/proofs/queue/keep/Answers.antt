use native.Mathlib.Omega.{arith}
use mathlib.Core.Path.{refl}
use Rattle.link.proofs.Puts.{kept}
use Rattle.link.proofs.queue.keep.Goals as goal

pub returns : goal.returns
returns c =
    let start = c in (
      kept start.args.queue.now _ _ start.args.e.now start.args.tail _ refl start.requires.0
          c.write.ensures c.copy_in.ensures,
      omega arith,
    )
