use mathlib.Core.Path.{◌∙◌}
use Rattle.link.specs.StoredLaws.{first-size}
use Rattle.link.proofs.queue.first_size.Goals as goal

pub returns : goal.returns
returns c = λ tail e q w. c.read.ensures.0 ∙ first-size _ _ tail e q w
