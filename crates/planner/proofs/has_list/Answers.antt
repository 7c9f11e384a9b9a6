-- The three tests, with the least and the most in place of what the code has worked out. Assumes nothing.
use native.Mathlib.Numerals.{add-one}
use Rattle.planner.proofs.has_list.Goals as goal

pub returns : goal.returns
returns c = rw (c.slots-least.ensures, c.top-most.ensures.0, add-one)
