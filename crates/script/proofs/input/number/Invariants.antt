-- What the digits so far make, continued by the rest, is the number. Assumes nothing.
use Rattle.std.specs.Prelude.{◌≤◌, ◌≡◌, drop}
use Rattle.machine.specs.Limits.{longest}
use Rattle.script.specs.Input.{value}
use Rattle.script.proofs.input.number.Given as goal

abbrev pub invariant-loop-digit : goal.invariant-loop-digit
invariant-loop-digit l = (l.n ≤ longest) × (value l.n (drop l.digit-index l.digits) ≡ value 0 l.digits)
