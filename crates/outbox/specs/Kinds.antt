-- The numbers by which callers name the kinds of a wake.
use Rattle.std.specs.Prelude.{ℕ}
use Rattle.machine.specs.Wake.{send_wake, deadline_wake}
use Rattle.outbox.specs.declared.wake.Kind.{Kind}
use Rattle.outbox.specs.declared.wake.Kind.TheVariants.{Send, Deadline}

abbrev pub number_of : Kind → ℕ
number_of Send = send_wake
number_of Deadline = deadline_wake
