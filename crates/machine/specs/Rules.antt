-- The number of what a rule book answers.
use Rattle.std.specs.Prelude.{ℕ}
use Rattle.topic.specs.declared.book.Admission.{Admission}
use Rattle.topic.specs.declared.book.Admission.TheVariants.{Malformed, Closed, Open}
use Rattle.machine.specs.Codes.{bad_rules, closed_topic}

abbrev pub number_of : Admission → ℕ
number_of Malformed = bad_rules
number_of Closed = closed_topic
number_of Open = 0
