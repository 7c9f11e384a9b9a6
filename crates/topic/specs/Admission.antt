-- The answer that a book gives: PROTOCOL, "Rules and addresses".
use Rattle.std.specs.Prelude.{ℕ, cond, List}
use Rattle.topic.specs.Book.{well_formed, admits}
use Rattle.topic.specs.declared.book.Admission.{Admission}
use Rattle.topic.specs.declared.book.Admission.TheVariants.{Malformed, Closed, Open}

-- the whole book is checked before the topic is looked up
abbrev pub admission_of : List ℕ → List ℕ → List ℕ → Admission
admission_of b topic source = cond (well_formed b) (cond (admits b topic source) Open Closed) Malformed
