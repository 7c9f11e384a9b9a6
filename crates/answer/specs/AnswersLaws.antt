-- A refusal's number is not 0, which says that a call is done. Assumes nothing.
use Rattle.std.specs.Prelude.{◌<◌}
use Rattle.std.proofs.Common.{arith}
use Rattle.answer.specs.declared.Refusal.{Refusal}
use Rattle.answer.specs.declared.Refusal.TheVariants.{BadFrame, ShortOutput, BadRules, ClosedTopic, AlreadyWhole, TooLong, NoRecord, UnknownId}
use Rattle.answer.specs.declared.Refusal.TheVariants.{PastEnd, HighIndex, ShortPiece, NoCell, Count, Gap, Total, Sum, NoKey, WrongState}
use Rattle.answer.specs.declared.Refusal.TheVariants.{NoSuchPiece, NoWork, TopicTooLarge, IdInUse, NoneWhole, Clock, UnsoundStore, BadCalendar}
use Rattle.answer.specs.declared.Refusal.TheVariants.{ShortFrame, SourceFull, BadLengths, NoCuts, NoPlan}
use Rattle.answer.specs.Answers.{number}

pub some_number : (r : Refusal) → 0 < number r
some_number BadFrame = omega arith
some_number ShortOutput = omega arith
some_number BadRules = omega arith
some_number ClosedTopic = omega arith
some_number AlreadyWhole = omega arith
some_number TooLong = omega arith
some_number NoRecord = omega arith
some_number UnknownId = omega arith
some_number PastEnd = omega arith
some_number HighIndex = omega arith
some_number ShortPiece = omega arith
some_number NoCell = omega arith
some_number Count = omega arith
some_number Gap = omega arith
some_number Total = omega arith
some_number Sum = omega arith
some_number NoKey = omega arith
some_number WrongState = omega arith
some_number NoSuchPiece = omega arith
some_number NoWork = omega arith
some_number TopicTooLarge = omega arith
some_number IdInUse = omega arith
some_number NoneWhole = omega arith
some_number Clock = omega arith
some_number UnsoundStore = omega arith
some_number BadCalendar = omega arith
some_number ShortFrame = omega arith
some_number SourceFull = omega arith
some_number BadLengths = omega arith
some_number NoCuts = omega arith
some_number NoPlan = omega arith
