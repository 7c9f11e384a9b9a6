-- The answers there are, by what they carry: PROTOCOL, "Calls and answers".
use Rattle.std.specs.Prelude.{ℕ}
use Rattle.answer.specs.declared.Answer.{Answer}
use Rattle.answer.specs.declared.Refusal.{Refusal}
use Rattle.answer.specs.declared.Refusal.TheVariants.{BadFrame, ShortOutput, BadRules, ClosedTopic, AlreadyWhole, TooLong, NoRecord, UnknownId}
use Rattle.answer.specs.declared.Refusal.TheVariants.{PastEnd, HighIndex, ShortPiece, NoCell, Count, Gap, Total, Sum, NoKey, WrongState}
use Rattle.answer.specs.declared.Refusal.TheVariants.{NoSuchPiece, NoWork, TopicTooLarge, IdInUse, NoneWhole, Clock, UnsoundStore, BadCalendar}
use Rattle.answer.specs.declared.Refusal.TheVariants.{ShortFrame, SourceFull, BadLengths, NoCuts, NoPlan}

-- a refusal's number in the table
abbrev pub number : Refusal → ℕ
number BadFrame = 1
number ShortOutput = 2
number BadRules = 3
number ClosedTopic = 4
number AlreadyWhole = 5
number TooLong = 6
number NoRecord = 7
number UnknownId = 8
number PastEnd = 9
number HighIndex = 10
number ShortPiece = 11
number NoCell = 12
number Count = 13
number Gap = 14
number Total = 15
number Sum = 16
number NoKey = 17
number WrongState = 18
number NoSuchPiece = 19
number NoWork = 20
number TopicTooLarge = 21
number IdInUse = 22
number NoneWhole = 23
number Clock = 24
number UnsoundStore = 25
number BadCalendar = 26
number ShortFrame = 27
number SourceFull = 28
number BadLengths = 29
number NoCuts = 30
number NoPlan = 31

-- a number and nothing else: nothing is sent and nobody wakes
abbrev pub bare : ℕ → Answer
bare n = record { number = n; run = 0; wake = 0; pieces = 0 }

-- done, with a run of a length and so many piece packets in it
abbrev pub sent : ℕ → ℕ → Answer
sent run pieces = record { number = 0; run = run; wake = 0; pieces = pieces }

-- a packet that is accepted: the length of its reply, 0 for none, and its wake mark
abbrev pub accepted : ℕ → ℕ → Answer
accepted run wake = record { number = 0; run = run; wake = wake; pieces = 0 }
