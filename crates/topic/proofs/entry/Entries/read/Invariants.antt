-- `topic::entry::Entries::read` meets its contract: the loop keeps that the bytes left tell what all tell. Assumes nothing.
use Rattle.std.proofs.Common.{◌≡◌, length}
use Rattle.topic.specs.Book.{uncut}
use Rattle.topic.proofs.entry.Entries.read.Given as goal

abbrev pub invariant-loop-behind : goal.invariant-loop-behind
invariant-loop-behind l = uncut l.rest 0 ≡ uncut l.fn.bytes 0

abbrev pub decreases-loop-behind : goal.decreases-loop-behind
decreases-loop-behind l = length l.rest
