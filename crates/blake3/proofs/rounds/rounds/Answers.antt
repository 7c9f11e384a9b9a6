-- `blake3::rounds::rounds` meets its contract: round by round, from the last one back. Assumes nothing.
use Rattle.blake3.specs.Rounds.{rounds}
use Rattle.blake3.proofs.rounds.rounds.Goals as goal

pub returns : goal.returns
unfolding rounds
returns c = cc
