-- `blake3::lanes::rounds` meets its contract: the rounds that are left, from where the loop is, give the seven from
-- the start. Assumes nothing.
use Rattle.std.proofs.Common.{◌≡◌, ℕ, ◌-◌, ◌<◌}
use Rattle.blake3.specs.Rounds.{rounds}
use Rattle.blake3.specs.Lanes.{lane, Lanes}
use Rattle.blake3.proofs.lanes.rounds.Given as goal

abbrev pub invariant-loop : goal.invariant-loop
invariant-loop l =
    Lanes 16 l.v × Lanes 16 l.m
    × ((k : ℕ) → k < 4 → rounds (7 - l.counter) (lane 16 k l.v) (lane 16 k l.m)
    ≡ rounds 7 (lane 16 k l.initial.v) (lane 16 k l.initial.m))
