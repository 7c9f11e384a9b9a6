-- `blake3::lanes::step` meets its contract: the compression of each lane. Assumes nothing.
use Rattle.std.proofs.Common.{ℕ, ◌<◌, ◌∙◌}
use Rattle.blake3.specs.Words.{first}
use Rattle.blake3.specs.Compression.{finish, compress, chaining}
use Rattle.blake3.specs.Rounds.{rounds}
use Rattle.blake3.specs.Lanes.{lane}
use Rattle.blake3.proofs.lanes.step.Goals as goal

pub returns : goal.returns
unfolding chaining compress
returns c =
    let g = c.args in
    let x = c.end.ensures in
    let y = c.begin.ensures in
    let r = λ (j : ℕ) (q : j < 4). c.rounds.ensures.1 j q ∙ (λ z. rounds 7 (y.0.1 j q z) (y.1.1 j q z)) in
    (x.0, λ j q. x.1 j q ∙ (λ t. first 8 (finish (r j q t) (lane 8 j g.h.now))))
