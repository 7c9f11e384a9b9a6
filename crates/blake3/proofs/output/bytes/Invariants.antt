-- `blake3::output::bytes` meets its contract: the bytes so far are those of the definition. Assumes nothing.
use Rattle.std.proofs.Common.{◌≡◌, ℕ, ◌*◌, ◌<◌, get_or}
use Rattle.blake3.specs.Tree.{byte_at}
use Rattle.blake3.proofs.output.bytes.Given as goal

abbrev pub invariant-loop-k : goal.invariant-loop-k
invariant-loop-k g l = (i : ℕ) → i < 4 * l.k → get_or l.all i 0 ≡ byte_at l.w i
