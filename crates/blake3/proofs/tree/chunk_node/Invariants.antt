-- `blake3::tree::chunk_node` meets its contract: it holds the chaining value before block i. Assumes nothing.
use Rattle.std.proofs.Common.{◌≡◌}
use Rattle.blake3.specs.Tree.{before}
use Rattle.blake3.proofs.tree.chunk_node.Given as goal

abbrev pub invariant-loop-i : goal.invariant-loop-i
invariant-loop-i l = l.h ≡ before l.initial.h l.mode.flags l.s l.t l.i
