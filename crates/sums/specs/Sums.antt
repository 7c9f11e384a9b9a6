-- The keyed hash and key derivation as calls: PROTOCOL, "Sums".
use Rattle.std.specs.Prelude.{ℕ, Bool, cond, ◌&&◌, List, length, eqb, leb}
use Rattle.answer.specs.declared.Answer.{Answer}
use Rattle.answer.specs.Answers.{bare}
use Rattle.blake3.specs.Modes.{key_len, keyed_hash, derived_key}
use Rattle.machine.specs.Codes.{bad_lengths}

-- "output of 0 to 65,536 bytes"
abbrev pub longest_sum : ℕ
longest_sum = 65536

pub record SumOutcome : Type 0 where
  pub answer : Answer
  pub out : List ℕ

-- row 29: where the lengths are right the sum "fills exactly the buffer lent for it"
abbrev pub filled : Bool → List ℕ → List ℕ → SumOutcome
filled right sum out = cond right (record { answer = bare 0; out = sum }) (record { answer = bare bad_lengths; out = out })

-- "a key of the keyed hash not 32 bytes long or an output over 65,536"
unfoldable pub keyed_hash_of : List ℕ → List ℕ → List ℕ → SumOutcome
keyed_hash_of key input out = filled (eqb (length key) key_len && leb (length out) longest_sum) (keyed_hash key input (length out)) out

-- of key derivation only the output can be wrong
unfoldable pub derive_key_of : List ℕ → List ℕ → List ℕ → SumOutcome
derive_key_of context material out = filled (leb (length out) longest_sum) (derived_key context material (length out)) out
