-- "Refusals change nothing": what the two calls leave where their number is not 0. Assumes nothing.
use Rattle.std.specs.Prelude.{◌≡◌, Bool, ◌&&◌, List, ℕ, length, eqb, leb}
use Rattle.octets.specs.BoolsLaws.{cases}
use Rattle.answer.specs.Answers.{bare}
use Rattle.blake3.specs.Modes.{key_len, keyed_hash, derived_key}
use Rattle.machine.specs.Codes.{bad_lengths}
use Rattle.sums.specs.Sums.{longest_sum, filled, keyed_hash_of, derive_key_of}

refused : (right : Bool) (sum out : List ℕ) → ((filled right sum out).answer.number ≡ 0 → ⊥)
    → filled right sum out ≡ record { answer = bare bad_lengths; out = out }
refused right sum out h = cases right (λ e. absurd (h (rw e))) (λ e. rw e)

pub keyed-hash-refused : (key input out : List ℕ) → ((keyed_hash_of key input out).answer.number ≡ 0 → ⊥)
    → keyed_hash_of key input out ≡ record { answer = bare bad_lengths; out = out }
unfolding keyed_hash_of
keyed-hash-refused key input out h = refused (eqb (length key) key_len && leb (length out) longest_sum) (keyed_hash key input (length out)) out h

pub derive-key-refused : (context material out : List ℕ) → ((derive_key_of context material out).answer.number ≡ 0 → ⊥)
    → derive_key_of context material out ≡ record { answer = bare bad_lengths; out = out }
unfolding derive_key_of
derive-key-refused context material out h = refused (leb (length out) longest_sum) (derived_key context material (length out)) out h
