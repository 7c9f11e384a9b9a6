-- A node's address from its key: PROTOCOL, "Rules and addresses".
use Rattle.std.specs.Prelude.{ℕ, ◌%◌, cond, List, [], ◌∷◌, ◌++◌, length, get_or, eqb, leb}
use Rattle.std.specs.Int.Bits.{bit_or}
use Rattle.std.specs.Int.Count.{ones}
use Rattle.octets.specs.Octets.{part, put}
use Rattle.answer.specs.declared.Answer.{Answer}
use Rattle.answer.specs.Answers.{bare}
use Rattle.blake3.specs.Tree.{blake3}
use Rattle.machine.specs.Codes.{bad_frame, short_output}
use Rattle.machine.specs.Layout.{address_width}

-- "byte 0 becomes 4 | (its ones modulo 2)"
abbrev pub first_byte : ℕ → ℕ
first_byte x = bit_or 4 (ones x % 2)

-- "16 BLAKE3 bytes of the key", the first of them changed
unfoldable pub address_bytes : List ℕ → List ℕ
address_bytes key = (first_byte (get_or (blake3 key) 0 0) ∷ []) ++ part (blake3 key) 1 15

pub record AddressOutcome : Type 0 where
  pub answer : Answer
  pub out : List ℕ

-- row 1: a key's bytes
abbrev pub key_bytes : ℕ
key_bytes = 32

-- address 1, 2: a key of 32 bytes, a buffer of at least 16; the address goes to the buffer's start
unfoldable pub address_of : List ℕ → List ℕ → AddressOutcome
address_of key out =
    cond (eqb (length key) key_bytes)
    (cond (leb address_width (length out)) (record { answer = bare 0; out = put out 0 (address_bytes key) }) (record { answer = bare short_output; out = out }))
    (record { answer = bare bad_frame; out = out })
