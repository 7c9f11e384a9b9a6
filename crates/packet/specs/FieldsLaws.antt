-- A field all of whose bytes came is the number of its width. Assumes nothing.
use Rattle.std.specs.Prelude.{ℕ, ◌+◌, ◌-◌, ◌<◌, ◌≤◌, ◌≡◌, false, List, length, get_or, leb}
use Rattle.std.proofs.Common.{arith, zero-add, add-zero, sym, ap, ◌∙◌, leb-true, leb-false, le-leb}
use Rattle.std.proofs.lemmas.Bool.{lt-leb}
use Rattle.octets.specs.BoolsLaws.{cases}
use Rattle.octets.specs.Octets.{part, num, capacity, Bytes}
use Rattle.octets.specs.PartsLaws.{length_part, get_or-part, bytes-part}
use Rattle.octets.specs.NumbersLaws.{num-lt}
use Rattle.packet.specs.declared.header.Kind.{Kind}
use Rattle.packet.specs.declared.header.Kind.TheVariants.{Init, Chunk, Done, Read, Aborted, AckInit, AckChunk, AckDone, Nothing}
use Rattle.packet.specs.Frame.{number, needed, body_at}

pub number_is : (f : List ℕ) (o n : ℕ) → o + n ≤ length f → number (part f o n) ≡ num n (part f o n)
number_is f o n h = ap (λ (k : ℕ). num k (part f o n)) (length_part f o n h)

pub number_lt : (f : List ℕ) (o n : ℕ) → o + n ≤ length f → Bytes f → number (part f o n) < capacity n
number_lt f o n h b = rw (number_is f o n h) (num-lt n (part f o n) (bytes-part f o n b))

-- of one byte
pub byte-is : (f : List ℕ) (o : ℕ) → o < length f → number (part f o 1) ≡ get_or f o 0
unfolding num
byte-is f o h =
    number_is f o 1 (omega arith) ∙ zero-add (get_or (part f o 1) 0 0) ∙ get_or-part f o 1 0 (omega arith) ∙ ap (λ (i : ℕ). get_or f i 0) (add-zero o)

pub byte-lt : (f : List ℕ) (o : ℕ) → o < length f → Bytes f → number (part f o 1) < 256
byte-lt f o h b = rw (byte-is f o h) (b o)

-- what is left of n behind a is compared instead of a sum
pub leb-left : (a x n : ℕ) → a ≤ n → leb x (n - a) ≡ leb (a + x) n
leb-left a x n h =
    cases (leb (a + x) n) (λ t. le-leb x (n - a) (omega (arith, leb-true (a + x) n t)) ∙ sym t) (λ t. lt-leb x (n - a) (omega (arith, leb-false (a + x) n t)) ∙ sym t)

pub leb-short : (a x n : ℕ) → n < a → false ≡ leb (a + x) n
leb-short a x n h = sym (lt-leb (a + x) n (omega arith))

-- every kind needs the header
pub header-needed : (k : Kind) (f : List ℕ) → body_at ≤ needed k f
header-needed Init f = omega arith
header-needed Chunk f = omega arith
header-needed Done f = omega arith
header-needed Read f = omega arith
header-needed Aborted f = omega arith
header-needed AckInit f = omega arith
header-needed AckChunk f = omega arith
header-needed AckDone f = omega arith
header-needed Nothing f = omega arith
