-- When a subnet contains an address: the address starts with the subnet's prefix bits (RFC 4291, 2.3). Said by bits; the code goes by bytes
-- and a mask.
use Rattle.std.specs.Prelude.{ℕ, zero, suc, ◌/◌, ◌%◌, ◌-◌, ◌^◌, Bool, true, ◌&&◌, List, length, get_or, eqb, leb}

-- an address has 16 bytes, and a prefix has 128 bits at most
abbrev pub address_bytes : ℕ
address_bytes = 16

abbrev pub prefix_most : ℕ
prefix_most = 128

-- bit i of an address: of byte i / 8, counted from the highest
abbrev pub bit : List ℕ → ℕ → ℕ
bit a i = get_or a (i / 8) 0 / 2 ^ (7 - i % 8) % 2

-- the first `bits` bits of the address and of the net agree
unfoldable pub inside : List ℕ → List ℕ → ℕ → Bool
inside a net zero = true
inside a net (suc k) = inside a net k && eqb (bit a k) (bit net k)

-- a subnet, a net that is an address and prefix bits, contains the addresses inside it; what is no subnet contains none
abbrev pub contains_of : List ℕ → ℕ → List ℕ → Bool
contains_of net bits a = eqb (length net) address_bytes && leb bits prefix_most && inside a net bits
