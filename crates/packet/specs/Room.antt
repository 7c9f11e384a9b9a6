-- What a writer of packets asks.
use Rattle.std.specs.Prelude.{ℕ, ◌+◌, ◌≤◌, ◌≡◌, List, length}
use Rattle.packet.specs.Frame.{address_size}

-- what stands before a packet in its entry
abbrev pub entry_front : ℕ
entry_front = 34

-- addresses of 16 bytes, and room for a packet of n bytes behind its count and addresses
pub record Room (run : List ℕ) (at : ℕ) (from to : List ℕ) (n : ℕ) : Type 0 where
  pub source : length from ≡ address_size
  pub target : length to ≡ address_size
  pub fits : at + entry_front + n ≤ length run
