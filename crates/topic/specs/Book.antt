-- The rule book (PROTOCOL, "Rules and addresses"): what its bytes say, when they are well formed, and whom a book admits.
use Rattle.std.specs.Prelude.{ℕ, zero, suc, ◌+◌, ◌*◌, Bool, true, false, not, cond, ◌&&◌, ◌||◌, List, [], ◌∷◌, map, length, get_or, eqb, leb, ltb}
use Rattle.octets.specs.Lists.{all}
use Rattle.octets.specs.Octets.{part, same}
use Rattle.topic.specs.Subnet.{address_bytes, prefix_most, contains_of}

-- a subnet: an address and prefix bits
pub record Subnet : Type 0 where
  pub net : List ℕ
  pub bits : ℕ

-- an entry: a topic and the subnets that may send to it
pub record Entry : Type 0 where
  pub topic : List ℕ
  pub subnets : List Subnet

-- a book: whether unlisted topics are accepted, and the entries
pub record Book : Type 0 where
  pub accepts : Bool
  pub entries : List Entry

-- some element passes the test
abbrev pub any : {A : Type 0} → (A → Bool) → List A → Bool
any f [] = false
any f (a ∷ l) = f a || any f l

-- ---- what the bytes say; past the end every byte counts as 0

-- a subnet is an address and prefix bits (1)
abbrev pub subnet_bytes : ℕ
subnet_bytes = address_bytes + 1

abbrev pub subnet_at : List ℕ → ℕ → Subnet
subnet_at b o = record { net = part b o address_bytes; bits = get_or b (o + address_bytes) 0 }

-- n subnets from o on
unfoldable pub subnets_at : List ℕ → ℕ → ℕ → List Subnet
subnets_at b o zero = []
subnets_at b o (suc n) = subnet_at b o ∷ subnets_at b (o + subnet_bytes) n

-- the entry at `at`: topic length (1), topic, subnet count (1), subnets
abbrev pub topic_of : List ℕ → ℕ → List ℕ
topic_of b at = part b (at + 1) (get_or b at 0)

-- where its subnet count stands
abbrev pub count_at : List ℕ → ℕ → ℕ
count_at b at = at + 1 + get_or b at 0

abbrev pub subnets_of : List ℕ → ℕ → List Subnet
subnets_of b at = subnets_at b (count_at b at + 1) (get_or b (count_at b at) 0)

-- where it ends and the next starts
abbrev pub end_at : List ℕ → ℕ → ℕ
end_at b at = count_at b at + 1 + subnet_bytes * get_or b (count_at b at) 0

abbrev pub entry_at : List ℕ → ℕ → Entry
entry_at b at = record { topic = topic_of b at; subnets = subnets_of b at }

-- where the entries from `at` on start, n of them at most
unfoldable pub starts : ℕ → List ℕ → ℕ → List ℕ
starts zero b at = []
starts (suc n) b at = cond (ltb at (length b)) (at ∷ starts n b (end_at b at)) []

-- the entries from `at` on: each takes at least two bytes, so there are no more of them than bytes
abbrev pub entries_from : List ℕ → ℕ → List Entry
entries_from b at = map (entry_at b) (starts (length b) b at)

-- byte 0: 0 accepts unlisted topics, 1 rejects them; then the entries
abbrev pub book_of : List ℕ → Book
book_of b = record { accepts = eqb (get_or b 0 0) 0; entries = entries_from b 1 }

-- ---- well formed

-- no entry from `at` on is cut: each ends within the book
abbrev pub uncut : List ℕ → ℕ → Bool
uncut b at = all (λ k. leb (end_at b k) (length b)) (starts (length b) b at)

-- prefix bits to 128: of an entry's subnets, and of all entries'
abbrev pub fits : List Subnet → Bool
fits l = all (λ s. leb s.bits prefix_most) l

abbrev pub all_fit : List Entry → Bool
all_fit l = all (λ e. fits e.subnets) l

-- the topic has an entry
abbrev pub listed : List ℕ → List Entry → Bool
listed topic l = any (λ e. same e.topic topic) l

-- no topic twice
unfoldable pub distinct : List Entry → Bool
distinct [] = true
distinct (e ∷ l) = not (listed e.topic l) && distinct l

-- not empty, first byte 0 or 1, no cut entry, prefix bits to 128, no topic twice; anything else is malformed (refusal 3)
unfoldable pub well_formed : List ℕ → Bool
well_formed b =
    ltb 0 (length b) && ltb (get_or b 0 0) 2 && uncut b 1 && all_fit (entries_from b 1) && distinct (entries_from b 1)

-- ---- admitted

-- one of the subnets contains the source
abbrev pub within : List ℕ → List Subnet → Bool
within source l = any (λ s. contains_of s.net s.bits source) l

-- a listed topic admits a source in one of its subnets; an unlisted one goes by `accepts`
unfoldable pub admitted_by : Bool → List Entry → List ℕ → List ℕ → Bool
admitted_by accepts [] topic source = accepts
admitted_by accepts (e ∷ l) topic source = cond (same e.topic topic) (within source e.subnets) (admitted_by accepts l topic source)

abbrev pub admitted : Book → List ℕ → List ℕ → Bool
admitted book topic source = admitted_by book.accepts book.entries topic source

-- the bytes of a book admit a source to a topic (else refusal 4)
unfoldable pub admits : List ℕ → List ℕ → List ℕ → Bool
admits b topic source = admitted (book_of b) topic source
