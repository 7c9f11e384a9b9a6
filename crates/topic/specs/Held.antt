-- What the code holds of a book, as the definitions' values.
use Rattle.std.specs.Prelude.{ℕ, List, map, take, get_or}
use denote.Ref.{Bor}
use Rattle.topic.specs.Subnet.{address_bytes}
use Rattle.topic.specs.Book.{Subnet, Entry, Book, entries_from}
use Rattle.topic.specs.declared.entry.Entry.{Entry as HeldEntry}
use Rattle.topic.specs.declared.entry.Entries.{Entries}
use Rattle.topic.specs.declared.book.Book.{Book as HeldBook}

-- a subnet, by its bytes
abbrev pub held_subnet : List ℕ → Subnet
held_subnet s = record { net = take address_bytes s; bits = get_or s address_bytes 0 }

abbrev pub held_entry : HeldEntry → Entry
held_entry e = record { topic = e.topic.now; subnets = map held_subnet e.subnets.now }

-- an entry, and the bytes behind it
abbrev pub held_first : HeldEntry × Bor (List ℕ) → Entry × List ℕ
held_first p = (held_entry p.0, p.1.now)

-- the entries that are left
abbrev pub held_entries : Entries → List Entry
held_entries s = entries_from s.rest.now 0

abbrev pub held_book : HeldBook → Book
held_book b = record { accepts = b.accepts; entries = held_entries b.entries }
