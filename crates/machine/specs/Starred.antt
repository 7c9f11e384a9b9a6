-- The starred values of PROTOCOL, "Domain and values", as one table of numbers that the definitions give and numbers that they should give. An office of
-- two cells hears frames of the bytes that they need; StarredLaws has the statement that covers the table.
use Rattle.std.specs.Prelude.{ℕ, List, [], ◌∷◌, ◌++◌, get_or, replicate}
use Rattle.std.proofs.Math.Option.{Option, none, some}
use Rattle.octets.specs.Bools.{one}
use Rattle.octets.specs.Octets.{be}
use Rattle.packet.specs.declared.header.Kind.{Kind}
use Rattle.packet.specs.declared.header.Kind.TheVariants.{Init, Chunk, Done, Read, Aborted, AckInit, AckChunk, AckDone, Nothing}
use Rattle.packet.specs.Frame.{chunk_flag, kind_of, needed}
use Rattle.packet.specs.Outgoing.{header, done_packet}
use Rattle.machine.specs.Limits.{top_of}
use Rattle.machine.specs.Codes.{past_end, short_piece, too_long, wrong_count, piece_sent}
use Rattle.machine.specs.Values.{Rec}
use Rattle.machine.specs.Find.{is_some}
use Rattle.machine.specs.Pieces.{piece_at}
use Rattle.machine.specs.Receive.{found}
use Rattle.machine.specs.Choice.{is_due}
use Rattle.machine.specs.Samples.{id, init, another, chunk, Seen, hear, opened}

-- ---- what an office answers and holds

-- the number that it answered last
abbrev pub latest : Seen → ℕ
latest s = get_or s.numbers 0 0

-- it has heard the init of a message of n bytes; then a chunk of so many bytes too
abbrev pub arriving : ℕ → Seen
arriving n = hear (init n) opened

abbrev pub pieced : ℕ → ℕ → ℕ → ℕ → Seen
pieced n index offset size = hear (chunk index offset (replicate size 0)) (arriving n)

-- the slots of the record that it holds
abbrev pub slots_in : Option Rec → ℕ
slots_in none = 0
slots_in (some r) = r.slots

abbrev pub slots_held : Seen → ℕ
slots_held s = slots_in (found id s.recv.held)

abbrev pub slots : ℕ → ℕ
slots n = slots_held (arriving n)

-- 1 where that record has a piece at an index
abbrev pub piece_in : ℕ → Option Rec → ℕ
piece_in index none = 0
piece_in index (some r) = one (is_some (piece_at index r.cells))

abbrev pub keeps : ℕ → Seen → ℕ
keeps index s = piece_in index (found id s.recv.held)

abbrev pub kept : ℕ → ℕ → ℕ → ℕ → ℕ
kept n index offset size = keeps index (pieced n index offset size)

-- a piece that makes the slots grow, then its init again, or another init
abbrev pub repeated : Seen
repeated = hear (init 500) (pieced 500 1 250 250)

abbrev pub restarted : Seen
restarted = hear (another 500) (pieced 500 1 250 250)

-- a done of a count, after a piece of no bytes at index 0
abbrev pub counted : ℕ → Seen
counted count = hear (done_packet id count (replicate 32 0)) (pieced 0 0 0 0)

-- 1 where a flag byte is that of an init
abbrev pub is_init : Kind → ℕ
is_init Init = 1
is_init Chunk = 0
is_init Done = 0
is_init Read = 0
is_init Aborted = 0
is_init AckInit = 0
is_init AckChunk = 0
is_init AckDone = 0
is_init Nothing = 0

-- the fields of a chunk with a size field
abbrev pub sized : ℕ → List ℕ
sized n = header id chunk_flag ++ be 8 0 ++ be 8 0 ++ be 8 n

-- 1 where a piece sent at 1,000 is due
abbrev pub due_at : ℕ → ℕ
due_at clock = one (is_due clock (record { place = 1; index = 0; bytes = []; stamp = 1000; state = piece_sent }))

-- ---- the table

pub record Value : Type 0 where
  pub gives : ℕ
  pub should : ℕ

abbrev pub value : ℕ → ℕ → Value
value a b = record { gives = a; should = b }

unfoldable pub starred : List Value
starred =
    -- length 0: slots 0, top 0; a size-0 piece 0 is kept; then count 0 is 13
    value (slots 0) 0 ∷ value (top_of 0) 0 ∷ value (latest (pieced 0 0 0 0)) 0 ∷ value (kept 0 0 0 0) 1 ∷ value (latest (counted 0)) wrong_count
    -- 1,300: slots 1, top 5
    ∷ value (slots 1300) 1 ∷ value (top_of 1300) 5
    -- 1,301: slots 2; index 1, offset 1,300, size 1 kept; at offset 1,299: 11; a size-0 piece 1 at the end is kept
    ∷ value (slots 1301) 2 ∷ value (latest (pieced 1301 1 1300 1)) 0 ∷ value (kept 1301 1 1300 1) 1
    ∷ value (latest (pieced 1301 1 1299 1)) short_piece ∷ value (latest (pieced 1301 1 1301 0)) 0
    -- 500: index 0, offset 251, size 249 kept; at offset 250: 11
    ∷ value (latest (pieced 500 0 251 249)) 0 ∷ value (latest (pieced 500 0 250 249)) short_piece
    -- 500: index 1, offset 250, size 250, then the init again: 0, slots 2, kept; another init instead: 0, slots 1, not kept
    ∷ value (latest repeated) 0 ∷ value (slots_held repeated) 2 ∷ value (keeps 1 repeated) 1
    ∷ value (latest restarted) 0 ∷ value (slots_held restarted) 1 ∷ value (keeps 1 restarted) 0
    -- 1,550: index 1, offset 1,300, size 250 kept
    ∷ value (latest (pieced 1550 1 1300 250)) 0 ∷ value (kept 1550 1 1300 250) 1
    -- 251: top 1; size 249, index 0, offset 0: 11
    ∷ value (top_of 251) 1 ∷ value (latest (pieced 251 0 0 249)) short_piece
    -- 32,500: slots 25, top 129; 32,501: 6
    ∷ value (slots 32500) 25 ∷ value (top_of 32500) 129 ∷ value (latest (arriving 32500)) 0 ∷ value (latest (arriving 32501)) too_long
    -- length 1,300, offset 1, size 1,300: 9
    ∷ value (latest (pieced 1300 0 1 1300)) past_end
    -- needed: an init 21 and its topic; a chunk 36 and its size field, 2^64 − 1 too; an acknowledgement of it 36
    ∷ value (needed Init (init 500)) 21 ∷ value (needed Init (another 500)) 22 ∷ value (needed Chunk (sized 1364)) 1400
    ∷ value (needed Chunk (sized 18446744073709551615)) 18446744073709551651 ∷ value (needed AckChunk (sized 18446744073709551615)) 36
    -- flags 0x90: init
    ∷ value (is_init (kind_of 0x90)) 1
    -- stamp 1,000: due at 1,100, not 1,099 or 900
    ∷ value (due_at 1100) 1 ∷ value (due_at 1099) 0 ∷ value (due_at 900) 0 ∷ []
