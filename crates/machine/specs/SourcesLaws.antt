-- A source at its limit, by computation: rows 28 and 12, whole records, other sources, a held index, and what a sound store asks; and that who sends
-- a piece does not count. Assumes nothing.
use Rattle.std.specs.Prelude.{ℕ, ◌≡◌, refl, true, false, List, [], ◌∷◌}
use Rattle.std.proofs.Math.Option.{some}
use Rattle.octets.specs.Octets.{same}
use Rattle.packet.specs.declared.header.Kind.TheVariants.{Chunk}
use Rattle.machine.specs.Limits.{longest, most_of_source, most_slots}
use Rattle.machine.specs.Codes.{role_receive, no_cell, source_full}
use Rattle.machine.specs.Values.{Rec, Store, idle}
use Rattle.machine.specs.Counting.{rise}
use Rattle.machine.specs.Sources.{cells_from, fair}
use Rattle.machine.specs.Find.{find}
use Rattle.machine.specs.Refusals.{refusal}
use Rattle.machine.specs.Pieces.{cut_pieces}
use Rattle.machine.specs.Packet.{arrival, chunk_row, kind_row, too_short}

-- a record of a source with n pieces, in the cells from a place on
abbrev record_of : ℕ → ℕ → ℕ → ℕ → Rec
record_of key source n place = record {
  place = key;
  slots = most_slots longest;
  sending = idle;
  cells = cut_pieces n 0 (rise place n) [];
  label = record { id = key ∷ []; source = source ∷ []; destination = []; reply = 0; total = longest; topic = [] };
}

-- what a piece of 1,300 bytes at an index answers, of an arriving record with 29 pieces of source 7; whole records and free cells differ
abbrev number : ℕ → List Rec → List ℕ → ℕ
number index whole free =
    let r : Rec = record_of 1 7 29 1 in
    let s : Store = record { setup = record { cells = 45; role = role_receive }; free = []; held = r ∷ []; whole = whole; free_cells = free } in
    refusal (chunk_row index 0 1300 s (some r))

-- the thirtieth cell is given, and no other, also where 15 are free; a whole record of the source counts, one of another source does not; a held index
-- needs no cell
pub limit-numbers : (number 29 [] (rise 30 16) ≡ 0) × (number 29 (record_of 2 7 1 30 ∷ []) (rise 31 15) ≡ source_full)
    × (number 29 (record_of 2 8 16 30 ∷ []) [] ≡ no_cell) × (number 29 (record_of 2 8 15 30 ∷ []) (45 ∷ []) ≡ 0) × (number 3 (record_of 2 7 1 30 ∷ []) [] ≡ 0)
unfolding refusal too_short cells_from cut_pieces rise same find
limit-numbers = (refl, refl, refl, refl, refl)

-- 28 comes just before 12
pub limit_order : (number 29 (record_of 2 7 1 30 ∷ []) [] ≡ source_full) × (number 29 [] [] ≡ no_cell)
unfolding refusal too_short cells_from cut_pieces rise same find
limit_order = (refl, refl)

-- 30 in two records are fair, 31 are not, 31 of two sources are
pub limit-fair : (fair most_of_source (record_of 1 7 29 1 ∷ record_of 2 7 1 30 ∷ []) ≡ true)
    × (fair most_of_source (record_of 1 7 29 1 ∷ record_of 2 7 2 30 ∷ []) ≡ false) × (fair most_of_source (record_of 1 7 29 1 ∷ record_of 2 8 2 30 ∷ []) ≡ true)
unfolding fair cells_from cut_pieces rise same
limit-fair = (refl, refl, refl)

-- "the records of one source, whoever sends": of a piece only the frame counts
pub whoever-sends : (frame from to rules from' to' rules' : List ℕ) (known known' : ℕ) (recv send : Store)
    → kind_row Chunk (arrival frame from to rules known) recv send ≡ kind_row Chunk (arrival frame from' to' rules' known') recv send
unfolding kind_row
whoever-sends frame from to rules from' to' rules' known known' recv send = refl
