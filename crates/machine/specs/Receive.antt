-- What the office's store becomes: PROTOCOL, "The office". Each step is total: where its record is missing, nothing changes.
use Rattle.std.specs.Prelude.{ℕ, suc, max, cond, List, [], ◌∷◌, ◌++◌, map}
use Rattle.std.proofs.Math.Option.{Option, none, some}
use Rattle.machine.specs.Limits.{slots_of}
use Rattle.machine.specs.Values.{Label, Rec, Store, idle, Key, key_of, same_key, repeats}
use Rattle.machine.specs.Chains.{first}
use Rattle.machine.specs.Layout.{cell_place}
use Rattle.machine.specs.Find.{find, swap, without, is_some}
use Rattle.machine.specs.Pieces.{piece_at, put_piece, rest}

-- ---- records by key

abbrev pub rec_label : Rec → Label
rec_label r = r.label

abbrev pub rec_key : Rec → Key
rec_key r = key_of (rec_label r)

-- the record with a key
abbrev pub found : Key → List Rec → Option Rec
found k l = find same_key rec_key k l

-- the record with the key of r, replaced by r where it stands
abbrev pub replaced : Rec → List Rec → List Rec
replaced r l = swap same_key rec_key r l

-- the records without the one with a key
abbrev pub dropped : Key → List Rec → List Rec
dropped k l = without same_key rec_key k l

-- "what is freed goes in front, a chain in its own order"
abbrev pub freed_cells : Rec → List ℕ → List ℕ
freed_cells r l = map cell_place r.cells ++ l

-- ---- init

-- a record without pieces: slots become ceil(length/1,300)
abbrev pub started : ℕ → Label → Rec
started place h = record { place = place; label = h; slots = slots_of h.total; sending = idle; cells = [] }

-- a new id takes the first free record and goes first; "a held id restarts with no pieces; its record keeps its place"
unfoldable pub init_at : Option Rec → Label → Store → Store
init_at none h s = record {
  setup = s.setup;
  free = rest s.free;
  held = started (first s.free) h ∷ s.held;
  whole = s.whole;
  free_cells = s.free_cells;
}
init_at (some r) h s = record {
  setup = s.setup;
  free = s.free;
  held = replaced (started r.place h) s.held;
  whole = s.whole;
  free_cells = freed_cells r s.free_cells;
}

-- .. of the record that is found, if there is one: an init that says it again changes nothing
abbrev pub init_with : Option Rec → Label → Store → Store
init_with o h s = cond (repeats rec_label o h) s (init_at o h s)

-- Init: the step for what an init says
abbrev pub init_step : Label → Store → Store
init_step h s = init_with (found (key_of h) s.held) h s

-- ---- chunk

-- "the piece replaces its index; slots grow to index + 1"
abbrev pub with_piece : ℕ → ℕ → List ℕ → Rec → Rec
with_piece place index bytes r = record {
  place = r.place;
  label = r.label;
  slots = max r.slots (suc index);
  sending = r.sending;
  cells = put_piece place index bytes r.cells;
}

-- a new index takes the first free cell
abbrev pub cells_left : Rec → ℕ → List ℕ → List ℕ
cells_left r index l = cond (is_some (piece_at index r.cells)) l (rest l)

-- .. of the record that is found, if there is one
unfoldable pub chunk_at : Option Rec → ℕ → List ℕ → Store → Store
chunk_at none index bytes s = s
chunk_at (some r) index bytes s = record {
  setup = s.setup;
  free = s.free;
  held = replaced (with_piece (first s.free_cells) index bytes r) s.held;
  whole = s.whole;
  free_cells = cells_left r index s.free_cells;
}

-- Chunk: the step for a key, an index and a piece
abbrev pub chunk_step : Key → ℕ → List ℕ → Store → Store
chunk_step k index bytes s = chunk_at (found k s.held) index bytes s

-- ---- done, aborted, take

-- "whole": the record goes last in the whole chain
unfoldable pub done_at : Option Rec → Store → Store
done_at none s = s
done_at (some r) s = record {
  setup = s.setup;
  free = s.free;
  held = dropped (rec_key r) s.held;
  whole = s.whole ++ (r ∷ []);
  free_cells = s.free_cells;
}

-- Done: the step for a key
abbrev pub done_step : Key → Store → Store
done_step k s = done_at (found k s.held) s

-- a held record is dropped: its place and its cells are freed
unfoldable pub drop_at : Option Rec → Store → Store
drop_at none s = s
drop_at (some r) s = record {
  setup = s.setup;
  free = r.place ∷ s.free;
  held = dropped (rec_key r) s.held;
  whole = s.whole;
  free_cells = freed_cells r s.free_cells;
}

-- "Aborted drops an arriving record"; the second deadline wake drops a leaving one
abbrev pub drop_step : Key → Store → Store
drop_step k s = drop_at (found k s.held) s

-- "Take: the oldest whole record .. dropped"
unfoldable pub take_from : List Rec → Store → Store
take_from [] s = s
take_from (r ∷ l) s = record {
  setup = s.setup;
  free = r.place ∷ s.free;
  held = s.held;
  whole = l;
  free_cells = freed_cells r s.free_cells;
}

-- Take: the step on what is whole
abbrev pub take_step : Store → Store
take_step s = take_from s.whole s
