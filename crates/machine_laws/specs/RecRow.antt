-- A record's row: it is the row of the record that is read from it, and what is read from a record's row is the record. Assumes nothing.
use Prim.Native.Nat.{ℕ, ◌+◌, ◌-◌, ◌≤◌, ◌<◌}
use Rattle.std.proofs.Common.{arith, ◌∙◌}
use Rattle.std.specs.Prelude.{◌≡◌, true, List, [], ◌∷◌, map, replicate, eqb}
use Rattle.std.proofs.Math.Path.{refl, sym, ap}
use Rattle.std.proofs.Math.ListN.{length, get_or}
use borrow.Author.Tests.{eqb-true, eq-eqb}
use Rattle.octets.specs.Octets.{part, be, num, Bytes}
use Rattle.octets.specs.BoolsLaws.{split, both}
use Rattle.octets.specs.Lists.{All}
use Rattle.octets.specs.PartsLaws.{length_part, bytes-part}
use Rattle.octets.specs.NumbersLaws.{length-be, bytes-be, num-be, be-part, num-lt}
use Rattle.machine.specs.Limits.{rec_bytes}
use Rattle.machine.specs.Values.{Cell, Rec}
use Rattle.machine.specs.Rows.{join, pad, zero_from}
use Rattle.machine.specs.Chains.{first, next_at}
use Rattle.machine.specs.Layout.{kind_at, reply_at, state_at, timed_out_at, first_cell_at, topic_size_at, slots_at, id_at, source_at, destination_at, total_at}
use Rattle.machine.specs.Layout.{created_at, end_at, topic_at, id_width, address_width, number_width, cell_place, rec_front, rec_fields, rec_row, rec_of}
use Rattle.machine.specs.Layout.{label_of}
use Rattle.machine.specs.Sound.{rec_shape}
use Rattle.machine.specs.Valid.{LabelSized, CellSized, RecSized}
use Rattle.octets.specs.ListsLaws.{◌&◌}
use Rattle.machine_laws.specs.Fields.{Fit, width, start, length-join, field_at, join-cuts, gets-is, pad-row, pad-zero, length-pad, bytes-pad, bytes-join}

-- the widths of a record's fields, with a topic of t bytes
abbrev rec_widths : ℕ → List ℕ
rec_widths t = id_at ∷ id_width ∷ address_width ∷ address_width ∷ number_width ∷ number_width ∷ number_width ∷ t ∷ []

rec_width : (t : ℕ) → width (rec_widths t) ≡ topic_at + t
rec_width t = omega arith

-- ---- from a row to the record

module _ (kind p : ℕ) (cells : List Cell) (row : List ℕ) (e : length row ≡ rec_bytes) (y : Bytes row) where
  number : (o : ℕ) → o + number_width ≤ length row → part row o number_width ≡ be number_width (num number_width (part row o number_width))
  number o h = sym (be-part row o number_width h y)

  pub rec-row : first (map cell_place cells) ≡ get_or row first_cell_at 0 → rec_shape kind row ≡ true → row ≡ rec_row kind (get_or row next_at 0) (rec_of p cells row)
  unfolding rec_row rec_of
  rec-row f z =
      let t : ℕ = get_or row topic_size_at 0 in
      let s = split (eqb (get_or row kind_at 0) kind) (zero_from rec_bytes (topic_at + t) row) z in
      let small : t < 256 = y topic_size_at in
      let k : get_or row kind_at 0 ≡ kind = eqb-true (get_or row kind_at 0) kind s.0 in
      let l : length (part row topic_at t) ≡ t = length_part row topic_at t (omega arith) in
      let front : part row 0 id_at ≡ rec_front kind (get_or row next_at 0) (rec_of p cells row) =
      gets-is row 0 id_at (omega arith)
      ∙ (λ i. get_or row next_at 0 ∷ k i ∷ get_or row reply_at 0 ∷ get_or row state_at 0 ∷ get_or row timed_out_at 0 ∷ sym f i ∷ sym l i ∷ get_or row slots_at 0 ∷ []) in
      pad-row rec_bytes (topic_at + t) row e (omega arith) s.1
      ∙ ap (λ (n : ℕ). pad rec_bytes (part row 0 n)) (sym (rec_width t))
      ∙ ap (pad rec_bytes) (sym (join-cuts row 0 (rec_widths t)))
      ∙ (λ i. pad rec_bytes (join (front i ∷ part row id_at id_width ∷ part row source_at address_width ∷ part row destination_at address_width
      ∷ number total_at (omega arith) i ∷ number created_at (omega arith) i ∷ number end_at (omega arith) i ∷ part row topic_at t ∷ [])))

  pub head-sized : LabelSized (label_of row)
  head-sized = record {
    id = (length_part row id_at id_width (omega arith), bytes-part row id_at id_width y);
    source = (length_part row source_at address_width (omega arith), bytes-part row source_at address_width y);
    destination = (length_part row destination_at address_width (omega arith), bytes-part row destination_at address_width y);
    total = num-lt number_width (part row total_at number_width) (bytes-part row total_at number_width y);
    topic = (
      let small : get_or row topic_size_at 0 < 256 = y topic_size_at in
          let l = length_part row topic_at (get_or row topic_size_at 0) (omega arith) in
          omega arith,
      bytes-part row topic_at (get_or row topic_size_at 0) y,
    );
  }

  pub rec-sized : All CellSized cells → RecSized (rec_of p cells row)
  unfolding rec_of
  rec-sized c = record {
    label = head-sized;
    created = num-lt number_width (part row created_at number_width) (bytes-part row created_at number_width y);
    end = num-lt number_width (part row end_at number_width) (bytes-part row end_at number_width y);
    cells = c;
  }

-- ---- from a record to its row, and back

module _ (kind next : ℕ) (r : Rec) (z : RecSized r) where
  abbrev topic_size : ℕ
  topic_size = length r.label.topic

  fields : Fit (rec_fields kind next r) (rec_widths topic_size)
  fields =
      refl & z.label.id.0 & z.label.source.0 & z.label.destination.0 & length-be number_width r.label.total
      & length-be number_width r.sending.created & length-be number_width r.sending.end & refl & tt

  long : length (join (rec_fields kind next r)) ≡ topic_at + topic_size
  long = length-join (rec_fields kind next r) (rec_widths topic_size) fields ∙ rec_width topic_size

  field : (i : ℕ) → part (rec_row kind next r) (start (rec_widths topic_size) i) (get_or (rec_widths topic_size) i 0) ≡ get_or (rec_fields kind next r) i []
  unfolding rec_row
  field i = field_at (rec_fields kind next r) (rec_widths topic_size) (replicate (rec_bytes - length (join (rec_fields kind next r))) 0) i fields

  pub rec-back : rec_of r.place r.cells (rec_row kind next r) ≡ r
  unfolding rec_of rec_row
  rec-back =
      let total : num number_width (part (rec_row kind next r) total_at number_width) ≡ r.label.total = ap (num number_width) (field 4) ∙ num-be number_width r.label.total z.label.total in
      let created : num number_width (part (rec_row kind next r) created_at number_width) ≡ r.sending.created = ap (num number_width) (field 5) ∙ num-be number_width r.sending.created z.created in
      let end : num number_width (part (rec_row kind next r) end_at number_width) ≡ r.sending.end = ap (num number_width) (field 6) ∙ num-be number_width r.sending.end z.end in
      λ i. record {
        place = r.place;
        label = record { id = field 1 i; source = field 2 i; destination = field 3 i; reply = r.label.reply; total = total i; topic = field 7 i };
        slots = r.slots;
        sending = record { state = r.sending.state; timed_out = r.sending.timed_out; created = created i; end = end i };
        cells = r.cells;
      }

  pub rec-shape : rec_shape kind (rec_row kind next r) ≡ true
  unfolding rec_row
  rec-shape =
      both (eqb kind kind) (zero_from rec_bytes (topic_at + topic_size) (rec_row kind next r)) (eq-eqb kind kind refl)
      (pad-zero rec_bytes (topic_at + topic_size) (join (rec_fields kind next r)) long)

  pub rec-length : length (rec_row kind next r) ≡ rec_bytes
  unfolding rec_row
  rec-length = length-pad rec_bytes (join (rec_fields kind next r)) (omega (arith, long, z.label.topic.0))

  pub rec-link : get_or (rec_row kind next r) next_at 0 ≡ next
  unfolding rec_row
  rec-link = refl

  pub rec-first : get_or (rec_row kind next r) first_cell_at 0 ≡ first (map cell_place r.cells)
  unfolding rec_row
  rec-first = refl

  -- a record's row is bytes, where its first eight are
  pub rec-bytes : Bytes (rec_front kind next r) → Bytes (rec_row kind next r)
  unfolding rec_row
  rec-bytes h =
      bytes-pad rec_bytes (join (rec_fields kind next r))
      (bytes-join (rec_fields kind next r)
      (h & z.label.id.1 & z.label.source.1 & z.label.destination.1 & bytes-be number_width r.label.total
      & bytes-be number_width r.sending.created & bytes-be number_width r.sending.end & z.label.topic.1 & tt))
