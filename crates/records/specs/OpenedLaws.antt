-- Opening a record, from bytes to stores. Assumes nothing.
use Prim.Native.Nat.{ℕ, suc, ◌+◌, ◌-◌, ◌≤◌}
use Rattle.std.proofs.Common.{arith, sym, ◌∙◌, subst, length-append, lt-ltb}
use Rattle.std.specs.Prelude.{◌≡◌, refl, ◌||◌, get_or, ltb}
use Rattle.std.proofs.Math.Path.{ap}
use mathlib.Core.List.{List, [], ◌∷◌, ◌++◌, map, append_assoc, append-nil}
use Rattle.std.proofs.Math.Option.{Option, none}
use Rattle.std.proofs.Math.ListN.{length, replicate}
use Rattle.std.proofs.lemmas.List.{length-replicate}
use Rattle.octets.specs.Octets.{put, be, Bytes}
use Rattle.octets.specs.PartsLaws.{get_or-put-before, length-put, more}
use Rattle.octets.specs.NumbersLaws.{length-be}
use Rattle.machine.specs.Limits.{rec_bytes, largest_topic, slots_of}
use Rattle.machine.specs.Codes.{role_receive, held_kind, kind_arriving}
use Rattle.machine.specs.Values.{Label, Cell, Rec, Store}
use Rattle.machine.specs.Rows.{join}
use Rattle.machine.specs.Chains.{first, chain_rows}
use Rattle.machine.specs.Layout.{free_at, held_at, total_at, number_width, rec_off, rec_place, cell_place, rec_row, rec_fields, rec_at, free_place, free_row}
use Rattle.machine.specs.Layout.{encode, decode}
use Rattle.machine.specs.Valid.{Valid}
use Rattle.machine.specs.Receive.{started, init_at}
use Rattle.machine.specs.Find.{is_some}
use Rattle.machine_laws.specs.Rows.{Held}
use Rattle.machine_laws.specs.StoreRows.{held-free}
use Rattle.machine_laws.specs.FreeRow.{free-map}
use Rattle.machine_laws.specs.Rep.{Rep}
use Rattle.machine_laws.specs.Walks.{head_byte}
use Rattle.machine_laws.specs.SoundValid.{sound-valid}
use Rattle.machine_writes.specs.Unheld.{rec_tail, rec-parts}
use Rattle.machine_writes.specs.Encodes
use Rattle.machine_steps.proofs.Init.{started-valid}
use Rattle.machine_steps.specs.LabelFine.{LabelFine}
use Rattle.machine_writes.specs.Byte.{first_byte, put-before}
use Rattle.machine_writes.specs.InRange.{sound-rep}
use Rattle.records.specs.Opening.{Openable, opened, FieldsFit, new_rec, front_of, rest_of, new_row, opened_row, opened_with, Ready}

-- ---- the row of a new record

module _ (kind : ℕ) (h : Label) (z : FieldsFit h) (created end : ℕ) (p : ℕ) (cells : List Cell) where
  abbrev r : Rec
  r = new_rec p h created end cells

  abbrev cell : ℕ
  cell = first (map cell_place cells)

  fields-length : length (join (rec_fields kind 0 r)) ≡ 72 + length h.topic
  fields-length =
      simp length-append
      (omega (arith, z.id, z.source, z.destination, length-be number_width h.total, length-be number_width created, length-be number_width end))

  -- its fields, with l behind its destination
  abbrev fields : List ℕ → List ℕ
  fields l = kind ∷ h.reply ∷ 0 ∷ 0 ∷ cell ∷ length h.topic ∷ slots_of h.total ∷ (h.id ++ (h.source ++ (h.destination ++ l)))

  abbrev numbers : List ℕ → List ℕ
  numbers l = be number_width h.total ++ (be number_width created ++ (be number_width end ++ l))

  pub new-row : new_row kind cell h created end ≡ rec_tail kind r
  unfolding rec_row
  new-row =
      let e : suc largest_topic - length h.topic ≡ rec_bytes - length (join (rec_fields kind 0 r)) = omega (arith, fields-length, z.topic) in
      ap (λ (l : List ℕ). kind ∷ h.reply ∷ 0 ∷ 0 ∷ cell ∷ length h.topic ∷ slots_of h.total ∷ l)
      (four h.id h.source h.destination (rest_of h.total created end h.topic))
      ∙ ap fields (five (be number_width h.total) (be number_width created) (be number_width end) h.topic (replicate (suc largest_topic - length h.topic) 0))
      ∙ (λ i. fields (numbers (sym (append-nil h.topic) i ++ replicate (e i) 0)))
      ∙ ap (λ (l : List ℕ). kind ∷ h.reply ∷ 0 ∷ 0 ∷ cell ∷ length h.topic ∷ slots_of h.total ∷ l)
      (sym (seven h.id h.source h.destination (be number_width h.total) (be number_width created) (be number_width end) (h.topic ++ [])
      (replicate (rec_bytes - length (join (rec_fields kind 0 r))) 0)))
    where
      four : (a b c d : List ℕ) → ((a ++ b) ++ c) ++ d ≡ a ++ (b ++ (c ++ d))
      four a b c d = simp append_assoc

      five : (a b c d e : List ℕ) → (((a ++ b) ++ c) ++ d) ++ e ≡ a ++ (b ++ (c ++ (d ++ e)))
      five a b c d e = simp append_assoc

      seven : (a b c d e f g x : List ℕ) → (a ++ (b ++ (c ++ (d ++ (e ++ (f ++ g)))))) ++ x ≡ a ++ (b ++ (c ++ (d ++ (e ++ (f ++ (g ++ x))))))
      seven a b c d e f g x = simp append_assoc

module _ (kind cell : ℕ) (h : Label) (z : FieldsFit h) (created end : ℕ) where
  front_length : length (front_of kind cell h) ≡ 47
  front_length = simp length-append (omega (arith, z.id, z.source, z.destination))

  rest-length : length (rest_of h.total created end h.topic) ≡ 280
  rest-length = simp (length-append, length-replicate) (omega (arith, z.topic, length-be number_width h.total, length-be number_width created, length-be number_width end))

  abbrev row : List ℕ
  row = new_row kind cell h created end

  pub row-length : length row ≡ 327
  row-length = length-append (front_of kind cell h) (rest_of h.total created end h.topic) ∙ (λ i. front_length i + rest-length i)

  -- it is written in two parts
  pub row_written : (b m l : List ℕ) (o : ℕ) → o + rec_bytes ≤ length b → m ≡ put b (o + 1) (front_of kind cell h) → l ≡ put m (o + total_at) (rest_of h.total created end h.topic)
      → l ≡ put b (o + 1) row
  row_written b m l o f w1 w2 =
      more b m l (o + 1) (o + total_at) (front_of kind cell h) (rest_of h.total created end h.topic) w1 w2 (omega (arith, front_length)) (omega (arith, front_length))

  -- ---- bytes

  -- the row is written into the first free record behind its link
  module _ (b : List ℕ) (f : Openable b) where
    abbrev p : ℕ
    p = get_or b free_at 0

    abbrev filled : List ℕ
    filled = put b (rec_off p + 1) row

    filled_is : (m : List ℕ) (o : ℕ) → o ≡ rec_off p → m ≡ put b (o + 1) row → m ≡ filled
    filled_is m o e w = w ∙ (λ i. put b (e i + 1) row)

    fits : rec_off p + 1 + length row ≤ length b
    fits = omega (arith, f.some, f.small, f.long, row-length)

    kept : (j : ℕ) → j ≤ rec_off p → get_or filled j 0 ≡ get_or b j 0
    kept j g = get_or-put-before b (rec_off p + 1) row fits j (omega arith)

    free-kept : Openable filled
    free-kept = record {
      some = omega (arith, kept free_at (omega arith), f.some);
      small = omega (arith, kept free_at (omega arith), f.small);
      long = omega (arith, length-put b (rec_off p + 1) row fits, f.long);
    }

    -- what is written is the record, whatever its pieces are: they start at the place `cell`
    pub open-chain : (cells : List Cell) → first (map cell_place cells) ≡ cell
        → opened_row kind cell h created end b ≡ opened_with kind (new_rec p h created end cells) b
    open-chain cells e =
        let tail : row ≡ rec_tail kind (new_rec p h created end cells) = ap (λ (x : ℕ). new_row kind x h created end) (sym e) ∙ new-row kind h z created end p cells in
        (λ i. put (put filled (rec_off (kept free_at (omega arith) i)) (kept held_at (omega arith) i ∷ [])) free_at
        (get_or filled (rec_off (kept free_at (omega arith) i)) 0 ∷ kept free_at (omega arith) i ∷ []))
        ∙ (λ i. put ((put-before b (rec_off p) (get_or b held_at 0) row fits ∙ ap (λ (l : List ℕ). put b (rec_off p) (get_or b held_at 0 ∷ l)) tail
        ∙ ap (put b (rec_off p)) (sym (rec-parts kind (get_or b held_at 0) (new_rec p h created end cells)))) i) free_at (kept (rec_off p) (omega arith) i ∷ p ∷ []))

    -- m is b with the row written; then the record is held
    module _ (m : List ℕ) (o : ℕ) (e : o ≡ rec_off p) (w : m ≡ put b (o + 1) row) where
      pub row-ready : Openable m
      row-ready = subst Openable (sym (filled_is m o e w)) free-kept

      pub row_opens : (l : List ℕ) → l ≡ opened m → l ≡ opened_row kind cell h created end b
      row_opens l q = q ∙ ap opened (filled_is m o e w)

-- ---- stores

-- a label that a record can have has fields of their widths
pub fine-fields : {h : Label} → LabelFine h → FieldsFit h
fine-fields f = record { id = f.sized.id.0; source = f.sized.source.0; destination = f.sized.destination.0; total = f.total; topic = f.sized.topic.0 }

-- an arriving record in a sound store
module _ (b : List ℕ) (y : Bytes b) (h : Label) (g : Ready b h) where
  abbrev s : Store
  s = decode b

  v : Valid role_receive s
  v = (sound-valid role_receive b y g.sound).0

  rep : Rep s b
  rep = sound-rep role_receive b y g.sound

  -- the free record at q, and those behind it
  module _ (q : ℕ) (qs : List ℕ) (is : s.free ≡ q ∷ qs) where
    at : get_or b free_at 0 ≡ q
    at = head_byte role_receive s v b rep free_at (omega arith) ∙ ap first is

    behind : get_or b (rec_off q) 0 ≡ first qs
    behind =
        let line : rec_at b q ≡ free_row rec_bytes (first (map free_place qs)) q =
        (subst (λ (l : List ℕ). Held (rec_at b) (chain_rows free_place (free_row rec_bytes) l)) is (held-free s (rec_at b) rep.recs)).0 in
        first_byte b (rec_off q) rec_bytes (omega arith) ∙ ap (λ (l : List ℕ). get_or l 0 0) line ∙ ap first (free-map qs)

    valid : Valid role_receive (init_at none h s)
    valid =
        subst (λ (o : Option Rec). Valid role_receive (init_at o h s)) g.held
        (started-valid h s g.whole (ap (λ (o : Option Rec). is_some o || ltb 0 (length s.free)) g.held ∙ ap (λ (l : List ℕ). ltb 0 (length l)) is
        ∙ lt-ltb 0 (length (q ∷ qs)) (omega arith)) g.fine v)

    encoded : opened_with kind_arriving (started (get_or b free_at 0) h) b ≡ encode (init_at none h s)
    encoded =
        (λ i. put (put b (rec_off (at i)) (rec_row kind_arriving (head_byte role_receive s v b rep held_at (omega arith) i) (started (at i) h))) free_at (get_or b (rec_off (at i)) 0 ∷ at i ∷ []))
        ∙ (λ i. put (put b (rec_off q) (rec_row (sym (ap held_kind v.in_role) i) (first (map rec_place s.held)) (started q h))) free_at (behind i ∷ q ∷ []))
        ∙ Encodes.init-encode role_receive b y g.sound q qs is h g.fine.sized valid

  pub ready-opened : (b' : List ℕ) → b' ≡ opened_row kind_arriving 0 h 0 0 b → b' ≡ encode (init_at none h s)
  ready-opened b' o = o ∙ open-chain kind_arriving 0 h (fine-fields g.fine) 0 0 b g.free [] refl ∙ go s.free refl
    where
      go : (l : List ℕ) → s.free ≡ l → opened_with kind_arriving (started (get_or b free_at 0) h) b ≡ encode (init_at none h s)
      go [] e = absurd (omega (arith, g.free.some, head_byte role_receive s v b rep free_at (omega arith), ap first e))
      go (q ∷ qs) e = encoded q qs e

pub ruleset opens = (row_written, row-ready, row_opens, fine-fields, ready-opened)
