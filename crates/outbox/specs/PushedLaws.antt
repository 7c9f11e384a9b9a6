-- A push that is not refused, from bytes to stores: the pieces are cut into the free cells, then the record is opened. Assumes nothing.
use Prim.Native.Nat.{ℕ, zero, suc, ◌<◌}
use Rattle.std.proofs.Common.{arith, zero-add, sym, ◌∙◌, subst, take-append-drop, le-ltb, lt-ltb, ltb-true}
use Rattle.std.specs.Prelude.{unwrap_or, ◌≡◌, length, get_or, drop}
use Rattle.std.proofs.Math.Path.{refl, ap}
use mathlib.Core.List.{List, [], ◌∷◌, ◌++◌, map}
use Rattle.octets.specs.Octets.{put, Bytes}
use Rattle.octets.specs.PartsLaws.{get_or-part}
use Rattle.machine.specs.Limits.{head_bytes, rec_bytes, slots_of}
use Rattle.machine.specs.Codes.{role_send, kind_leaving, held_kind}
use Rattle.machine.specs.Values.{Label, Cell, Rec, Store}
use Rattle.machine.specs.Chains.{first, chain_rows}
use Rattle.machine.specs.Layout.{free_at, held_at, free_cells_at, number_limit, rec_off, rec_place, cell_place, free_place, free_row, rec_row, head_row, rec_at, encode, decode}
use Rattle.machine.specs.Valid.{RecSized, Valid}
use Rattle.machine.specs.Pieces.{cut_pieces, rest}
use Rattle.machine.specs.Send.{push_step}
use Rattle.machine_laws.specs.Rows.{Held}
use Rattle.machine_laws.specs.StoreRows.{held-free}
use Rattle.machine_laws.specs.FreeRow.{free-map}
use Rattle.machine_laws.specs.Rep.{Rep}
use Rattle.machine_laws.specs.Walks.{head_byte}
use Rattle.machine_steps.proofs.PlacesCut.{places-cut}
use Rattle.machine_steps.proofs.Push.{leaving, leaving-sized, pushed-valid}
use Rattle.machine_writes.specs.InRange.{links}
use Rattle.machine_writes.specs.Byte.{first_byte}
use Rattle.machine_writes.specs.Cut.{cut_bytes, cut-ready}
use Rattle.machine_writes.specs.Open.{Ready, with_free_cells}
use Rattle.machine_writes.specs.Encodes
use Rattle.records.specs.MetLaws.{valid, rep}
use Rattle.records.specs.EstablishedLaws.{free-is}
use Rattle.records.specs.Opening.{Openable, FieldsFit, new_rec, opened_row, opened_with}
use Rattle.records.specs.OpenedLaws.{fine-fields, open-chain}
use Rattle.outbox.specs.Pushing.{Pushable, first_place}

-- the pieces of the bytes, the cells that stay free, and the bytes of the store with the pieces cut
abbrev pub pieces_of : List ℕ → List ℕ → List Cell
pieces_of b bytes = cut_pieces (slots_of (length bytes)) 0 (decode b).free_cells bytes

abbrev pub spare_of : List ℕ → List ℕ → List ℕ
spare_of b bytes = drop (slots_of (length bytes)) (decode b).free_cells

abbrev pub cut_of : List ℕ → List ℕ → List ℕ
cut_of b bytes = cut_bytes b (pieces_of b bytes) (spare_of b bytes)

module _ (b : List ℕ) (y : Bytes b) (h : Label) (bytes : List ℕ) (g : Pushable b h bytes) where
  abbrev s : Store
  s = decode b

  abbrev v : Valid role_send s
  v = valid role_send b y g.sound

  abbrev holds : Rep s b
  holds = rep role_send b y g.sound

  -- the first piece's place
  pub first-place : unwrap_or (first_place b (length bytes)) 0 ≡ first (map cell_place (pieces_of b bytes))
  unfolding cut_pieces
  first-place = go (length bytes) (slots_of (length bytes)) refl
    where
      go : (n k : ℕ) → k ≡ slots_of n → unwrap_or (first_place b n) 0 ≡ first (map cell_place (cut_pieces k 0 s.free_cells bytes))
      go n zero e = rw (le-ltb 0 n (omega arith))
      go n (suc k) e = rw (lt-ltb 0 n (omega arith)) (head_byte role_send s v b holds free_cells_at (omega arith))

  -- data of bytes, and times that fit
  module _ (z : Bytes bytes) (created end : ℕ) (c : created < number_limit) (e : end < number_limit) where
    abbrev r : Rec
    r = leaving (first s.free) h created end bytes s.free_cells

    sized : RecSized r
    sized = leaving-sized (first s.free) h created end bytes s.free_cells g.fine z c e

    parts : s.free_cells ≡ map cell_place (pieces_of b bytes) ++ spare_of b bytes
    parts =
        sym (ap (λ (l : List ℕ). l ++ spare_of b bytes) (places-cut (slots_of (length bytes)) 0 s.free_cells bytes g.cells)
        ∙ take-append-drop (slots_of (length bytes)) s.free_cells)

    ready : Ready s (spare_of b bytes) r (cut_of b bytes)
    ready = cut-ready role_send s v b holds r (spare_of b bytes) parts sized.cells

    -- the head's bytes, but for the link to the free cells, are what they were
    cut-byte : (j : ℕ) → j < head_bytes → get_or (cut_of b bytes) j 0 ≡ get_or (head_row (with_free_cells (spare_of b bytes) s)) j 0
    cut-byte j w =
        ap (λ (x : ℕ). get_or (cut_of b bytes) x 0) (sym (zero-add j)) ∙ sym (get_or-part (cut_of b bytes) 0 head_bytes j w)
        ∙ ap (λ (l : List ℕ). get_or l j 0) ready.head

    pub cut_openable : Openable (cut_of b bytes)
    cut_openable =
        let same : get_or (cut_of b bytes) free_at 0 ≡ get_or b free_at 0 = cut-byte free_at (omega arith) ∙ sym (head_byte role_send s v b holds free_at (omega arith)) in
        record {
          some = omega (arith, same, ltb-true 0 (get_or b free_at 0) (free-is role_send b y g.sound ∙ lt-ltb 0 (length s.free) g.free));
          small = omega (arith, same, (links role_send b y g.sound).free.small);
          long = omega (arith, ready.size);
        }

    pub open_ready : (m : List ℕ) → m ≡ cut_of b bytes → Openable m × FieldsFit h
    open_ready m w = (rw w cut_openable, fine-fields g.fine)

    -- the free record at q, and those behind it
    module _ (q : ℕ) (qs : List ℕ) (is : s.free ≡ q ∷ qs) where
      at : get_or (cut_of b bytes) free_at 0 ≡ q
      at = cut-byte free_at (omega arith) ∙ ap first is

      behind : get_or (cut_of b bytes) (rec_off q) 0 ≡ first qs
      behind =
          let line : rec_at (cut_of b bytes) q ≡ free_row rec_bytes (first (map free_place qs)) q =
          (subst (λ (l : List ℕ). Held (rec_at (cut_of b bytes)) (chain_rows free_place (free_row rec_bytes) l)) is (held-free s (rec_at (cut_of b bytes)) ready.recs)).0 in
          first_byte (cut_of b bytes) (rec_off q) rec_bytes (omega arith) ∙ ap (λ (l : List ℕ). get_or l 0 0) line ∙ ap first (free-map qs)

      abbrev new : Rec
      new = leaving q h created end bytes s.free_cells

      -- the store with the record
      with-new : push_step h created end bytes s ≡ record { setup = s.setup; free = qs; held = new ∷ s.held; whole = s.whole; free_cells = spare_of b bytes }
      unfolding push_step
      with-new =
          ap (λ (f : List ℕ). record { setup = s.setup; free = rest f; held = leaving (first f) h created end bytes s.free_cells ∷ s.held; whole = s.whole; free_cells = spare_of b bytes }) is

      encoded : opened_with kind_leaving (new_rec (get_or (cut_of b bytes) free_at 0) h created end (pieces_of b bytes)) (cut_of b bytes) ≡ encode (push_step h created end bytes s)
      encoded =
          let m : List ℕ = cut_of b bytes in
          let row : new_rec q h created end (pieces_of b bytes) ≡ new =
          ap (λ (n : ℕ). record { place = q; label = h; slots = slots_of n; sending = new.sending; cells = pieces_of b bytes }) g.total in
          (λ i. put (put m (rec_off (at i)) (rec_row kind_leaving (cut-byte held_at (omega arith) i) (new_rec (at i) h created end (pieces_of b bytes)))) free_at
          (get_or m (rec_off (at i)) 0 ∷ at i ∷ []))
          ∙ (λ i. put (put m (rec_off q) (rec_row (sym (ap held_kind v.in_role) i) (first (map rec_place s.held)) (row i))) free_at (behind i ∷ q ∷ []))
          ∙ Encodes.push-encode role_send b y g.sound q qs is new refl (leaving-sized q h created end bytes s.free_cells g.fine z c e) (spare_of b bytes) parts
          (subst (Valid role_send) with-new (pushed-valid h created end bytes s g.held g.free g.cells g.fine g.total z c e v))
          ∙ ap encode (sym with-new)

    pub push_opened : (m l : List ℕ) (cell : ℕ) → m ≡ cut_of b bytes → cell ≡ unwrap_or (first_place b (length bytes)) 0
        → l ≡ opened_row kind_leaving cell h created end m → l ≡ encode (push_step h created end bytes s)
    push_opened m l cell w f o =
        o ∙ ap (opened_row kind_leaving cell h created end) w
        ∙ open-chain kind_leaving cell h (fine-fields g.fine) created end (cut_of b bytes) cut_openable (pieces_of b bytes) (sym (f ∙ first-place))
        ∙ go s.free refl
      where
        go : (l : List ℕ) → s.free ≡ l
            → opened_with kind_leaving (new_rec (get_or (cut_of b bytes) free_at 0) h created end (pieces_of b bytes)) (cut_of b bytes) ≡ encode (push_step h created end bytes s)
        go [] q = absurd (omega (arith, g.free, ap length q))
        go (q ∷ qs) is = encoded q qs is
