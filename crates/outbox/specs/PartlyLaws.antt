-- A send wake part of the way: some pieces of the record were sent. What the bytes are then, and what one more piece makes of them. Assumes nothing.
use Rattle.std.specs.Prelude.{ℕ, ◌≤◌, ◌<◌, ◌≡◌, refl, true, length, get_or}
use Rattle.std.proofs.Common.{arith, ◌∙◌, subst}
use Rattle.std.proofs.Math.Path.{sym, ap}
use mathlib.Core.List.{List, [], ◌∷◌, ◌++◌, map, append-nil}
use Rattle.std.proofs.Math.Option.{Option, some}
use Rattle.octets.specs.Octets.{Bytes}
use Rattle.octets.specs.Lists.{All}
use Rattle.octets.specs.ListsLaws.{all_right}
use Rattle.machine.specs.Codes.{role_send, piece_sent}
use Rattle.machine.specs.Values.{Cell, Rec, Store, same_key}
use Rattle.machine.specs.Chains.{first}
use Rattle.machine.specs.Layout.{count_at, cell_place, cell_row, cell_at, cell_of, read_cell, encode, decode}
use Rattle.machine.specs.Sound.{rising}
use Rattle.machine.specs.Valid.{CellSized, Valid}
use Rattle.machine.specs.Receive.{rec_key}
use Rattle.machine.specs.Choice.{chosen}
use Rattle.machine.specs.Send.{with_held, with_cells, marked, change_at, change, stamped, with_stamps}
use Rattle.machine.specs.Typed.{TypedClock}
use Rattle.machine_laws.specs.CellRow.{cell-back}
use Rattle.machine_laws.specs.Rep.{Rep, rep-encode, encode-rep}
use Rattle.machine_laws.specs.Walks.{head_byte}
use Rattle.machine_laws.specs.SoundValid.{sound-valid}
use Rattle.machine_writes.specs.Links.{Links}
use Rattle.machine_writes.specs.InRange.{valid-links}
use Rattle.machine_writes.specs.Split.{Split}
use Rattle.machine_writes.specs.Swap.{held_store}
use Rattle.machine_steps.proofs.Marks.{marks-stamped, rising-map}
use Rattle.machine_steps.proofs.RemarkedValid.{held_small}
use Rattle.machine_steps.proofs.RemarkedValid.{remarked-valid}
use Rattle.machine_steps.proofs.Waiting.{Within}
use Rattle.machine_steps.proofs.Stamps.{stamped-one, stamped-then, next-within}
use Rattle.records.specs.HeldAt.{rec_in, key_in, HeldAt}
use Rattle.records.specs.MetLaws.{valid, rep, held-here, here-key, here-fine, here-split}
use Rattle.pieces.specs.InPlace.{remarked}
use Rattle.pieces.specs.HeldLaws.{sized, piece-in, piece-row}
use Rattle.pieces.specs.MarkLaws.{mark-rep}
use Rattle.outbox.specs.Leaves.{Here}

-- of the record that the link at byte `link` leads to, the pieces `sent` were sent and are stamped
abbrev pub cells_then : ℕ → List ℕ → ℕ → List Cell → List Cell
cells_then clock b link sent = map (stamped clock sent) (rec_in b link).cells

abbrev pub partly : ℕ → List ℕ → ℕ → List Cell → Store
partly clock b link sent = change (with_cells (cells_then clock b link sent)) (key_in b link) (decode b)

-- bytes part of the way: those are left
pub record Partly (clock : ℕ) (b : List ℕ) (link : ℕ) (sent left : List Cell) (d : List ℕ) : Type 0 where
  pub parts : chosen clock (rec_in b link).cells ≡ sent ++ left
  pub is : d ≡ encode (partly clock b link sent)

module _ {b : List ℕ} {link : ℕ} (here : Here b link) where
  abbrev y : Bytes b
  y = here.bytes

  abbrev h : HeldAt role_send b link
  h = here.held

  abbrev s : Store
  s = decode b

  abbrev r : Rec
  r = rec_in b link

  abbrev around : Split same_key rec_key (key_in b link) r s.held
  around = here-split role_send b y link h

  -- the store in which the record has other pieces
  abbrev with : List Cell → Store
  with cells = held_store s (around.before ++ (with_cells cells r ∷ around.behind)) s.free_cells

  -- a change of the record is seen at the record
  pub change-is : (f : Rec → Rec) → change f (key_in b link) s ≡ change_at f (some r) s
  change-is f = ap (λ (o : Option Rec). change_at f o s) (held-here role_send b y link h)

  with-is : (cells : List Cell) → change (with_cells cells) (key_in b link) s ≡ with cells
  unfolding change_at
  with-is cells = change-is (with_cells cells) ∙ ap (λ (l : List Rec). with_held l s) (around.swapped (with_cells cells r) (here-key role_send b y link h))

  -- the record as it is
  pub unchanged : encode (change_at (λ (x : Rec). x) (some r) s) ≡ b
  unfolding change_at
  unchanged =
      ap (λ (l : List Rec). encode (with_held l s)) (around.swapped r (here-key role_send b y link h) ∙ sym around.is)
      ∙ (sound-valid role_send b y h.sound).1

  module _ {clock : ℕ} (t : TypedClock clock) where
    abbrev cells : List Cell → List Cell
    cells sent = cells_then clock b link sent

    partly-valid : (sent : List Cell) → Valid role_send (with (cells sent))
    partly-valid sent =
        let v = valid role_send b y h.sound in
        let e = held-here role_send b y link h in
        let few = held_small (key_in b link) r s e v in
        let w =
        remarked-valid (key_in b link) r s e v r.sending.state r.sending.timed_out (stamped clock sent) few.0 few.1
        (marks-stamped clock sent t) in
        subst (λ (l : List Rec). Valid role_send (held_store s l s.free_cells))
        (around.swapped (with_cells (cells sent) r) (here-key role_send b y link h)) w

    module _ {sent left : List Cell} {d : List ℕ} (p : Partly clock b link sent left d) where
      partly-rep : Rep (with (cells sent)) d
      partly-rep =
          subst (Rep (with (cells sent))) (sym (p.is ∙ ap encode (with-is (cells sent))))
          (encode-rep role_send (with (cells sent)) (partly-valid sent))

      pub partly-links : Links d
      partly-links = valid-links role_send (with (cells sent)) (partly-valid sent) d partly-rep

      pub partly-long : length d ≡ length b
      partly-long = partly-rep.size ∙ sym (rep role_send b y h.sound).size

      partly-count : get_or d count_at 0 ≡ s.setup.cells
      partly-count = head_byte role_send (with (cells sent)) (partly-valid sent) d partly-rep count_at (omega arith)

    -- all were sent
    pub partly-all : {sent left : List Cell} {d : List ℕ} → Partly clock b link sent left d → left ≡ []
        → (sent ≡ chosen clock r.cells) × (d ≡ encode (change (with_stamps clock (chosen clock r.cells)) (key_in b link) s))
    unfolding change_at
    partly-all {sent} p none =
        let those = chosen clock r.cells in
        let all : sent ≡ those = sym (p.parts ∙ ap (λ (l : List Cell). sent ++ l) none ∙ append-nil sent) in (
          all,
          p.is ∙ ap (λ (l : List Cell). encode (partly clock b link l)) all
              ∙ ap encode (change-is (with_cells (cells those)) ∙ sym (change-is (with_stamps clock those))),
        )

    -- c is next
    module _ {sent : List Cell} {c : Cell} {left : List Cell} {d : List ℕ} (p : Partly clock b link sent (c ∷ left) d) where
      abbrev q : Rec
      q = with_cells (cells sent) r

      rises : rising 0 r.slots r.cells ≡ true
      rises = (here-fine role_send b y link h).rises

      -- it stands among the pieces
      there : Within (cells sent) c
      there = next-within clock 0 r.slots r.cells rises sent c left p.parts

      pub next-in : (0 < c.place) × (c.place ≤ get_or d count_at 0)
      next-in =
          let z =
          piece-in role_send (with (cells sent)) (partly-valid sent) around.before q around.behind refl there.before c there.behind
          there.is in
          (z.0, omega (arith, z.1, partly-count p))

      next_row : cell_at d c.place ≡ cell_row (first (map cell_place there.behind)) c
      next_row =
          piece-row role_send (with (cells sent)) (partly-valid sent) around.before q around.behind refl d (partly-rep p) there.before c
          there.behind there.is

      pub next-read : read_cell d c.place ≡ c
      next-read =
          ap (cell_of c.place) next_row
          ∙ cell-back (first (map cell_place there.behind)) c
          (all_right CellSized there.before (c ∷ there.behind)
          (subst (All CellSized) there.is (sized role_send (with (cells sent)) (partly-valid sent) around.before q around.behind refl).cells)).0

      -- c too is stamped
      pub next-stamped : remarked d c.place clock piece_sent ≡ encode (partly clock b link (sent ++ (c ∷ [])))
      next-stamped =
          let row : rising 0 r.slots (there.before ++ (c ∷ there.behind)) ≡ true =
          subst (λ (l : List Cell). rising 0 r.slots l ≡ true) there.is
          (rising-map (stamped clock sent) (marks-stamped clock sent t) 0 r.slots r.cells ∙ rises) in
          let now : there.before ++ (marked c clock piece_sent ∷ there.behind) ≡ cells (sent ++ (c ∷ [])) =
          sym (stamped-one clock 0 r.slots there.before c there.behind row) ∙ ap (map (stamped clock (c ∷ []))) (sym there.is)
          ∙ stamped-then clock sent (c ∷ []) r.cells in
          rep-encode role_send (with (cells (sent ++ (c ∷ [])))) (partly-valid (sent ++ (c ∷ []))) (remarked d c.place clock piece_sent)
          (subst (λ (l : List Cell). Rep (with l) (remarked d c.place clock piece_sent)) now
          (mark-rep role_send (with (cells sent)) (partly-valid sent) d (partly-rep p) around.before q around.behind refl there.before c
          there.behind there.is clock piece_sent))
          ∙ ap encode (sym (with-is (cells (sent ++ (c ∷ [])))))
