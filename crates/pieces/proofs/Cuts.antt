-- Data cut into the free cells, piece by piece, as the loop takes it: what is left from here gives what the whole gives. Assumes nothing.
use Prim.Native.Nat.{ℕ, zero, suc, ◌+◌, ◌-◌, ◌*◌, ◌≤◌, ◌<◌}
use native.Mathlib.Numerals.{add-one}
use native.Mathlib.Nat.{sub-zero}
use native.Mathlib.Omega.{arith}
use mathlib.Core.Path.{◌≡◌, refl, sym, ap, ◌∙◌, subst}
use mathlib.Core.Bool.{Bool, true, cond}
use mathlib.Core.List.{List, [], ◌∷◌}
use lib.ListN.{length, get_or, take, drop, length-drop, take-append-drop}
use lib.Seq.{take_all, drop-drop, get_or-drop}
use borrow.Author.Tests.{lt-ltb, le-ltb}
use Rattle.octets.specs.Octets.{put, Bytes}
use Rattle.machine.specs.Limits.{longest, cut_by, slots_of}
use Rattle.machine.specs.Codes.{role_send}
use Rattle.machine.specs.Chains.{first, link}
use Rattle.machine.specs.Counting.{occurs}
use Rattle.machine.specs.Layout.{free_cells_at, cell_off, cell_row, cell_at, decode}
use Rattle.machine.specs.Sound.{sound}
use Rattle.machine.specs.Pieces.{new_cell, rest, cut_pieces}
use Rattle.machine_laws.specs.Counting.{Few, occurs-append}
use Rattle.machine_laws.specs.Chains.{Linked}
use Rattle.machine_writes.specs.Laid.{laid}
use Rattle.machine_writes.specs.Cut.{cut_bytes}
use Rattle.machine_writes.specs.InRange.{links}
use Rattle.records.specs.MetLaws.{valid, rep}
use Rattle.pieces.specs.InPlace.{CellIn}
use Rattle.pieces.specs.CuttingLaws.{pieces_laid, One, lay-one, free-few, free-chain}
use Rattle.pieces.specs.Laying.{piece_laid}

-- ---- one piece

module _ (b : List ℕ) (x i : ℕ) (bytes : List ℕ) where
  -- what is laid, by whether more bytes follow
  abbrev laid_if : Bool → List ℕ
  laid_if k = put b (cell_off x) (cell_row (cond k (get_or b (cell_off x) 0) 0) (new_cell x i (take cut_by bytes)))

  -- more bytes follow
  pub laid_on : {b' : List ℕ} {row : ℕ} → row ≡ cell_off x → cut_by < length bytes
      → b' ≡ put b (cell_off x) (cell_row (get_or b row 0) (new_cell x i (take cut_by bytes))) → b' ≡ piece_laid b x i bytes
  laid_on q h w =
      w ∙ (λ t. put b (cell_off x) (cell_row (get_or b (q t) 0) (new_cell x i (take cut_by bytes)))) ∙ ap laid_if (sym (lt-ltb cut_by (length bytes) h))

  -- the last one
  pub laid-last : {b' : List ℕ} → length bytes ≤ cut_by → b' ≡ put b (cell_off x) (cell_row 0 (new_cell x i bytes)) → b' ≡ piece_laid b x i bytes
  laid-last h w =
      w ∙ (λ t. put b (cell_off x) (cell_row 0 (new_cell x i (sym (take_all cut_by bytes h) t)))) ∙ ap laid_if (sym (le-ltb cut_by (length bytes) h))

-- ---- all of them

-- the free cells
abbrev free : List ℕ → List ℕ
free b = (decode b).free_cells

-- i pieces are laid, `at` bytes are done, and x is the next free cell; the bytes of the store were b₀ and are b
pub record Cutting (b₀ bytes b : List ℕ) (x i at : ℕ) : Type 0 where
  pub turns : i ≤ slots_of (length bytes)
  pub done : at ≡ cut_by * i
  pub from : x ≡ first (drop i (free b₀))
  pub long : length b ≡ length b₀
  pub chain : Linked (link (cell_at b)) (drop i (free b₀))
  pub gives : pieces_laid (cut_pieces (slots_of (length bytes) - i) i (drop i (free b₀)) (drop at bytes)) b
      ≡ pieces_laid (cut_pieces (slots_of (length bytes)) 0 (free b₀) bytes) b₀

-- one more is left out
rest-drop : (n : ℕ) (l : List ℕ) → rest (drop n l) ≡ drop (suc n) l
rest-drop zero [] = refl
rest-drop zero (a ∷ l) = refl
rest-drop (suc n) [] = refl
rest-drop (suc n) (a ∷ l) = rest-drop n l

-- of places none of which stands twice, none does so in a part
few-drop : (C n : ℕ) (l : List ℕ) → Few C l → Few C (drop n l)
few-drop C n l u k = omega (arith, u k, ap (occurs k) (sym (take-append-drop n l)) ∙ occurs-append k (take n l) (drop n l))

-- a sound send store with as many free cells as the data needs
pub record Cuttable (b₀ bytes : List ℕ) : Type 0 where
  pub stored : Bytes b₀
  pub given : Bytes bytes
  pub sound : sound role_send b₀ ≡ true
  pub fits : length bytes ≤ longest
  pub room : slots_of (length bytes) ≤ length (free b₀)

module _ {b₀ bytes : List ℕ} (g : Cuttable b₀ bytes) where
  -- the head is there
  pub cut-head : free_cells_at < length b₀
  cut-head = omega (arith, (links role_send b₀ g.stored g.sound).long)

  -- before the first piece
  pub cut-start : Cutting b₀ bytes b₀ (get_or b₀ free_cells_at 0) 0 0
  cut-start =
      let c = free-chain role_send b₀ g.stored g.sound in
      record {
        turns = omega arith;
        done = omega arith;
        from = sym c.from;
        long = refl;
        chain = c.links;
        gives = ap (λ (n : ℕ). pieces_laid (cut_pieces n 0 (free b₀) bytes) b₀) (sub-zero (slots_of (length bytes)));
      }

  module _ {b : List ℕ} {x i at : ℕ} (c : Cutting b₀ bytes b x i at) where
    -- an index is a byte
    pub cut-few : i ≤ 25
    cut-few = omega (arith, c.turns, g.fits)

    -- nothing is left: the head's link goes on
    pub cut-end : length bytes ≤ at → {b' : List ℕ} → b' ≡ put b free_cells_at (x ∷ [])
        → b' ≡ cut_bytes b₀ (cut_pieces (slots_of (length bytes)) 0 (free b₀) bytes) (drop (slots_of (length bytes)) (free b₀))
    unfolding laid cut_pieces
    cut-end h w =
        let e : i ≡ slots_of (length bytes) = omega (arith, c.turns, c.done) in
        let none : slots_of (length bytes) - i ≡ 0 = omega arith in
        let is : b ≡ pieces_laid (cut_pieces (slots_of (length bytes)) 0 (free b₀) bytes) b₀ = rw none at c.gives in
        w ∙ (λ k. put (is k) free_cells_at ((c.from ∙ ap (λ (j : ℕ). first (drop j (free b₀))) e) k ∷ []))

    module _ (h : at < length bytes) where
      -- what the next piece does
      one : One (slots_of (length bytes) - i) i (drop i (free b₀)) (drop at bytes) b
      one =
          let v = valid role_send b₀ g.stored g.sound in
          let few = few-drop (decode b₀).setup.cells i (free b₀) (free-few role_send b₀ g.stored g.sound) in
          let long = c.long ∙ (rep role_send b₀ g.stored g.sound).size in
          lay-one (decode b₀).setup.cells i (drop at bytes) b v.most (λ j. rw get_or-drop (g.given (at + j))) long (slots_of (length bytes) - i)
          (drop i (free b₀)) (omega (arith, c.turns, c.done, length-drop at bytes)) (omega (arith, length-drop at bytes))
          (omega (arith, g.room, length-drop i (free b₀))) few c.chain

      -- the next free cell is one
      pub cut-cell : {p : ℕ} → p ≡ x → CellIn b p
      cut-cell q = subst (CellIn b) (sym (q ∙ c.from)) one.cell

      -- one more piece, in the cell at the place p
      pub cut_on : {b' : List ℕ} {p x' : ℕ} → p ≡ x → x' ≡ get_or b (cell_off p) 0 → b' ≡ piece_laid b p i (take (length bytes - at) (drop at bytes))
          → {z : ℕ} → z ≡ at + cut_by → Cutting b₀ bytes b' x' (i + 1) z
      cut_on {b'} {p} q e w u =
          let all = take_all (length bytes - at) (drop at bytes) (omega (arith, length-drop at bytes)) in
          let is : b' ≡ piece_laid b (first (drop i (free b₀))) i (drop at bytes) =
          w ∙ ap (piece_laid b p i) all ∙ ap (λ (k : ℕ). piece_laid b k i (drop at bytes)) (q ∙ c.from) in
          let behind : rest (drop i (free b₀)) ≡ drop (i + 1) (free b₀) = rest-drop i (free b₀) ∙ ap (λ (k : ℕ). drop k (free b₀)) (sym (add-one i)) in
          let n : slots_of (length bytes) - (i + 1) ≡ slots_of (length bytes) - i - 1 = omega arith in
          rw u record {
            turns = omega (arith, c.turns, c.done);
            done = omega (arith, c.done);
            from = e ∙ ap (λ (k : ℕ). get_or b (cell_off k) 0) (q ∙ c.from) ∙ one.next ∙ ap first behind;
            long = ap length is ∙ one.long ∙ c.long;
            chain = subst (λ (l : List ℕ). Linked (link (cell_at l)) (drop (i + 1) (free b₀))) (sym is)
                (subst (Linked (link (cell_at (piece_laid b (first (drop i (free b₀))) i (drop at bytes))))) behind one.chain);
            gives = (λ k. pieces_laid (cut_pieces (n k) (add-one i k) (sym behind k) (sym (drop-drop cut_by at bytes) k)) (is k)) ∙ one.left
                ∙ c.gives;
          }

pub ruleset lays = (laid_on, laid-last)
