-- Cells read from bytes: the fields of a cell by their place in the store, and a chain of cells step by step. Assumes nothing.
use Rattle.std.specs.Prelude.{ℕ, zero, suc, ◌+◌, ◌-◌, ◌≤◌, ◌<◌, ◌≡◌, refl, List, [], ◌∷◌, map, length, get_or}
use Rattle.std.proofs.Common.{add-zero, arith, ap, ◌∙◌, ne_eqb}
use Rattle.octets.specs.Octets.{part, num}
use Rattle.octets.specs.PartsLaws.{get_or-part, part-part, length_part}
use Rattle.machine.specs.Limits.{cell_bytes}
use Rattle.machine.specs.Values.{Cell}
use Rattle.machine.specs.Chains.{link, walk}
use Rattle.machine.specs.Layout.{count_at, size_at, piece_state_at, bytes_at, size_width, cell_off, cell_at, cell_of, read_cell}
use Rattle.packet.specs.Frame.{largest_piece}
use Rattle.machine_writes.specs.Links.{Links}
use Rattle.pieces.specs.InPlace.{CellIn}

-- ---- a cell

-- a place from 1 to C is a cell
pub cell_in : (b : List ℕ) → Links b → (k : ℕ) → 1 ≤ k → k ≤ get_or b count_at 0 → CellIn b k
cell_in b h k a g = record { some = a; most = omega (arith, h.most); fits = omega (arith, h.long) }

-- the size of the piece in a cell
abbrev pub size_of : List ℕ → ℕ → ℕ
size_of b k = num size_width (part b (cell_off k + size_at) size_width)

-- a byte of a cell's row
pub cell-byte : (b : List ℕ) (k j : ℕ) → j < cell_bytes → get_or (cell_at b k) j 0 ≡ get_or b (cell_off k + j) 0
cell-byte b k j h = get_or-part b (cell_off k) cell_bytes j h

pub cell-next : (b : List ℕ) (k : ℕ) → link (cell_at b) k ≡ get_or b (cell_off k) 0
cell-next b k = cell-byte b k 0 (omega arith) ∙ ap (λ (o : ℕ). get_or b o 0) (add-zero (cell_off k))

pub piece-state : (b : List ℕ) (k : ℕ) → (read_cell b k).state ≡ get_or b (cell_off k + piece_state_at) 0
unfolding cell_of
piece-state b k = cell-byte b k piece_state_at (omega arith)

pub piece_bytes : (b : List ℕ) (k : ℕ) → size_of b k ≤ largest_piece → (read_cell b k).bytes ≡ part b (cell_off k + bytes_at) (size_of b k)
unfolding cell_of
piece_bytes b k h =
    ap (λ (l : List ℕ). part (cell_at b k) bytes_at (num size_width l)) (part-part b (cell_off k) cell_bytes size_at size_width (omega arith))
    ∙ part-part b (cell_off k) cell_bytes bytes_at (size_of b k) (omega arith)

pub piece-size : (b : List ℕ) (k : ℕ) → CellIn b k → size_of b k ≤ largest_piece → length (read_cell b k).bytes ≡ size_of b k
piece-size b k i h = ap length (piece_bytes b k h) ∙ length_part b (cell_off k + bytes_at) (size_of b k) (omega (arith, i.fits))

-- ---- a chain

-- the cells from place x on, at most n of them
abbrev pub cells_from : List ℕ → ℕ → ℕ → List Cell
cells_from b n x = map (read_cell b) (walk (link (cell_at b)) n x)

pub cells-end : (b : List ℕ) (n x : ℕ) → x ≡ 0 → cells_from b n x ≡ []
unfolding walk
cells-end b zero x e = refl
cells-end b (suc n) x e = rw e

pub cells_out : (b : List ℕ) (n x : ℕ) → n ≡ 0 → cells_from b n x ≡ []
unfolding walk
cells_out b n x e = rw e

pub cells-more : (b : List ℕ) (n x : ℕ) → 0 < n → 0 < x → cells_from b n x ≡ read_cell b x ∷ cells_from b (n - 1) (get_or b (cell_off x) 0)
unfolding walk
cells-more b zero x h g = absurd (omega arith)
cells-more b (suc n) x h g =
    let e : n ≡ suc n - 1 = omega arith in
    rw (ne_eqb x 0 (λ q. omega arith), cell-next b x) (ap (λ (m : ℕ). read_cell b x ∷ cells_from b m (get_or b (cell_off x) 0)) e)
