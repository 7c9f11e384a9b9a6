-- Data cut into pieces: `cut_pieces` takes the first free cells in order, numbers its pieces in order, cuts by 1,300 and loses no byte. How many
-- pieces, from which index on and in which places are parameters. Assumes nothing.
use Rattle.machine_steps.proofs.PlacesCut.{places-cut}
use Rattle.std.specs.Prelude.{ℕ, zero, suc, ◌+◌, ◌*◌, ◌-◌, ◌≤◌, ◌≡◌, refl, true, cond, ◌&&◌, List, [], ◌∷◌, map, length, take, drop, eqb, leb, ltb}
use Rattle.std.proofs.Common.{arith, sym, ap, ◌∙◌, length-take, length-drop, take-append-drop, get_or-drop, eq-eqb, lt-ltb, leb-true, leb-false}
use Rattle.octets.specs.Octets.{part, Bytes}
use Rattle.octets.specs.BoolsLaws.{cases, both}
use Rattle.octets.specs.Lists.{All}
use Rattle.octets.specs.PartsLaws.{bytes-part}
use Rattle.machine.specs.Limits.{cut_by, slots_of}
use Rattle.machine.specs.Values.{Cell}
use Rattle.machine.specs.Chains.{first}
use Rattle.machine.specs.Counting.{occurs}
use Rattle.machine.specs.Layout.{cell_place}
use Rattle.machine.specs.Sound.{rising, sizes, is_cut}
use Rattle.machine.specs.Valid.{AtMost}
use Rattle.machine.specs.Pieces.{new_cell, joined, rest, cut_pieces}
use Rattle.machine_laws.specs.Counting.{occurs-append}
use Rattle.machine_steps.proofs.Pieces.{parts-rising}
use Rattle.machine_steps.proofs.ByIndex.{length-joined}

-- ---- places

-- with those that are left they count as before
pub occurs-cut : (k n i : ℕ) (places bytes : List ℕ) → n ≤ length places
    → occurs k (map cell_place (cut_pieces n i places bytes)) + occurs k (drop n places) ≡ occurs k places
occurs-cut k n i places bytes h =
    rw (places-cut n i places bytes h) (sym (occurs-append k (take n places) (drop n places)) ∙ ap (occurs k) (take-append-drop n places))

-- ---- count and order

pub length_cut : (n i : ℕ) (places bytes : List ℕ) → length (cut_pieces n i places bytes) ≡ n
unfolding cut_pieces
length_cut zero i places bytes = refl
length_cut (suc n) i places bytes = ap suc (length_cut n (suc i) (rest places) (drop cut_by bytes))

-- indices rise from i on, below i + n and any higher bound
pub rising-cut : (n i high : ℕ) (places bytes : List ℕ) → i + n ≤ high → rising i high (cut_pieces n i places bytes) ≡ true
unfolding rising cut_pieces
rising-cut zero i high places bytes h = refl
rising-cut (suc n) i high places bytes h =
    parts-rising i high (new_cell (first places) i (take cut_by bytes)) (cut_pieces n (suc i) (rest places) (drop cut_by bytes)) (omega arith) (omega arith)
    (rising-cut n (suc i) high (rest places) (drop cut_by bytes) (omega arith))

-- ---- bytes

-- n pieces that are enough hold every byte, in order
pub joined-cut : (n i : ℕ) (places bytes : List ℕ) → length bytes ≤ cut_by * n → joined (cut_pieces n i places bytes) ≡ bytes
unfolding joined cut_pieces
joined-cut zero i places [] h = refl
joined-cut zero i places (b ∷ l) h = absurd (omega arith)
joined-cut (suc n) i places bytes h =
    rw (joined-cut n (suc i) (rest places) (drop cut_by bytes) (omega (arith, length-drop cut_by bytes))) (take-append-drop cut_by bytes)

pub sizes-cut : (n i : ℕ) (places bytes : List ℕ) → length bytes ≤ cut_by * n → sizes (cut_pieces n i places bytes) ≡ length bytes
sizes-cut n i places bytes h = sym (length-joined (cut_pieces n i places bytes)) ∙ ap length (joined-cut n i places bytes h)

-- the first piece has 1,300 bytes, or all where there are fewer
cut-size : (bytes : List ℕ) → length (take cut_by bytes) ≡ cond (leb (length bytes) cut_by) (length bytes) cut_by
cut-size bytes =
    cases (leb (length bytes) cut_by)
    (λ e. rw e (omega (arith, length-take cut_by bytes, leb-true (length bytes) cut_by e)))
    (λ e. rw e (omega (arith, length-take cut_by bytes, leb-false (length bytes) cut_by e)))

cut-from : (n i : ℕ) (places bytes : List ℕ) → n ≡ slots_of (length bytes) → is_cut (length bytes) (cut_pieces n i places bytes) ≡ true
unfolding is_cut cut_pieces
cut-from zero i places bytes e = eq-eqb (length bytes) 0 (omega arith)
cut-from (suc n) i places bytes e =
    let w : ℕ = cond (leb (length bytes) cut_by) (length bytes) cut_by in
    both (ltb 0 (length bytes) && eqb (length (take cut_by bytes)) w)
    (is_cut (length bytes - cut_by) (cut_pieces n (suc i) (rest places) (drop cut_by bytes)))
    (both (ltb 0 (length bytes)) (eqb (length (take cut_by bytes)) w) (lt-ltb 0 (length bytes) (omega arith))
    (eq-eqb (length (take cut_by bytes)) w (cut-size bytes)))
    (rw (← length-drop cut_by bytes) (cut-from n (suc i) (rest places) (drop cut_by bytes) (omega (arith, length-drop cut_by bytes))))

-- it is cut by 1,300
pub cut-cut : (i : ℕ) (places bytes : List ℕ) → is_cut (length bytes) (cut_pieces (slots_of (length bytes)) i places bytes) ≡ true
cut-cut i places bytes = cut-from (slots_of (length bytes)) i places bytes refl

-- what is so of a new piece of at most 1,300 bytes is so of each
pub all-cut : (P : Cell → Type 0) (n i : ℕ) (places bytes : List ℕ) → ((p j : ℕ) (b : List ℕ) → AtMost cut_by b → P (new_cell p j b)) → Bytes bytes
    → All P (cut_pieces n i places bytes)
unfolding cut_pieces part
all-cut P zero i places bytes h b = tt
all-cut P (suc n) i places bytes h b = (
  h (first places) i (take cut_by bytes) (omega (arith, length-take cut_by bytes), bytes-part bytes 0 cut_by b),
  all-cut P n (suc i) (rest places) (drop cut_by bytes) h (λ j. rw get_or-drop (b (cut_by + j))),
)
