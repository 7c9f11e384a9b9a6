-- A row made of fields: each field is read back at its start, a row is the join of its parts, zeros behind it are its padding, and a row of
-- bytes has fields of bytes. One set of laws for every layout. Assumes nothing.
use Rattle.std.specs.Prelude.{ℕ, zero, suc, ◌+◌, ◌-◌, ◌≤◌, ◌<◌, ◌≡◌, refl, true, List, [], ◌∷◌, ◌++◌, length, get_or, take, replicate}
use Rattle.std.proofs.Common.{arith, add-zero, sym, ap, ◌∙◌, append_assoc, length-append, drop-cons}
use Rattle.std.proofs.lemmas.List.{length-replicate}
use Rattle.octets.specs.Octets.{part, Bytes, zeros}
use Rattle.octets.specs.Lists.{All}
use Rattle.octets.specs.PartsLaws.{length_part, part-add, part-all, part_none, part-skip, part-here}
use Rattle.octets.specs.CompareLaws.{zeros-is, is-zeros}
use Rattle.machine.specs.Rows.{join, pad, zero_from}

-- ---- fields and their widths

-- each field has its width
abbrev pub Fit : List (List ℕ) → List ℕ → Type 0
Fit [] [] = Unit {0}
Fit [] (w ∷ ws) = ⊥
Fit (f ∷ fs) [] = ⊥
Fit (f ∷ fs) (w ∷ ws) = (length f ≡ w) × Fit fs ws

-- all widths together, and those before field i: where it starts
abbrev pub width : List ℕ → ℕ
width [] = 0
width (w ∷ ws) = w + width ws

abbrev pub start : List ℕ → ℕ → ℕ
start [] i = 0
start (w ∷ ws) zero = 0
start (w ∷ ws) (suc i) = w + start ws i

pub length-join : (fs : List (List ℕ)) (ws : List ℕ) → Fit fs ws → length (join fs) ≡ width ws
length-join [] [] h = refl
length-join [] (w ∷ ws) h = absurd h
length-join (f ∷ fs) [] h = absurd h
length-join (f ∷ fs) (w ∷ ws) h = omega (arith, length-append f (join fs), length-join fs ws h.1)

-- a field stands at its start
pub field_at : (fs : List (List ℕ)) (ws rest : List ℕ) (i : ℕ) → Fit fs ws → part (join fs ++ rest) (start ws i) (get_or ws i 0) ≡ get_or fs i []
field_at [] [] rest i h = part_none rest 0
field_at [] (w ∷ ws) rest i h = absurd h
field_at (f ∷ fs) [] rest i h = absurd h
field_at (f ∷ fs) (w ∷ ws) rest zero h = ap (λ (l : List ℕ). part l 0 w) (append_assoc f (join fs) rest) ∙ part-here f (join fs ++ rest) w h.0
field_at (f ∷ fs) (w ∷ ws) rest (suc i) h =
    ap (λ (l : List ℕ). part l (w + start ws i) (get_or ws i 0)) (append_assoc f (join fs) rest)
    ∙ part-skip f (join fs ++ rest) w (start ws i) (get_or ws i 0) h.0 ∙ field_at fs ws rest i h.1

-- a list cut by widths, from o on
abbrev pub cuts : List ℕ → ℕ → List ℕ → List (List ℕ)
cuts l o [] = []
cuts l o (w ∷ ws) = part l o w ∷ cuts l (o + w) ws

pub join-cuts : (l : List ℕ) (o : ℕ) (ws : List ℕ) → join (cuts l o ws) ≡ part l o (width ws)
join-cuts l o [] = sym (part_none l o)
join-cuts l o (w ∷ ws) = ap (λ (x : List ℕ). part l o w ++ x) (join-cuts l (o + w) ws) ∙ sym (part-add l o w (width ws))

-- ---- single bytes

-- n bytes from o on, byte by byte
abbrev pub gets : List ℕ → ℕ → ℕ → List ℕ
gets l o zero = []
gets l o (suc n) = get_or l o 0 ∷ gets l (suc o) n

pub gets-is : (l : List ℕ) (o n : ℕ) → o + n ≤ length l → part l o n ≡ gets l o n
unfolding part
gets-is l o zero h = refl
gets-is l o (suc n) h = ap (take (suc n)) (drop-cons l o 0 (omega arith)) ∙ ap (λ (x : List ℕ). get_or l o 0 ∷ x) (gets-is l (suc o) n (omega arith))

-- ---- zeros and padding

pub zeros-part : (l : List ℕ) (o n : ℕ) → o + n ≤ length l → zeros (part l o n) ≡ true → part l o n ≡ replicate n 0
zeros-part l o n h z = zeros-is (part l o n) z ∙ ap (λ (k : ℕ). replicate k 0) (length_part l o n h)

pub length-pad : (n : ℕ) (l : List ℕ) → length l ≤ n → length (pad n l) ≡ n
length-pad n l h = simp (length-append, length-replicate) (omega arith)

-- a row that is zero from o on is padded there
pub pad-row : (n o : ℕ) (row : List ℕ) → length row ≡ n → o ≤ n → zero_from n o row ≡ true → row ≡ pad n (part row 0 o)
pad-row n o row e h z =
    let q : n ≡ o + (n - o) = omega arith in
    let l : length (part row 0 o) ≡ o = length_part row 0 o (omega arith) in
    sym (part-all row n e) ∙ ap (part row 0) q ∙ part-add row 0 o (n - o)
    ∙ ap (λ (x : List ℕ). part row 0 o ++ x) (at-o ∙ zeros-part row o (n - o) (omega arith) z ∙ ap (λ (k : ℕ). replicate (n - k) 0) (sym l))
  where
    at-o : part row (0 + o) (n - o) ≡ part row o (n - o)
    at-o = ap (λ (k : ℕ). part row k (n - o)) (omega arith)

-- and a padded row is zero from there on
pub pad-zero : (n o : ℕ) (l : List ℕ) → length l ≡ o → zero_from n o (pad n l) ≡ true
pad-zero n o l e =
    ap zeros
    (ap (λ (k : ℕ). part (l ++ replicate (n - length l) 0) k (n - o)) (sym (add-zero o))
    ∙ part-skip l (replicate (n - length l) 0) o 0 (n - o) e
    ∙ ap (λ (k : ℕ). part (replicate (n - k) 0) 0 (n - o)) e
    ∙ part-all (replicate (n - o) 0) (n - o) (length-replicate (n - o) 0))
    ∙ is-zeros (n - o)

-- ---- bytes

pub bytes-nil : Bytes []
bytes-nil i = omega arith

pub bytes-cons : (x : ℕ) (l : List ℕ) → x < 256 → Bytes l → Bytes (x ∷ l)
bytes-cons x l h g zero = h
bytes-cons x l h g (suc i) = g i

pub bytes-append : (l m : List ℕ) → Bytes l → Bytes m → Bytes (l ++ m)
bytes-append [] m h g i = g i
bytes-append (x ∷ l) m h g zero = h 0
bytes-append (x ∷ l) m h g (suc i) = bytes-append l m (λ j. h (suc j)) g i

pub bytes-zeros : (n : ℕ) → Bytes (replicate n 0)
bytes-zeros zero i = omega arith
bytes-zeros (suc n) zero = omega arith
bytes-zeros (suc n) (suc i) = bytes-zeros n i

-- each element is below 256
pub bytes_of : (l : List ℕ) → All (λ x. x < 256) l → Bytes l
bytes_of [] h = bytes-nil
bytes_of (x ∷ l) h = bytes-cons x l h.0 (bytes_of l h.1)

pub bytes-pad : (n : ℕ) (l : List ℕ) → Bytes l → Bytes (pad n l)
bytes-pad n l h = bytes-append l (replicate (n - length l) 0) h (bytes-zeros (n - length l))

pub bytes-join : (fs : List (List ℕ)) → All Bytes fs → Bytes (join fs)
bytes-join [] h = bytes-nil
bytes-join (f ∷ fs) h = bytes-append f (join fs) h.0 (bytes-join fs h.1)
