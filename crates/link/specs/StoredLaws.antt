-- Laws of the queue in a buffer: its bytes, what the first entry is, and what is put behind the last. Assumes nothing.
use Rattle.std.specs.Prelude.{ℕ, zero, suc, ◌+◌, ◌-◌, ◌*◌, ◌≤◌, ◌<◌, ◌≡◌, drop, eqb}
use native.Mathlib.Omega.{arith}
use Rattle.std.proofs.Math.Path.{refl, sym, ap}
use Rattle.std.proofs.Common.{◌∙◌, length-append, length-take, length-drop}
use mathlib.Core.List.{List, [], ◌∷◌, ◌++◌, append_assoc}
use Rattle.std.proofs.Math.ListN.{length}
use Rattle.octets.specs.BoolsLaws.{cases}
use Rattle.octets.specs.Lists.{All}
use Rattle.octets.specs.ListsLaws.{all_join}
use Rattle.octets.specs.Octets.{part, put, be, num, capacity}
use Rattle.octets.specs.NumbersLaws.{length-be, num-be}
use Rattle.octets.specs.PartsLaws.{length_part, part-add, part-here, part-skip, part-part, part-all, part_none, part-put-same, part-put-before}
use Rattle.octets.specs.PartsLaws.{length-put}
use Rattle.script.specs.Input.{lost, repeated}
use Rattle.link.specs.Entries.{entry_end, first_of, rest_of, entries, entries_of}
use Rattle.link.specs.Link.{copies, next_letter, through}
use Rattle.link.specs.Stored.{stored_entry, stored, Small, Waits}

-- ---- bytes

pub entry_length : (e : List ℕ) → length (stored_entry e) ≡ 2 + length e
entry_length e = length-append (be 2 (length e)) e ∙ ap (λ (n : ℕ). n + length e) (length-be 2 (length e))

pub stored-append : (p q : List (List ℕ)) → stored (p ++ q) ≡ stored p ++ stored q
unfolding stored
stored-append [] q = refl
stored-append (e ∷ p) q = ap (λ (l : List ℕ). stored_entry e ++ l) (stored-append p q) ∙ sym (append_assoc (stored_entry e) (stored p) (stored q))

pub stored-length : (e : List ℕ) (q : List (List ℕ)) → length (stored (e ∷ q)) ≡ 2 + length e + length (stored q)
unfolding stored
stored-length e q = omega (arith, length-append (stored_entry e) (stored q), entry_length e)

-- only the empty queue has no bytes
pub stored-none : (q : List (List ℕ)) → length (stored q) ≡ 0 → q ≡ []
stored-none [] h = refl
stored-none (e ∷ q) h = absurd (omega (arith, h, stored-length e q))

-- the entries of a short queue are small
pub stored-small : (q : List (List ℕ)) → length (stored q) < 65536 → All Small q
stored-small [] h = tt
stored-small (e ∷ q) h = (omega (arith, stored-length e q), stored-small q (omega (arith, stored-length e q)))

-- a packet is kept twice at most
pub copies_length : (x : ℕ) (e : List ℕ) → length (stored (copies x e)) ≤ 2 * (2 + length e)
unfolding copies stored
copies_length x e =
    let one = stored-length e [] in
    let two = stored-length e (e ∷ []) in
    cases (eqb x lost) (λ a. rw a (omega arith))
    (λ a. rw a (cases (eqb x repeated) (λ b. rw b (omega (arith, one, two))) (λ b. rw b (omega (arith, one)))))

pub through-length : (es : List (List ℕ)) (letters : List ℕ) → length (stored (through es letters)) ≤ 2 * length (stored es)
unfolding through stored
through-length [] letters = omega arith
through-length (e ∷ es) letters =
    omega (
      arith,
      ap length (stored-append (copies (next_letter letters) e) (through es (drop 1 letters))),
      length-append (stored (copies (next_letter letters) e)) (stored (through es (drop 1 letters))),
      copies_length (next_letter letters) e,
      through-length es (drop 1 letters),
      stored-length e es,
    )

-- what is put out is no larger than it was
copies-all : (P : List ℕ → Type 0) (x : ℕ) (e : List ℕ) → P e → All P (copies x e)
unfolding copies
copies-all P x e h = cases (eqb x lost) (λ a. rw a tt) (λ a. rw a (cases (eqb x repeated) (λ b. rw b (h, (h, tt))) (λ b. rw b (h, tt))))

pub through-all : (P : List ℕ → Type 0) (es : List (List ℕ)) (letters : List ℕ) → All P es → All P (through es letters)
unfolding through
through-all P [] letters h = tt
through-all P (e ∷ es) letters h =
    all_join P (copies (next_letter letters) e) (through es (drop 1 letters)) (copies-all P (next_letter letters) e h.0)
    (through-all P es (drop 1 letters) h.1)

-- the entries of a short run are small, and take two bytes more each than the run
entries-small : (n : ℕ) (run : List ℕ) → length run < 65536 → All Small (entries n run)
unfolding entries
entries-small zero run h = tt
entries-small (suc n) [] h = tt
entries-small (suc n) (x ∷ l) h =
    (omega (arith, length-take (entry_end (x ∷ l)) (x ∷ l)), entries-small n (rest_of (x ∷ l)) (omega (arith, length-drop (entry_end (x ∷ l)) (x ∷ l))))

pub run_small : (run : List ℕ) → length run < 65536 → All Small (entries_of run)
run_small run h = entries-small (length run) run h

entries-stored : (n : ℕ) (run : List ℕ) → length (stored (entries n run)) ≤ length run + 2 * length (entries n run)
unfolding entries stored
entries-stored zero run = omega arith
entries-stored (suc n) [] = omega arith
entries-stored (suc n) (x ∷ l) =
    omega (
      arith,
      stored-length (first_of (x ∷ l)) (entries n (rest_of (x ∷ l))),
      entries-stored n (rest_of (x ∷ l)),
      length-take (entry_end (x ∷ l)) (x ∷ l),
      length-drop (entry_end (x ∷ l)) (x ∷ l),
    )

pub run-stored : (run : List ℕ) → length (stored (entries_of run)) ≤ length run + 2 * length (entries_of run)
run-stored run = entries-stored (length run) run

-- ---- the first entry

-- a part at the start of a part, and a part right behind x
start : (b : List ℕ) (o m n : ℕ) → n ≤ m → part (part b o m) 0 n ≡ part b o n
start b o m n h = part-part b o m 0 n (omega arith) ∙ (let z : o + 0 ≡ o = omega arith in ap (λ (k : ℕ). part b k n) z)

pub skip : (x y : List ℕ) (n m : ℕ) → length x ≡ n → part (x ++ y) n m ≡ part y 0 m
skip x y n m e = (let z : n ≡ n + 0 = omega arith in ap (λ (k : ℕ). part (x ++ y) k m) z) ∙ part-skip x y n 0 m e

module _ (b : List ℕ) (head tail : ℕ) (e : List ℕ) (q : List (List ℕ)) (w : Waits b head tail (e ∷ q)) where
  -- the queue's bytes: the first entry's, and the rest
  size : tail - head ≡ 2 + length e + length (stored q)
  size =
      sym (length_part b head (tail - head) (let o = w.order in let k = w.within in omega arith)) ∙ ap length w.is ∙ stored-length e q

  pub first_reach : head + 2 + length e ≤ tail
  first_reach = let o = w.order in omega (arith, size)

  -- its number of bytes
  pub first-size : num 2 (part b head 2) ≡ length e
  unfolding capacity stored
  first-size =
      let n : part b head 2 ≡ be 2 (length e) = sym (start b head (tail - head) 2 (omega (arith, size)))
      ∙ ap (λ (l : List ℕ). part l 0 2) (w.is ∙ append_assoc (be 2 (length e)) e (stored q))
      ∙ part-here (be 2 (length e)) (e ++ stored q) 2 (length-be 2 (length e)) in
      ap (num 2) n ∙ num-be 2 (length e) w.small.0

  -- itself
  pub first-is : part b (head + 2) (length e) ≡ e
  unfolding stored
  first-is =
      sym (part-part b head (tail - head) 2 (length e) (omega (arith, size)))
      ∙ ap (λ (l : List ℕ). part l 2 (length e)) (w.is ∙ append_assoc (be 2 (length e)) e (stored q))
      ∙ skip (be 2 (length e)) (e ++ stored q) 2 (length e) (length-be 2 (length e)) ∙ part-here e (stored q) (length e) refl

  -- what waits behind it
  pub first_rest : Waits b (head + 2 + length e) tail q
  unfolding stored
  first_rest =
      let o = w.order in
      let n : tail - (head + 2 + length e) ≡ length (stored q) = omega (arith, size) in
      let z : head + 2 + length e ≡ head + (2 + length e) = omega arith in
      record {
        order = first_reach;
        within = w.within;
        is =
            (λ i. part b (z i) (n i))
            ∙ sym (part-part b head (tail - head) (2 + length e) (length (stored q)) (omega (arith, size)))
            ∙ ap (λ (l : List ℕ). part l (2 + length e) (length (stored q))) w.is
            ∙ skip (stored_entry e) (stored q) (2 + length e) (length (stored q)) (entry_length e)
            ∙ whole (stored q);
        small = w.small.1;
      }
    where
      whole : (l : List ℕ) → part l 0 (length l) ≡ l
      whole l = part-all l (length l) refl

-- ---- what is put behind the last

pub more-waits : (b c : List ℕ) (head tail : ℕ) (q x : List (List ℕ)) → Waits b head tail q → c ≡ put b tail (stored x)
    → tail + length (stored x) ≤ length b → All Small x → Waits c head (tail + length (stored x)) (q ++ x)
more-waits b c head tail q x w f h s =
    let o = w.order in
    let n : tail + length (stored x) - head ≡ tail - head + length (stored x) = omega arith in
    let t : head + (tail - head) ≡ tail = omega arith in
    record {
      order = omega arith;
      within = omega (arith, ap length f ∙ length-put b tail (stored x) h);
      is =
          ap (λ (k : ℕ). part c head k) n ∙ part-add c head (tail - head) (length (stored x))
          ∙ (λ i.
          (ap (λ (l : List ℕ). part l head (tail - head)) f ∙ part-put-before b tail (stored x) h head (tail - head) (omega arith) ∙ w.is) i
          ++ ((λ j. part (f j) (t j) (length (stored x))) ∙ part-put-same b tail (stored x) h) i)
          ∙ sym (stored-append q x);
      small = all_join Small q x w.small s;
    }

-- an empty queue, anywhere in a buffer
pub none-waits : (b : List ℕ) (at : ℕ) → at ≤ length b → Waits b at at []
unfolding stored
none-waits b at h = record {
  order = omega arith;
  within = h;
  is = (let z : at - at ≡ 0 = omega arith in ap (part b at) z) ∙ part_none b at;
  small =
      tt;
}
