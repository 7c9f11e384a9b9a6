-- Laws of putting packets out: an entry that is kept, the ways out of one packet, and a turn of the loop over a run. Assumes nothing.
use Prim.Native.Nat.{ℕ, suc, ◌+◌, ◌*◌, ◌≤◌, ◌<◌}
use native.Mathlib.Omega.{arith}
use mathlib.Core.Path.{◌≡◌, refl, sym, ap, ◌∙◌}
use mathlib.Core.Bool.{Bool, cond}
use mathlib.Core.List.{List, [], ◌∷◌, ◌++◌, append-nil}
use lib.ListN.{length, drop, length-append}
use lib.Seq.{drop-drop}
use lib.Dec.{eqb}
use borrow.Author.Tests.{eq-eqb, ne_eqb}
use Rattle.octets.specs.Lists.{All}
use Rattle.octets.specs.Octets.{put, be}
use Rattle.octets.specs.NumbersLaws.{length-be}
use Rattle.octets.specs.PartsLaws.{more, put-nil, put-put}
use Rattle.script.specs.Input.{lost, repeated}
use Rattle.link.specs.Entries.{entries_of}
use Rattle.link.specs.Link.{copies, next_letter, through}
use Rattle.link.specs.Stored.{stored_entry, stored, Small}
use Rattle.link.specs.StoredLaws.{entry_length, stored-append, stored-length, copies_length, run_small}

-- ---- an entry is kept: its number of bytes, then itself

pub kept : (b m c e : List ℕ) (tail n : ℕ) → n ≡ length e → tail + (2 + length e) ≤ length b → m ≡ put b tail (be 2 n) → c ≡ put m (tail + 2) e
    → c ≡ put b tail (stored_entry e)
kept b m c e tail n k h f g =
    more b m c tail (tail + 2) (be 2 (length e)) e (f ∙ ap (λ (x : ℕ). put b tail (be 2 x)) k) g (omega (arith, length-be 2 (length e)))
    (omega (arith, length-be 2 (length e)))

-- ---- one packet, by its letter

-- what c and t are after the packets es
abbrev pub After : List ℕ → List ℕ → ℕ → ℕ → List (List ℕ) → Type 0
After b c tail t es = (c ≡ put b tail (stored es)) × (t ≡ tail + length (stored es))

same_after : (b c : List ℕ) (tail t : ℕ) (p q : List (List ℕ)) → p ≡ q → After b c tail t p → After b c tail t q
same_after b c tail t p q e h = (
  h.0 ∙ ap (λ (x : List (List ℕ)). put b tail (stored x)) e,
  h.1 ∙ ap
      (λ (x : List (List ℕ)). tail + length (stored x)) e,
)

pub out-lost : (b e : List ℕ) (tail x y : ℕ) → x ≡ y → x ≡ lost → After b b tail tail (copies y e)
unfolding copies stored
out-lost b e tail x y f h =
    same_after b b tail tail [] (copies y e)
    (sym (ap (λ (t : Bool). cond t [] (cond (eqb x repeated) (e ∷ e ∷ []) (e ∷ []))) (eq-eqb x lost h)) ∙ ap (λ (n : ℕ). copies n e) f)
    (sym (put-nil b tail), omega arith)

pub out_once : (b c e : List ℕ) (tail t x y : ℕ) → x ≡ y → (x ≡ lost → ⊥) → (x ≡ repeated → ⊥) → c ≡ put b tail (stored_entry e)
    → t ≡ tail + (2 + length e) → After b c tail t (copies y e)
unfolding copies stored
out_once b c e tail t x y f h k g m =
    same_after b c tail t (e ∷ []) (copies y e)
    (sym
    (ap (λ (t : Bool). cond t [] (cond (eqb x repeated) (e ∷ e ∷ []) (e ∷ []))) (ne_eqb x lost h)
    ∙ ap (λ (t : Bool). cond t (e ∷ e ∷ []) (e ∷ [])) (ne_eqb x repeated k))
    ∙ ap (λ (n : ℕ). copies n e) f)
    (g ∙ ap (put b tail) (sym (append-nil (stored_entry e))), omega (arith, m, stored-length e []))

pub out-twice : (b m c e : List ℕ) (tail s t x y : ℕ) → x ≡ y → (x ≡ lost → ⊥) → x ≡ repeated → tail + 2 * (2 + length e) ≤ length b
    → m ≡ put b tail (stored_entry e) → s ≡ tail + (2 + length e) → c ≡ put m s (stored_entry e) → t ≡ s + (2 + length e)
    → After b c tail t (copies y e)
unfolding copies stored
out-twice b m c e tail s t x y f h k r g i j l =
    same_after b c tail t (e ∷ e ∷ []) (copies y e)
    (sym
    (ap (λ (t : Bool). cond t [] (cond (eqb x repeated) (e ∷ e ∷ []) (e ∷ []))) (ne_eqb x lost h)
    ∙ ap (λ (t : Bool). cond t (e ∷ e ∷ []) (e ∷ [])) (eq-eqb x repeated k))
    ∙ ap (λ (n : ℕ). copies n e) f) (
      more b m c tail s (stored_entry e) (stored_entry e) g j (omega (arith, i, entry_length e)) (omega (arith, entry_length e))
          ∙ ap (λ (x : List ℕ). put b tail (stored_entry e ++ x)) (sym (append-nil (stored_entry e))),
      omega (arith, i, l, stored-length e (e ∷ []), stored-length e []),
    )

-- ---- a run: what is left from here gives what the whole gives

-- the bytes that entries add
abbrev pub added : List (List ℕ) → List ℕ → List ℕ
added es l = stored (through es l)

added_more : (e : List ℕ) (es : List (List ℕ)) (l : List ℕ)
    → added (e ∷ es) l ≡ stored (copies (next_letter l) e) ++ added es (drop 1 l)
unfolding through
added_more e es l = stored-append (copies (next_letter l) e) (through es (drop 1 l))

-- l₀: the letters at the start, l: those to come, all: the entries of the run, es: those that are left
pub record Putting (b₀ : List ℕ) (tail : ℕ) (l₀ : List ℕ) (all : List (List ℕ)) (b : List ℕ) (es : List (List ℕ)) (end : ℕ) (l : List ℕ) : Type 0 where
  pub small : All Small es
  pub kept : length b ≡ length b₀
  pub room : end + 2 * length (stored es) ≤ length b₀
  pub queue : put b end (added es l) ≡ put b₀ tail (added all l₀)
  pub ends : end + length (added es l) ≡ tail + length (added all l₀)
  pub letters : drop (length es) l ≡ drop (length all) l₀

pub putting-start : (b : List ℕ) (tail : ℕ) (l run : List ℕ) → tail + 2 * length (stored (entries_of run)) ≤ length b → length run < 65536
    → Putting b tail l (entries_of run) b (entries_of run) tail l
putting-start b tail l run h k = record { small = run_small run k; kept = refl; room = h; queue = refl; ends = refl; letters = refl }

module _ {b₀ : List ℕ} {tail : ℕ} {l₀ : List ℕ} {all : List (List ℕ)} {b : List ℕ} {end : ℕ} {l e : List ℕ} {es : List (List ℕ)}
    (p : Putting b₀ tail l₀ all b (e ∷ es) end l) where
  -- the first entry has room
  pub putting_room : (end + 2 * (2 + length e) ≤ length b) × (length e < 65536)
  putting_room = let r = p.room in let k = p.kept in (omega (arith, stored-length e es), p.small.0)

  -- it is put out
  pub putting-more : {c : List ℕ} {end' : ℕ} {l' : List ℕ} → After b c end end' (copies (next_letter l) e) → length c ≡ length b → l' ≡ drop 1 l
      → Putting b₀ tail l₀ all c es end' l'
  putting-more {c} {end'} {l'} a k f =
      let A : List ℕ = stored (copies (next_letter l) e) in
      let B : List ℕ = added es l' in
      let both : added (e ∷ es) l ≡ A ++ B = added_more e es l ∙ ap (λ (x : List ℕ). A ++ added es x) (sym f) in
      let size = stored-length e es in
      let least = copies_length (next_letter l) e in
      let room = p.room in
      let same = p.kept in
      let z : suc (length es) ≡ 1 + length es = omega arith in
      record {
        small = p.small.1;
        kept = k ∙ p.kept;
        room = omega (arith, a.1);
        queue = ap (λ (x : List ℕ). put x end' B) a.0 ∙ put-put b end end' A B (omega arith) a.1 ∙ ap (put b end) (sym both) ∙ p.queue;
        ends = omega (arith, a.1, p.ends, ap length both ∙ length-append A B);
        letters = ap (drop (length es)) f ∙ drop-drop (length es) 1 l ∙ ap (λ (n : ℕ). drop n l) (sym z) ∙ p.letters;
      }

pub putting-none : {b₀ : List ℕ} {tail : ℕ} {l₀ : List ℕ} {all : List (List ℕ)} {b : List ℕ} {end : ℕ} {l : List ℕ}
    → Putting b₀ tail l₀ all b [] end l
    → (b ≡ put b₀ tail (added all l₀)) × (end ≡ tail + length (added all l₀)) × (l ≡ drop (length all) l₀)
unfolding through stored
putting-none {b₀} {tail} {l₀} {all} {b} {end} {l} p = (sym (put-nil b end) ∙ p.queue, omega (arith, p.ends), p.letters)
