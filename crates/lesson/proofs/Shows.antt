-- Laws of what is shown: the lines of a lesson, and what the reader of an input answers. Assumes nothing.
use Prim.Native.Nat.{ℕ, ◌+◌, ◌*◌, ◌≤◌}
use native.Mathlib.Omega.{arith}
use mathlib.Core.Path.{◌≡◌, refl, sym, ap, ◌∙◌}
use mathlib.Core.Bool.{Bool, true, cond}
use mathlib.Core.List.{List, [], ◌++◌}
use lib.ListN.{length, take, replicate}
use lib.Dec.{leb}
use borrow.Author.Tests.{leb-true}
use Rattle.std.specs.Prelude.{Some, None}
use Rattle.std.proofs.Common.{unwrap_or, is_some}
use Rattle.octets.specs.BoolsLaws.{cases, clash, split}
use Rattle.machine.specs.Limits.{longest, store_bytes, most_cells}
use Rattle.machine.specs.Outcomes.{SetupOutcome}
use Rattle.machine.specs.Setup.{setup_of}
use Rattle.script.specs.Script.{script_of}
use Rattle.script.specs.Input.{decimal, line, is_input, length_of, letters_of}
use Rattle.lesson.specs.Lesson.{fresh_store, fresh, pushed}
use Rattle.lesson.specs.Text.{line_of, lines_from, rounds, lesson_of}
use Rattle.lesson.specs.Classroom.{classroom_of}
use Rattle.lesson.specs.Room.{Room}
use Rattle.lesson.proofs.Lines.{Wrote, take_more}

-- ---- the lines of a lesson

pub store-fresh : (b : List ℕ) (role : ℕ) (o : SetupOutcome) → o ≡ setup_of b role → b ≡ replicate (store_bytes most_cells) 0 → o.store ≡ fresh_store
    role
unfolding fresh_store
store-fresh b role o e f = ap (λ (x : SetupOutcome). x.store) e ∙ ap (λ (l : List ℕ). (setup_of l role).store) f

pub lesson-is : (n : ℕ) (l b c d : List ℕ) (s : Room) (end r : ℕ) → s ≡ pushed n (fresh l) → Wrote b c 0 end (line_of 0 s.tablet.send) 20
    → 1020 ≤ length b → (take r d ≡ take end c ++ lines_from rounds 1 s) × (r ≤ end + 20 * rounds) → (take r d ≡ lesson_of n l) × (r ≤ 1020)
unfolding lesson_of
lesson-is n l b c d s end r p w k q =
    let first : take end c ≡ line_of 0 s.tablet.send = take_more b c (line_of 0 s.tablet.send) 0 end w.0 w.1 (omega (arith, w.2)) in (
      q.0 ∙ ap (λ (x : List ℕ). x ++ lines_from rounds 1 s) first ∙ (λ i. line_of 0 (p i).tablet.send ++ lines_from rounds 1 (p i)),
      omega (arith, q.1, w.2),
    )

-- ---- an input

pub read_short : (s : List ℕ) → is_input s ≡ true → length_of s ≤ longest
unfolding is_input
read_short s h = leb-true (length_of s) longest (split (leb (length_of s) longest) _ (split (decimal (line s)) _ h).1).0

pub record Read (s : List ℕ) (n : ℕ) (l : List ℕ) : Type 0 where
  pub is : is_input s ≡ true
  pub size : n ≡ length_of s
  pub letters : l ≡ letters_of s
  pub short : n ≤ longest

pub read : (s : List ℕ) (n : ℕ) (l : List ℕ) → Some (n, l) ≡ script_of s → Read s n l
read s n l h =
    cases (is_input s)
    (λ e.
    let g = ap (λ o. unwrap_or o (0, [])) (rw e at h) in
    let size : n ≡ length_of s = ap (λ (p : ℕ × List ℕ). p.0) g in
    record { is = e; size = size; letters = ap (λ (p : ℕ × List ℕ). p.1) g; short = omega (arith, size, read_short s e) })
    (λ e. clash refl (ap is_some (rw e at h)))

pub shown : (s x : List ℕ) (n : ℕ) (l : List ℕ) → Read s n l → x ≡ lesson_of n l → x ≡ classroom_of s
unfolding classroom_of
shown s x n l r e = e ∙ (λ i. lesson_of (r.size i) (r.letters i)) ∙ sym (ap (λ (b : Bool). cond b (lesson_of (length_of s) (letters_of s)) []) r.is)

pub shown-nothing : (s : List ℕ) → None ≡ script_of s → [] ≡ classroom_of s
unfolding classroom_of
shown-nothing s h = cases (is_input s) (λ e. clash (ap is_some (rw e at h)) refl) (λ e. rw e refl)
