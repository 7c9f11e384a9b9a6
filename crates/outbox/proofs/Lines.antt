-- The line, as a piece comes into it. Assumes nothing.
use Prim.Native.Nat.{ℕ, suc, ◌+◌, ◌-◌, ◌≤◌, ◌<◌}
use native.Mathlib.Omega.{arith}
use mathlib.Core.Path.{◌≡◌, refl, sym, ap, ◌∙◌}
use mathlib.Core.List.{List, [], ◌∷◌, ◌++◌, append_assoc}
use lib.ListN.{length, get_or, take, drop, set, length-set}
use lib.Seq.{drop-cons, drop-set-lt, take-suc-set, take_all, take_at}
use lib.Dec.{ltb}
use borrow.Author.Tests.{ltb-true, ltb-false}
use Rattle.std.specs.Prelude.{Option, Some, None}
use Rattle.std.specs.List.{position, insert}
use Rattle.std.proofs.lemmas.Option.{cond_some, none-some}
use Rattle.octets.specs.BoolsLaws.{cases}
use Rattle.machine.specs.Choice.{most_sent}
use Rattle.outbox.specs.declared.choice.Turn.{Turn}
use Rattle.outbox.specs.Line.{goes_before, turn, put_in}

-- ---- those from a place on move up, one by one

-- x at place `at` of the first line is what `moved` at i of this one is
pub record Moving (line₀ : List (Option Turn)) (at : ℕ) (x : Option Turn) (line : List (Option Turn)) (moved : Option Turn) (i : ℕ) : Type 0 where
  pub long : length line ≡ most_sent
  pub gives : take most_sent (insert line i moved) ≡ take most_sent (insert line₀ at x)

module _ {line₀ : List (Option Turn)} {at : ℕ} {x : Option Turn} {line : List (Option Turn)} {moved : Option Turn} {i : ℕ}
    (g : Moving line₀ at x line moved i) where
  pub move-on : i < most_sent → Moving line₀ at x (set line i moved) (get_or line i None) (i + 1)
  move-on some =
      let inside : i < length line = omega (arith, g.long) in
      let e : suc i ≡ i + 1 = omega arith in
      let before = take-suc-set line i moved inside in
      let behind : get_or line i None ∷ drop (suc i) (set line i moved) ≡ drop i line =
      ap (λ (l : List (Option Turn)). get_or line i None ∷ l) (drop-set-lt (suc i) line i moved (omega arith)) ∙ sym (drop-cons line i None inside) in
      record {
        long = length-set line i moved ∙ g.long;
        gives = rw (← e) ((λ k. take most_sent (before k ++ behind k))
            ∙ ap (take most_sent) (append_assoc (take i line) (moved ∷ []) (drop i line)) ∙ g.gives);
      }

  pub move-end : most_sent ≤ i → line ≡ take most_sent (insert line₀ at x)
  move-end h =
      sym (ap (λ (l : List (Option Turn)). take most_sent (l ++ (moved ∷ drop i line))) (take_all i line (omega (arith, g.long)))
      ∙ take_at line (moved ∷ drop i line) most_sent g.long) ∙ g.gives

-- ---- where a piece comes in

module _ (t : Turn) (line : List (Option Turn)) (long : length line ≡ most_sent) where
  abbrev at : ℕ
  at = turn t.rank line

  -- eight go before it
  pub stays : position (goes_before t.rank) line ≡ None → line ≡ put_in t line
  stays e =
      cases (ltb at (length line))
      (λ q. let w : ◌≡◌ {A = Option ℕ} (Some at) None = rw q at e in absurd (none-some at (sym w)))
      (λ q. let none : length line - at ≡ 0 = omega (arith, ltb-false at (length line) q) in
      sym (ap (λ (l : List (Option Turn)). take most_sent (l ++ (Some t ∷ drop at line))) (take_all at line (omega (arith, ltb-false at (length line) q)))
      ∙ take_at line (Some t ∷ drop at line) most_sent long))

  -- it goes before what stands at i
  pub inside : (i : ℕ) → position (goes_before t.rank) line ≡ Some i → i < most_sent
  inside i e = let p = cond_some (ltb at (length line)) at i e in omega (arith, ltb-true at (length line) p.0, p.1, long)

  -- .. and those from i on move up
  pub comes : (i : ℕ) → position (goes_before t.rank) line ≡ Some i → take most_sent (insert line i (Some t)) ≡ put_in t line
  comes i e =
      let p = cond_some (ltb at (length line)) at i e in
      λ j. take most_sent (insert line (sym p.1 j) (Some t))
