-- The rank of a piece, by its state and its stamp. Assumes nothing.
use Prim.Native.Nat.{ℕ, ◌+◌}
use native.Mathlib.Omega.{arith}
use mathlib.Core.Path.{◌≡◌, ap}
use mathlib.Core.Bool.{true, false}
use lib.Dec.{leb}
use borrow.Author.Tests.{eq-eqb, ne_eqb}
use Rattle.std.specs.Prelude.{Some, None}
use Rattle.machine.specs.Limits.{resend_after}
use Rattle.machine.specs.Values.{Cell}
use Rattle.outbox.specs.Line.{ranked}

module _ (clock : ℕ) (c : Cell) where
  pub started : c.state ≡ 0 → Some 0 ≡ ranked clock c
  started s = rw (eq-eqb c.state 0 s)

  pub due : c.state ≡ 1 → leb (c.stamp + resend_after) clock ≡ true → Some (c.stamp + 1) ≡ ranked clock c
  due s d = rw (ne_eqb c.state 0 (λ z. omega arith), eq-eqb c.state 1 s, d) (ap (λ (n : ℕ). Some n) (omega arith))

  pub not_due : c.state ≡ 1 → leb (c.stamp + resend_after) clock ≡ false → None ≡ ranked clock c
  not_due s d = rw (ne_eqb c.state 0 (λ z. omega arith), eq-eqb c.state 1 s, d)

  pub other : (c.state ≡ 0 → ⊥) → (c.state ≡ 1 → ⊥) → None ≡ ranked clock c
  other z w = rw (ne_eqb c.state 0 z, ne_eqb c.state 1 w)

pub ruleset ranks = (started, due, not_due, other)
