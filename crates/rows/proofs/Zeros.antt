-- Two parts of a row that overlap or touch are zero where all that they cover is. Assumes nothing.
use Prim.Native.Nat.{ℕ, ◌+◌, ◌-◌, ◌≤◌}
use native.Mathlib.Omega.{arith}
use mathlib.Core.Path.{◌≡◌, refl, ◌∙◌}
use mathlib.Core.Bool.{Bool, true, false, ◌&&◌}
use mathlib.Core.List.{List}
use Rattle.octets.specs.Octets.{part, zeros}
use Rattle.octets.specs.PartsLaws.{part-add}
use Rattle.octets.specs.CompareLaws.{zeros-append}

-- what two tests share is asked once
shared : (p q r : Bool) → ((p && q) && (q && r)) ≡ (p && (q && r))
shared true true r = refl
shared true false r = refl
shared false q r = refl

-- parts that share d bytes, the first with b before them and the second with r behind them
around : (l : List ℕ) (a b d r : ℕ)
    → (zeros (part l a (b + d)) && zeros (part l (a + b) (d + r))) ≡ zeros (part l a (b + (d + r)))
around l a b d r =
    rw (part-add l a b d, part-add l a b (d + r), part-add l (a + b) d r)
    (simp zeros-append (shared (zeros (part l a b)) (zeros (part l (a + b) d)) (zeros (part l (a + b + d) r))))

-- the m bytes from a on and the n bytes from k on are the t bytes from a on
pub overlap : (l : List ℕ) (a m k n t : ℕ) → a ≤ k → k ≤ a + m → a + m ≤ k + n → a + t ≡ k + n
    → (zeros (part l a m) && zeros (part l k n)) ≡ zeros (part l a t)
overlap l a m k n t h i j e =
    let b : ℕ = k - a in
    let d : ℕ = a + m - k in
    let r : ℕ = k + n - (a + m) in
    let em : m ≡ b + d = omega arith in
    let ek : k ≡ a + b = omega arith in
    let en : n ≡ d + r = omega arith in
    let et : b + (d + r) ≡ t = omega arith in
    (λ z. zeros (part l a (em z)) && zeros (part l (ek z) (en z))) ∙ around l a b d r ∙ (λ z. zeros (part l a (et z)))
