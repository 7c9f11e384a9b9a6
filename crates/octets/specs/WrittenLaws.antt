-- Several writes, each right behind the last, as one: start with `wrote`, go on with `then`, read the result off with `.is`.
-- Assumes nothing.
use Rattle.std.specs.Prelude.{ℕ, ◌+◌, ◌≤◌, ◌≡◌, List, ◌++◌, length}
use Rattle.std.proofs.Common.{arith, ◌∙◌, length-append}
use Rattle.octets.specs.Octets.{put}
use Rattle.octets.specs.PartsLaws.{more}

-- l is b with v written at a, n bytes that fit
pub record Written (b : List ℕ) (a : ℕ) (l v : List ℕ) (n : ℕ) : Type 0 where
  pub is : l ≡ put b a v
  pub size : length v ≡ n
  pub fits : a + n ≤ length b

pub wrote : {b l v : List ℕ} {a n : ℕ} → l ≡ put b a v → length v ≡ n → a + n ≤ length b → Written b a l v n
wrote e s f = record { is = e; size = s; fits = f }

-- w of k bytes comes next
pub then : {b m l v : List ℕ} {a n : ℕ} (w : List ℕ) (k : ℕ) → Written b a m v n → l ≡ put m (a + n) w → length w ≡ k → a + (n + k) ≤ length b
    → Written b a l (v ++ w) (n + k)
then {b} {m} {l} {v} {a} {n} w k h e s f =
    record {
      is = more b m l a (a + n) v w h.is e (omega (arith, h.size)) (omega (arith, h.size, h.fits));
      size = length-append v w ∙ (λ i. h.size i + s i);
      fits = f;
    }
