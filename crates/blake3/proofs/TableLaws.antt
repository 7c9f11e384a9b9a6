-- Arrays made index by index are the definitions' tables. Assumes nothing.
use Rattle.std.proofs.Common.{◌≡◌, ℕ, zero, suc, ◌+◌, ◌<◌, List, ◌∷◌, length, get_or, refl, sym, ap, ◌∙◌, subst}
use Rattle.std.proofs.Common.{add-zero, zero-add, not-suc-le-zero, le_of_suc-le-suc, arith}
use Rattle.std.proofs.lemmas.Grind.{same_number_lists}
use Rattle.std.specs.Array.{IsFromFnResult, IsFromFnResultFrom}
use Rattle.std.specs.Fn.{Called}
use denote.Param.Members.{Mut}
use Rattle.blake3.specs.Words.{table}
use Rattle.blake3.specs.Laws.{length-table, table_at}

-- tables of functions that agree
ext-from : (f g : ℕ → ℕ) (i n : ℕ) → ((k : ℕ) → k < i + n → f k ≡ g k) → table f i n ≡ table g i n
ext-from f g i zero h = refl
ext-from f g i (suc n) h = λ t. h i (omega arith) t ∷ ext-from f g (suc i) n (λ k q. h k (omega arith)) t

pub ext : (f g : ℕ → ℕ) (n : ℕ) → ((k : ℕ) → k < n → f k ≡ g k) → table f 0 n ≡ table g 0 n
ext f g n h = ext-from f g 0 n (λ k q. h k (omega arith))

-- a list of n numbers that has h k at each place
pub filled : (h : ℕ → ℕ) (ys : List ℕ) (n : ℕ) → length ys ≡ n → ((k : ℕ) → k < n → get_or ys k 0 ≡ h k)
    → ys ≡ table h 0 n
filled h ys n l e =
    same_number_lists ys (table h 0 n) (l ∙ sym (length-table h 0 n))
    (λ k q. let b : k < n = omega (arith, l) in e k b ∙ sym (table_at h n k b))

-- a closure that gives h i at i, and changes nothing
abbrev Gives : {F : Type 0} → Mut F (ℕ × Unit {0}) ℕ → F → (ℕ → ℕ) → Type 0
Gives {F} g f h = (i y : ℕ) (q : F) → Called g f (i, tt) y q → (y ≡ h i) × (q ≡ f)

-- .. makes a table by `from_fn`: at the n places from i on
each : {F : Type 0} (g : Mut F (ℕ × Unit {0}) ℕ) (f : F) (h : ℕ → ℕ) → Gives g f h → (ys : List ℕ) (i n k : ℕ)
    → IsFromFnResultFrom g f ys i n → k < n → get_or ys (i + k) 0 ≡ h (i + k)
each g f h e ys i zero k r l = absurd (not-suc-le-zero l)
each g f h e ys i (suc n) zero r l =
    let q : i ≡ i + 0 = sym (add-zero i) in
    ap (λ (j : ℕ). get_or ys j 0) (sym q) ∙ r.2.1 0 ∙ (e i r.1 r.0 r.3).0 ∙ ap h q
each {F} g f h e ys i (suc n) (suc k) r l =
    let rest = subst (λ (p : F). IsFromFnResultFrom g p ys (i + 1) n) (e i r.1 r.0 r.3).1 r.4 in
    let q : i + 1 + k ≡ i + suc k = omega arith in
    ap (λ (j : ℕ). get_or ys j 0) (sym q) ∙ each g f h e ys (i + 1) n k rest (le_of_suc-le-suc l) ∙ ap h q

-- .. and at all
pub tabled : {F : Type 0} {g : Mut F (ℕ × Unit {0}) ℕ} {f : F} {ys : List ℕ} {n : ℕ} (h : ℕ → ℕ)
    → IsFromFnResult g f ys n → Gives g f h → ys ≡ table h 0 n
tabled {g = g} {f = f} {ys = ys} {n = n} h r e =
    filled h ys n r.long
    (λ k l. let q = zero-add k in
    ap (λ (j : ℕ). get_or ys j 0) (sym q) ∙ each g f h e ys 0 n k r.each l ∙ ap h q)
