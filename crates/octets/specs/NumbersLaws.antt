-- Laws of `be` and `num`: bytes of a number read back give the number, the number of bytes written gives the bytes, inside a longer list too,
-- and a number of several digits is made of two shorter ones. Assumes nothing.
use Rattle.std.specs.Prelude.{ℕ, zero, suc, ◌+◌, ◌*◌, ◌/◌, ◌%◌, ◌≤◌, ◌<◌, ◌≡◌, refl, List, [], ◌∷◌, ◌++◌, length, get_or, take}
use Rattle.std.proofs.Common.{arith, sym, ap, ◌∙◌, length-append, take-suc, take_all}
use Rattle.std.proofs.Math.ListN.{get_or-append}
use Rattle.std.proofs.lemmas.List.{get_or_at}
use Rattle.octets.specs.Octets.{part, be, num, capacity, Bytes}
use Rattle.octets.specs.PartsLaws.{get_or-part, bytes-part, length_part}

pub length-be : (k n : ℕ) → length (be k n) ≡ k
unfolding be
length-be zero n = refl
length-be (suc k) n = omega (arith, length-append (be k (n / 256)) (n % 256 ∷ []), length-be k (n / 256))

pub bytes-be : (k n : ℕ) → Bytes (be k n)
unfolding be
bytes-be zero n i = omega arith
bytes-be (suc k) n i = snoc (be k (n / 256)) (n % 256) (bytes-be k (n / 256)) (omega arith) i
  where
    snoc : (l : List ℕ) (x : ℕ) → Bytes l → x < 256 → Bytes (l ++ (x ∷ []))
    snoc [] x h g zero = g
    snoc [] x h g (suc i) = omega arith
    snoc (y ∷ l) x h g zero = h 0
    snoc (y ∷ l) x h g (suc i) = snoc l x (λ j. h (suc j)) g i

-- a number depends on its own bytes only
pub num-append : (k : ℕ) (l r : List ℕ) → k ≤ length l → num k (l ++ r) ≡ num k l
unfolding num
num-append zero l r h = refl
num-append (suc k) l r h = λ i. 256 * num-append k l r (omega arith) i + get_or-append l r 0 k (omega arith) i

-- the number of a number's bytes
pub num-be : (k n : ℕ) → n < capacity k → num k (be k n) ≡ n
unfolding num be capacity
num-be zero n h = omega arith
num-be (suc k) n h =
    let e : num k (be k (n / 256) ++ (n % 256 ∷ [])) ≡ n / 256 = num-append k (be k (n / 256)) (n % 256 ∷ []) (omega (arith, length-be k (n / 256)))
    ∙ num-be k (n / 256) (omega arith) in
    let d : get_or (be k (n / 256) ++ (n % 256 ∷ [])) k 0 ≡ n % 256 = get_or_at (be k (n / 256)) (n % 256) [] 0 k (length-be k (n / 256)) in
    omega arith

be-take : (k : ℕ) (l : List ℕ) → k ≤ length l → Bytes l → be k (num k l) ≡ take k l
unfolding be num
be-take zero l h b = refl
be-take (suc k) l h b =
    let q : (256 * num k l + get_or l k 0) / 256 ≡ num k l = omega (arith, b k) in
    let r : (256 * num k l + get_or l k 0) % 256 ≡ get_or l k 0 = omega (arith, b k) in
    (λ i. be k (q i) ++ (r i ∷ []))
    ∙ ap (λ (x : List ℕ). x ++ (get_or l k 0 ∷ [])) (be-take k l (omega arith) b)
    ∙ sym (take-suc l k 0 (omega arith))

-- the bytes of the number of bytes
pub be-num : (k : ℕ) (l : List ℕ) → length l ≡ k → Bytes l → be k (num k l) ≡ l
be-num k l e b = be-take k l (omega arith) b ∙ take_all k l (omega arith)

pub num-lt : (k : ℕ) (l : List ℕ) → Bytes l → num k l < capacity k
unfolding num capacity
num-lt zero l b = omega arith
num-lt (suc k) l b = omega (arith, num-lt k l b, b k)

-- inside a longer list: what is read at o and written there again changes nothing
pub be-part : (b : List ℕ) (o k : ℕ) → o + k ≤ length b → Bytes b → be k (num k (part b o k)) ≡ part b o k
be-part b o k h g = be-num k (part b o k) (length_part b o k h) (bytes-part b o k g)

-- a digit of a part is the byte of the list
pub num-digit : (b : List ℕ) (o k n : ℕ) → k < n → num (suc k) (part b o n) ≡ 256 * num k (part b o n) + get_or b (o + k) 0
unfolding num
num-digit b o k n h = ap (λ (x : ℕ). 256 * num k (part b o n) + x) (get_or-part b o n k h)
