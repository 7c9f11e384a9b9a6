-- `topic::entry::Entry::split` meets its contract: it cuts off the size, the topic, the count and the subnets, one behind the other. Assumes nothing.
use Rattle.std.proofs.Common.{ℕ, zero, suc, ◌+◌, ◌*◌, ◌/◌, ◌≤◌, ◌≡◌, refl, sym, ap, ap₂, ◌∙◌, List, ◌∷◌, map, length, get_or, take, drop, Some}
use Rattle.std.proofs.Common.{arith, le-leb, length-drop, get_or-drop, get_or-take, drop-drop, take-take}
use Rattle.std.proofs.lemmas.List.{drop-take}
use Rattle.std.specs.Simd.{first_chunks}
use Rattle.octets.specs.Octets.{part}
use Rattle.topic.specs.Book.{subnet_at, subnets_at, count_at, end_at, entry_at}
use Rattle.topic.specs.Held.{held_subnet}
use Rattle.topic.proofs.entry.Entry.split.Goals as goal

-- the subnets' bytes, in pieces of 17
piece : (b : List ℕ) (o : ℕ) → held_subnet (take 17 (drop o b)) ≡ subnet_at b o
unfolding part
piece b o =
    λ i. record { net = take-take 16 17 (drop o b) (omega arith) i; bits = (get_or-take 17 (drop o b) 16 0 (omega arith) ∙ get_or-drop o b 16 0) i }

pieces : (b : List ℕ) (n o : ℕ) → map held_subnet (first_chunks 17 n (take (17 * n) (drop o b))) ≡ subnets_at b o n
unfolding subnets_at
pieces b zero o = refl
pieces b (suc n) o =
    let e : 17 * suc n ≡ 17 + 17 * n = omega arith in
    rw (e, take-take 17 (17 + 17 * n) (drop o b) (omega arith), drop-take 17 (17 * n) (drop o b), drop-drop 17 o b)
    (ap₂ ◌∷◌ (piece b o) (pieces b n (o + 17)))

-- the size is read as n, the topic is cut off, and the count is read as m
module _ (b r s t : List ℕ) (size count n m : ℕ) (e : b ≡ size ∷ r) (f : n ≡ size) (g : s ≡ drop n r) (h : s ≡ count ∷ t) (k : m ≡ count) where
  size-is : get_or b 0 0 ≡ n
  size-is = ap (λ (l : List ℕ). get_or l 0 0) e ∙ sym f

  topic-behind : s ≡ drop (count_at b 0) b
  topic-behind = let i : count_at b 0 ≡ suc n = omega (arith, size-is) in rw (i, e) g

  count-is : get_or b (count_at b 0) 0 ≡ m
  count-is =
      let i : count_at b 0 + 0 ≡ count_at b 0 = omega arith in
      ap (λ (j : ℕ). get_or b j 0) (sym i) ∙ sym (get_or-drop (count_at b 0) b 0 0) ∙ ap (λ (l : List ℕ). get_or l 0 0) (sym topic-behind ∙ h) ∙ sym k

  count-behind : t ≡ drop (count_at b 0 + 1) b
  count-behind = ap (drop 1) (sym h ∙ topic-behind) ∙ drop-drop 1 (count_at b 0) b

  -- then the subnets are
  whole : n ≤ length r → 17 * m ≤ length t → end_at b 0 ≤ length b
  whole i j = let l : length b ≡ suc (length r) = ap length e in omega (arith, size-is, count-is, length-drop n r, ap length g, ap length h)

  topic-is : (a : List ℕ) → a ≡ take n r → a ≡ (entry_at b 0).topic
  unfolding part
  topic-is a i = i ∙ ap₂ take (sym size-is) (sym (ap (drop 1) e))

  subnets-are : (p : List ℕ) (l : List (List ℕ)) → p ≡ take (17 * m) t → length p ≡ 17 * m → l ≡ first_chunks 17 (length p / 17) p
      → map held_subnet l ≡ (entry_at b 0).subnets
  subnets-are p l i d j =
      let o = count_at b 0 + 1 in
      let q : length p / 17 ≡ m = omega arith in
      ap (map held_subnet) (j ∙ ap₂ (first_chunks 17) q (i ∙ ap (take (17 * m)) count-behind)) ∙ pieces b m o ∙ ap (subnets_at b o) (sym count-is)

  rest-is : (q : List ℕ) → q ≡ drop (17 * m) t → q ≡ drop (end_at b 0) b
  rest-is q i =
      let j : count_at b 0 + 1 + 17 * m ≡ end_at b 0 = omega (arith, count-is) in
      i ∙ ap (drop (17 * m)) count-behind ∙ drop-drop (17 * m) (count_at b 0 + 1) b ∙ ap (λ (j : ℕ). drop j b) j

pub overflow_mul-from : goal.overflow_mul-from
overflow_mul-from c =
    let b = c.args.bytes.now in
    let k = count-is b _ _ _ _ _ _ _ c.in_ok-size.ensures.cases.0 c.from.ensures c.in_ok-topic.ensures.cases.2 c.in_ok-count.ensures.cases.0 c.from-2.ensures in
    omega (arith, k, c.type_inv.bytes (count_at b 0))

pub returns : goal.returns
returns c =
    let b = c.args.bytes.now in
    let e = c.in_ok-size.ensures.cases.0 in
    let f = c.from.ensures in
    let t = c.in_ok-topic.ensures.cases in
    let h = c.in_ok-count.ensures.cases.0 in
    let k = c.from-2.ensures in
    let p = c.in_ok-subnets.ensures.cases in
    let w = whole b _ _ _ _ _ _ _ e f t.2 h k t.0 p.0 in
    rw (le-leb _ _ w)
    (λ i. Some (
      record {
        topic = topic-is b _ _ _ _ _ _ _ e f t.2 h k _ t.1 i;
        subnets = subnets-are b _ _ _ _ _ _ _ e f t.2 h k _ _ p.1 p.3 c.as_chunks.ensures.front i;
      },
      rest-is b _ _ _ _ _ _ _ e f t.2 h k _ p.2 i,
    ))
