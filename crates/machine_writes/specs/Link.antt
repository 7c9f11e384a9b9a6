-- Links in bytes: where the link to what follows a part of a chain stands, what is read there, and what a write there changes. One set of laws for
-- chains of records and of cells: a row starts with its link. Assumes nothing.
use Rattle.std.specs.Prelude.{ℕ, suc, ◌+◌, ◌≤◌, ◌<◌, ◌≡◌, get_or}
use Rattle.std.proofs.Common.{add-zero, arith, ◌∙◌, subst}
use Rattle.std.proofs.Math.Path.{refl, sym, ap}
use mathlib.Core.List.{List, [], ◌∷◌, ◌++◌, map}
use Rattle.std.proofs.Math.ListN.{length}
use Rattle.octets.specs.Octets.{put}
use Rattle.octets.specs.Lists.{All}
use Rattle.octets.specs.PartsLaws.{get_or-part}
use Rattle.machine.specs.Rows.{Row, row_off}
use Rattle.machine_laws.specs.Rows.{places, Held}
use Rattle.machine.specs.Counting.{occurs}
use Rattle.machine_laws.specs.Counting.{self}
use Rattle.machine.specs.Chains.{first, chain_rows}
use Rattle.machine_laws.specs.Chains.{lead, rows_to}
use Rattle.machine_laws.specs.Write.{row_in, Wrote, write-field, held-stay}

module _ {A : Type 0} (place : A → ℕ) (row : ℕ → A → List ℕ) (start size : ℕ) where
  abbrev off : ℕ → ℕ
  off k = row_off start size k

  -- where the link to what follows l stands, if the link to l itself stands at q: at q, or at the start of l's last row
  unfoldable pub link_at : ℕ → List A → ℕ
  link_at q [] = q
  link_at q (a ∷ l) = link_at (off (place a)) l

  -- the last element of a ∷ l
  unfoldable pub last_of : A → List A → A
  last_of a [] = a
  last_of a (c ∷ l) = last_of c l

  pub link-last : (q : ℕ) (a : A) (l : List A) → link_at q (a ∷ l) ≡ off (place (last_of a l))
  unfolding link_at last_of
  link-last q a [] = refl
  link-last q a (c ∷ l) = link-last q c l

  -- what is so of each element is so of the last
  pub last_has : (P : A → Type 0) (a : A) (l : List A) → All P (a ∷ l) → P (last_of a l)
  unfolding last_of
  last_has P a [] h = h.0
  last_has P a (c ∷ l) h = last_has P c l h.1

  pub last-in : (a : A) (l : List A) → 0 < occurs (place (last_of a l)) (map place (a ∷ l))
  unfolding last_of
  last-in a [] = omega (arith, self (place a))
  last-in a (c ∷ l) = omega (arith, last-in c l)

  -- where no place stands twice, the first is not the last
  apart : (a c : A) (l : List A) → ((k : ℕ) → occurs k (map place (a ∷ c ∷ l)) ≤ 1) → place a ≡ place (last_of c l) → ⊥
  apart a c l u e =
      let z : occurs (place a) (map place (c ∷ l)) ≡ occurs (place (last_of c l)) (map place (c ∷ l)) = ap (λ (k : ℕ). occurs k (map place (c ∷ l))) e in
      omega (arith, u (place a), self (place a), last-in c l)

  -- a row is its link and what does not depend on it
  module _ (tail : A → List ℕ) (parts : (n : ℕ) (a : A) → row n a ≡ n ∷ tail a) where
    row-link : (n : ℕ) (a : A) → get_or (row n a) 0 0 ≡ n
    row-link n a = ap (λ (l : List ℕ). get_or l 0 0) (parts n a)

    pub row-relink : (n m : ℕ) (a : A) → put (row n a) 0 (m ∷ []) ≡ row m a
    unfolding put
    row-relink n m a = ap (λ (l : List ℕ). put l 0 (m ∷ [])) (parts n a) ∙ sym (parts m a)

    module _ (b : List ℕ) where
      abbrev f : ℕ → List ℕ
      f k = row_in start size b k

      -- the link that a row's first byte is
      first_byte : (k n : ℕ) (a : A) → 0 < size → f k ≡ row n a → get_or b (off k) 0 ≡ n
      first_byte k n a z e =
          ap (λ (o : ℕ). get_or b o 0) (sym (add-zero (off k))) ∙ sym (get_or-part b (off k) size 0 z) ∙ ap (λ (l : List ℕ). get_or l 0 0) e ∙ row-link n a

      -- what follows a part of a chain is read where its link stands
      pub link-read : (q x : ℕ) (l : List A) → 0 < size → get_or b q 0 ≡ lead x (map place l) → Held f (rows_to place row x l) → get_or b (link_at q l) 0 ≡ x
      unfolding link_at
      link-read q x [] z e h = e
      link-read q x (a ∷ l) z e h = link-read (off (place a)) x l z (first_byte (place a) (lead x (map place l)) a z h.0) h.1

      -- ---- a write of that link

      module _ (y : ℕ) where
        abbrev b' : ℕ → List A → List ℕ
        b' q l = put b (link_at q l) (y ∷ [])

        -- it is a write in the row of the last element
        pub link-wrote : (q : ℕ) (a : A) (l : List A) → 0 < size → 0 < place (last_of a l) → off (suc (place (last_of a l))) ≤ length b
            → Wrote start size (place (last_of a l)) (put (f (place (last_of a l))) 0 (y ∷ [])) b (b' q (a ∷ l))
        link-wrote q a l z p h =
            let k = place (last_of a l) in
            let e : off k + 0 ≡ link_at q (a ∷ l) = add-zero (off k) ∙ sym (link-last q a l) in
            subst (λ (o : ℕ). Wrote start size k (put (f k) 0 (y ∷ [])) b (put b o (y ∷ []))) e (write-field start size k 0 (y ∷ []) b p h (omega arith))

        -- what follows l is another place now: the chain leads there
        pub relink : (q x : ℕ) (l : List A) → 0 < size → All (λ (a : A). (0 < place a) × (off (suc (place a)) ≤ length b)) l → ((k : ℕ) → occurs k (map place l) ≤ 1)
            → Held f (rows_to place row x l) → Held (λ k. row_in start size (b' q l) k) (rows_to place row y l)
        unfolding link_at last_of
        relink q x [] z p u h = tt
        relink q x (a ∷ []) z p u h =
            let w = link-wrote q a [] z p.0.0 p.0.1 in
            (w.here ∙ ap (λ (r : List ℕ). put r 0 (y ∷ [])) h.0 ∙ row-relink x y a, tt)
        relink q x (a ∷ c ∷ l) z p u h =
            let last : (0 < place (last_of c l)) × (off (suc (place (last_of c l))) ≤ length b) = last_has (λ (e : A). (0 < place e) × (off (suc (place e)) ≤ length b)) c l p.1 in
            let w = link-wrote (off (place a)) c l z last.0 last.1 in
            let n : place a ≡ place (last_of c l) → ⊥ = λ e. apart a c l u e in
            (w.others (place a) p.0.0 n ∙ h.0, relink (off (place a)) x (c ∷ l) z p.1 (λ k. omega (arith, u k)) h.1)

        -- rows at other places stay
        pub link-stay : (q : ℕ) (a : A) (l : List A) (rows : List Row) → 0 < size → 0 < place (last_of a l) → off (suc (place (last_of a l))) ≤ length b
            → occurs 0 (places rows) ≡ 0 → occurs (place (last_of a l)) (places rows) ≡ 0 → Held f rows → Held (λ k. row_in start size (b' q (a ∷ l)) k) rows
        link-stay q a l rows z p g n o h = held-stay start size (place (last_of a l)) _ b (b' q (a ∷ l)) (link-wrote q a l z p g) rows n o h

-- ---- parts of chains

module _ {A : Type 0} (place : A → ℕ) (row : ℕ → A → List ℕ) where
  -- a part of a chain is its front, which leads to its rest, and its rest
  pub rows_append : (z : ℕ) (l m : List A) → rows_to place row z (l ++ m) ≡ rows_to place row (lead z (map place m)) l ++ rows_to place row z m
  rows_append z [] m = refl
  rows_append z (a ∷ l) m = λ i. record { place = place a; bytes = row (leads l i) a } ∷ rows_append z l m i
    where
      leads : (l : List A) → lead z (map place (l ++ m)) ≡ lead (lead z (map place m)) (map place l)
      leads [] = refl
      leads (c ∷ l) = refl

  -- a whole chain leads to 0
  pub chain-rows : (l : List A) → chain_rows place row l ≡ rows_to place row 0 l
  chain-rows [] = refl
  chain-rows (a ∷ l) = λ i. record { place = place a; bytes = row (leads l i) a } ∷ chain-rows l i
    where
      leads : (l : List A) → first (map place l) ≡ lead 0 (map place l)
      leads [] = refl
      leads (c ∷ l) = refl

  pub rows-places : (z : ℕ) (l : List A) → places (rows_to place row z l) ≡ map place l
  rows-places z [] = refl
  rows-places z (a ∷ l) = ap (λ (x : List ℕ). place a ∷ x) (rows-places z l)
