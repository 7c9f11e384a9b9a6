-- A chain that starts at a byte of the head: the link behind a part of it is written, at that byte or in a row. Rows elsewhere and the rest of the head
-- stay; the head's byte is then the chain's first place in either case. Said over where the rows stand and how long they are. Assumes nothing.
use Rattle.std.specs.Prelude.{ℕ, suc, ◌+◌, ◌≤◌, ◌<◌, ◌≡◌, take, drop}
use Rattle.std.proofs.Common.{zero-add, arith, ◌∙◌}
use Rattle.std.proofs.Math.Path.{sym, ap}
use mathlib.Core.List.{List, [], ◌∷◌, ◌++◌, map}
use Rattle.std.proofs.Math.ListN.{length, get_or}
use Rattle.std.proofs.Math.Seq.{split_at, append_snoc}
use Rattle.octets.specs.Octets.{part, put}
use Rattle.octets.specs.Lists.{All}
use Rattle.octets.specs.PartsLaws.{length-put, get_or-part, part-put-in, part-put-after, length_part}
use Rattle.machine.specs.Limits.{head_bytes}
use Rattle.machine.specs.Rows.{Row, row_off}
use Rattle.machine_laws.specs.Rows.{places, Held, held_same}
use Rattle.machine.specs.Counting.{occurs}
use Rattle.machine_laws.specs.Chains.{lead, rows_to}
use Rattle.machine_laws.specs.Write.{row_in}
use Rattle.machine_writes.specs.Link.{link_at, last_of, last_has, last-in, link-wrote, link-stay, relink}

-- a byte that stands there already may be written again
pub put_same : (l : List ℕ) (o x : ℕ) → o < length l → get_or l o 0 ≡ x → put l o (x ∷ []) ≡ l
unfolding put
put_same l o x h e =
    ap (λ (y : ℕ). take o l ++ (y ∷ []) ++ drop (o + 1) l) (sym e)
    ∙ append_snoc (take o l) (get_or l o 0) (drop (o + 1) l)
    ∙ ap (λ (n : ℕ). take o l ++ get_or l o 0 ∷ drop n l) (next o) ∙ sym (split_at l o 0 h)
  where
    next : (o : ℕ) → o + 1 ≡ suc o
    next o = omega arith

module _ {A : Type 0} (place : A → ℕ) (row : ℕ → A → List ℕ) (tail : A → List ℕ) (parts : (n : ℕ) (a : A) → row n a ≡ n ∷ tail a)
    (start size : ℕ) (some : 0 < size) (behind : head_bytes ≤ start) where
  abbrev off : ℕ → ℕ
  off k = row_off start size k

  -- rows of these elements stand in n bytes
  abbrev pub Stand : ℕ → List A → Type 0
  Stand n l = All (λ (a : A). (0 < place a) × (off (suc (place a)) ≤ n)) l

  -- b' is b with y as what follows l, a part of the chain that starts at the head's byte h
  pub record Led (h y : ℕ) (l : List A) (b b' : List ℕ) : Type 0 where
    pub long : length b' ≡ length b
    pub chain : Held (row_in start size b') (rows_to place row y l)
    pub rows : (lines : List Row) → occurs 0 (places lines) ≡ 0 → ((k : ℕ) → 0 < occurs k (map place l) → occurs k (places lines) ≡ 0)
        → Held (row_in start size b) lines → Held (row_in start size b') lines
    pub head : part b' 0 head_bytes ≡ put (part b 0 head_bytes) h (lead y (map place l) ∷ [])
    pub beyond : (o n : ℕ) → ((k : ℕ) → 0 < occurs k (map place l) → off (suc k) ≤ o) → head_bytes ≤ o → part b' o n ≡ part b o n

  pub lead-on : (h x y : ℕ) (l : List A) (b : List ℕ) → h < head_bytes → head_bytes ≤ length b → Stand (length b) l → ((k : ℕ) → occurs k (map place l) ≤ 1)
      → get_or b h 0 ≡ lead x (map place l) → Held (row_in start size b) (rows_to place row x l) → Led h y l b (put b (link_at place row start size h l) (y ∷ []))
  unfolding link_at
  lead-on h x y [] b i g p u e held = record {
    long = length-put b h (y ∷ []) (omega arith);
    chain = tt;
    rows = λ lines z n k. held_same (row_in start size b) (row_in start size (put b h (y ∷ []))) lines (λ j q. part-put-after b h (y ∷ []) (omega arith) (off j) size (omega arith)) k;
    head = ap (λ (o : ℕ). part (put b o (y ∷ [])) 0 head_bytes) (sym (zero-add h)) ∙ part-put-in b 0 head_bytes h (y ∷ []) (omega arith) (omega arith);
    beyond = λ o n k j. part-put-after b h (y ∷ []) (omega arith) o n (omega arith);
  }
  lead-on h x y (a ∷ l) b i g p u e held =
      let last = last_has place row start size (λ (c : A). (0 < place c) × (off (suc (place c)) ≤ length b)) a l p in
      let w = link-wrote place row start size tail parts b y h a l some last.0 last.1 in
      let k = place (last_of place row start size a l) in
      record {
        long = w.long;
        chain = relink place row start size tail parts b y h x (a ∷ l) some p u held;
        rows = λ lines z n q. link-stay place row start size tail parts b y h a l lines some last.0 last.1 z (n k (last-in place row start size a l)) q;
        head = w.before 0 head_bytes behind ∙ sym (put_same (part b 0 head_bytes) h (place a) (omega (arith, length_part b 0 head_bytes g))
            (get_or-part b 0 head_bytes h i ∙ ap (λ (o : ℕ). get_or b o 0) (zero-add h) ∙ e));
        beyond = λ o n q j. w.behind o n (q k (last-in place row start size a l));
      }
