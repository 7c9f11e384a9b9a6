-- The held and the whole chain of a valid store: what `seek` finds from the head's links to them. Assumes nothing.
use Rattle.std.specs.Prelude.{ℕ, ◌≤◌, ◌<◌, ◌≡◌, refl, List, [], ◌∷◌, map, length, get_or}
use Rattle.std.proofs.Common.{arith, ◌∙◌, subst}
use Rattle.std.proofs.Math.Option.{none, some}
use Rattle.octets.specs.Lists.{All}
use Rattle.octets.specs.ListsLaws.{all_left, all_right}
use Rattle.machine.specs.Limits.{rec_count}
use Rattle.machine.specs.Codes.{held_kind, kind_whole}
use Rattle.machine.specs.Values.{Rec, Store, Key, same_key}
use Rattle.machine.specs.Chains.{first, chain_rows}
use Rattle.machine.specs.Receive.{rec_key, found}
use Rattle.machine.specs.Layout.{held_at, whole_at, rec_place, rec_row, rec_at}
use Rattle.machine.specs.Valid.{RecSized, Valid}
use Rattle.machine_laws.specs.Counting.{Few, few-inside, few-short}
use Rattle.machine_laws.specs.Rows.{Held}
use Rattle.machine_laws.specs.Chains.{lead}
use Rattle.machine_laws.specs.StoreRows.{held-held, held_whole}
use Rattle.machine_laws.specs.Rep.{Rep}
use Rattle.machine_laws.specs.Walks.{recs-once, head_byte}
use Rattle.machine_writes.specs.Link.{chain-rows}
use Rattle.machine_writes.specs.Split.{Split}
use Rattle.records.specs.SoughtLaws.{Leads, Sought, found-sought, none-sought}

-- a chain of few records that starts at a byte of the head
leads : (b : List ℕ) (kind at : ℕ) (l : List Rec) → get_or b at 0 ≡ first (map rec_place l) → Held (rec_at b) (chain_rows rec_place (rec_row kind) l) → All RecSized l
    → Few rec_count (map rec_place l) → Leads b kind at 0 l
leads b kind at l e h z u =
    record {
      from = e ∙ firsts l;
      rows = subst (Held (rec_at b)) (chain-rows rec_place (rec_row kind) l) h;
      fine =
          fine l z (few-inside rec_count (map rec_place l) u);
    }
  where
    firsts : (l : List Rec) → first (map rec_place l) ≡ lead 0 (map rec_place l)
    firsts [] = refl
    firsts (r ∷ l) = refl

    fine : (l : List Rec) → All RecSized l → All (λ p. (0 < p) × (p ≤ rec_count)) (map rec_place l) → All (λ (r : Rec). (0 < r.place) × RecSized r) l
    fine [] z u = tt
    fine (r ∷ l) z u = ((u.0.0, z.0), fine l z.1 u.1)

short : (l : List Rec) → Few rec_count (map rec_place l) → length l ≤ rec_count
short l u = omega (arith, few-short rec_count (map rec_place l) u, same l)
  where
    same : (l : List Rec) → length (map rec_place l) ≡ length l
    same [] = refl
    same (r ∷ l) = omega (arith, same l)

module _ (role : ℕ) (s : Store) (v : Valid role s) (b : List ℕ) (rep : Rep s b) where
  abbrev kind : ℕ
  kind = held_kind s.setup.role

  held-once : Few rec_count (map rec_place s.held)
  held-once k = omega (arith, recs-once role s v k)

  whole-once : Few rec_count (map rec_place s.whole)
  whole-once k = omega (arith, recs-once role s v k)

  pub held-leads : Leads b kind held_at 0 s.held
  held-leads =
      leads b kind held_at s.held (head_byte role s v b rep held_at (omega arith)) (held-held s (rec_at b) rep.recs)
      (all_left RecSized s.held s.whole v.sized) held-once

  pub whole-leads : Leads b kind_whole whole_at 0 s.whole
  whole-leads =
      leads b kind_whole whole_at s.whole (head_byte role s v b rep whole_at (omega arith)) (held_whole s (rec_at b) rep.recs)
      (all_right RecSized s.held s.whole v.sized) whole-once

  -- the link to the record with the key, behind the records before it; or the link that ends the chain
  pub held_found : (k : Key) (r : Rec) → found k s.held ≡ some r → (q : Split same_key rec_key k r s.held) → Sought b kind k held_at r.place q.before
  held_found k r e q = found-sought b kind k held_at r s.held held-leads (short s.held held-once) e q

  pub held_none : (k : Key) → found k s.held ≡ none → Sought b kind k held_at 0 s.held
  held_none k e = none-sought b kind k held_at s.held held-leads (short s.held held-once) e

  pub whole-found : (k : Key) (r : Rec) → found k s.whole ≡ some r → (q : Split same_key rec_key k r s.whole)
      → Sought b kind_whole k whole_at r.place q.before
  whole-found k r e q = found-sought b kind_whole k whole_at r s.whole whole-leads (short s.whole whole-once) e q

  pub whole-none : (k : Key) → found k s.whole ≡ none → Sought b kind_whole k whole_at 0 s.whole
  whole-none k e = none-sought b kind_whole k whole_at s.whole whole-leads (short s.whole whole-once) e
