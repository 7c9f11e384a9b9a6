-- What the calls above establish, from a sound store: a link that was found leads to the record, and the operations have what they require.
-- Assumes nothing.
use Rattle.std.specs.Prelude.{ℕ, suc, ◌<◌, ◌≡◌, refl, true, List, [], ◌∷◌, length, get_or, ltb}
use Rattle.std.proofs.Common.{arith, sym, ap, ◌∙◌, lt-ltb, le-ltb}
use Rattle.std.proofs.Math.Option.{Option, none, some}
use Rattle.octets.specs.Octets.{Bytes}
use Rattle.octets.specs.Lists.{All}
use Rattle.octets.specs.ListsLaws.{all-to}
use Rattle.machine.specs.Limits.{rec_count}
use Rattle.machine.specs.Codes.{role_receive}
use Rattle.machine.specs.Values.{Rec, Key, same_key}
use Rattle.machine.specs.Find.{is_some}
use Rattle.machine.specs.Receive.{rec_key, found}
use Rattle.machine.specs.Layout.{free_at, held_at, whole_at, free_cells_at, decode}
use Rattle.machine.specs.Sound.{sound}
use Rattle.machine.specs.Valid.{RecSized, Valid}
use Rattle.machine.specs.Chains.{first}
use Rattle.machine_laws.specs.Counting.{Few, few-inside}
use Rattle.machine_laws.specs.Walks.{head_byte, recs-once, cells-once}
use Rattle.machine_laws.specs.Rep.{Rep}
use Rattle.machine_laws.specs.SoundValid.{sound-valid}
use Rattle.machine_writes.specs.Split.{found-split}
use Rattle.machine_steps.proofs.Find.{all_found}
use Rattle.machine_writes.specs.Links.{Links}
use Rattle.machine_writes.specs.InRange.{links, sound-rep}
use Rattle.records.specs.Seek.{seek}
use Rattle.records.specs.SoughtLaws.{seek-link}
use Rattle.records.specs.InChainsLaws.{held-leads, whole-leads, held_found, held_none, whole-found, whole-none}
use Rattle.records.specs.Opening.{Openable}
use Rattle.records.specs.Dropping.{Takable}

pub openable : (b : List ℕ) → Links b → 0 < get_or b free_at 0 → Openable b
openable b h g = record { some = g; small = h.free.small; long = omega (arith, h.long) }

pub takable : (b : List ℕ) → Links b → sound role_receive b ≡ true → 0 < get_or b whole_at 0 → Takable b
takable b h t g = record { sound = t; linked = record { links = h; led = h.whole; some = g } }

placed : (l : List Rec) → All (λ (r : Rec). (0 < r.place) × RecSized r) l → All (λ (r : Rec). 0 < r.place) l
placed l h = all-to (λ (r : Rec). (0 < r.place) × RecSized r) (λ (r : Rec). 0 < r.place) l (λ r z. z.0) h

-- places count from 1, so a list of them has a first one where it is not empty
some_first : (n : ℕ) (ps : List ℕ) → Few n ps → ltb 0 (first ps) ≡ ltb 0 (length ps)
some_first n [] u = refl
some_first n (p ∷ ps) u = lt-ltb 0 p (few-inside n (p ∷ ps) u).0.0 ∙ sym (lt-ltb 0 (length (p ∷ ps)) (omega arith))

module _ (role : ℕ) (b : List ℕ) (y : Bytes b) (t : sound role b ≡ true) where
  valid : Valid role (decode b)
  valid = (sound-valid role b y t).0

  rep : Rep (decode b) b
  rep = sound-rep role b y t

  -- whether the link that is found leads to a record tells whether there is one
  pub held-is : (k : Key) → ltb 0 (get_or b (seek k b held_at) 0) ≡ is_some (found k (decode b).held)
  held-is k = go (found k (decode b).held) refl
    where
      go : (o : Option Rec) → found k (decode b).held ≡ o → ltb 0 (get_or b (seek k b held_at) 0) ≡ is_some o
      go none e = le-ltb 0 (get_or b (seek k b held_at) 0) (omega (arith, (held_none role (decode b) valid b rep k e).leads))
      go (some r) e = lt-ltb 0 (get_or b (seek k b held_at) 0)
          (omega (
            arith,
            (held_found role (decode b) valid b rep k r e (found-split same_key rec_key k r (decode b).held e)).leads,
            all_found same_key rec_key (λ (x : Rec). 0 < x.place) k r (decode b).held e
                (placed (decode b).held (held-leads role (decode b) valid b rep).fine),
          ))

  pub whole_is : (k : Key) → ltb 0 (get_or b (seek k b whole_at) 0) ≡ is_some (found k (decode b).whole)
  whole_is k = go (found k (decode b).whole) refl
    where
      go : (o : Option Rec) → found k (decode b).whole ≡ o → ltb 0 (get_or b (seek k b whole_at) 0) ≡ is_some o
      go none e = le-ltb 0 (get_or b (seek k b whole_at) 0) (omega (arith, (whole-none role (decode b) valid b rep k e).leads))
      go (some r) e = lt-ltb 0 (get_or b (seek k b whole_at) 0)
          (omega (
            arith,
            (whole-found role (decode b) valid b rep k r e (found-split same_key rec_key k r (decode b).whole e)).leads,
            all_found same_key rec_key (λ (x : Rec). 0 < x.place) k r (decode b).whole e
                (placed (decode b).whole (whole-leads role (decode b) valid b rep).fine),
          ))

  -- links that are found stand inside the store
  pub held-inside : (k : Key) → seek k b held_at < length b
  held-inside k = let l = links role b y t in omega (arith, l.long, (seek-link k b (suc rec_count) held_at l l.held).inside)

  pub whole-inside : (k : Key) → seek k b whole_at < length b
  whole-inside k = let l = links role b y t in omega (arith, l.long, (seek-link k b (suc rec_count) whole_at l l.whole).inside)

  -- whether there is a free record, and a free cell
  pub free-is : ltb 0 (get_or b free_at 0) ≡ ltb 0 (length (decode b).free)
  free-is =
      ap (ltb 0) (head_byte role (decode b) valid b rep free_at (omega arith))
      ∙ some_first rec_count (decode b).free (λ k. omega (arith, recs-once role (decode b) valid k))

  pub free_cells-is : ltb 0 (get_or b free_cells_at 0) ≡ ltb 0 (length (decode b).free_cells)
  free_cells-is =
      ap (ltb 0) (head_byte role (decode b) valid b rep free_cells_at (omega arith))
      ∙ some_first (decode b).setup.cells (decode b).free_cells (λ k. omega (arith, cells-once role (decode b) valid k))
