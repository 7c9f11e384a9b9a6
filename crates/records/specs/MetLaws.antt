-- Records met by links, in sound bytes: what `seek` ends at leads to the record with the key, and that record is read from its row. Assumes nothing.
use Rattle.std.specs.Prelude.{ℕ, suc, ◌≤◌, ◌<◌, ◌≡◌, true, List, [], ◌∷◌, ◌++◌, map, length, get_or}
use Rattle.std.proofs.Common.{arith, sym, ap, ◌∙◌, subst, eq-eqb, ne_eqb}
use Rattle.std.proofs.Math.Path.{refl}
use Rattle.std.proofs.Math.Option.{Option, none, some}
use Rattle.octets.specs.Octets.{Bytes}
use Rattle.octets.specs.Lists.{All}
use Rattle.octets.specs.PartsLaws.{part-part}
use Rattle.machine.specs.Limits.{longest, rec_count, rec_bytes}
use Rattle.machine.specs.Codes.{held_kind}
use Rattle.machine.specs.Values.{Rec, Key, same_key}
use Rattle.machine.specs.Chains.{first}
use Rattle.machine.specs.Layout.{held_at, id_at, id_width, rec_off, rec_place, rec_row, rec_at, slots_at}
use Rattle.machine.specs.Layout.{first_cell_at, label_of, sending_of, rec_of, rec_chain, read_cells, read_rec, decode}
use Rattle.machine.specs.Sound.{sound}
use Rattle.machine.specs.Valid.{RecSized, Valid}
use Rattle.machine.specs.Receive.{rec_key, found}
use Rattle.machine_laws.specs.Keys.{key-eq, key-refl}
use Rattle.machine_laws.specs.Rep.{Rep}
use Rattle.machine_laws.specs.Fine.{Fine}
use Rattle.machine_laws.specs.SoundValid.{sound-valid}
use Rattle.machine_writes.specs.InRange.{sound-rep, links}
use Rattle.machine_writes.specs.Links.{RecLink, Links}
use Rattle.machine_writes.specs.Split.{Split, found-split}
use Rattle.machine_writes.specs.Swap.{row_is}
use Rattle.machine_writes.specs.Unheld
use Rattle.machine_steps.proofs.Find.{all_found, find-key}
use Rattle.machine_steps.proofs.Held.{held-fine, held-sized}
use Rattle.machine_steps.proofs.Keys.{distinct-unique}
use Rattle.machine_steps.proofs.Unique.{unique-apart}
use Rattle.records.specs.Seek.{id_in, seek}
use Rattle.records.specs.SoughtLaws.{seek-link}
use Rattle.records.specs.InChainsLaws.{held_found, held_none}
use Rattle.records.specs.HeldAt.{met_at, place_at, row_in, rec_in, key_in, HeldAt, Searched, Reached}

-- a record that is read has the key in its row
pub read-key : (b : List ℕ) (p : ℕ) → rec_key (read_rec b p) ≡ id_in b p
unfolding rec_of
read-key b p = part-part b (rec_off p) rec_bytes id_at id_width (omega arith)

pub read-place : (b : List ℕ) (p : ℕ) → (read_rec b p).place ≡ p
unfolding rec_of
read-place b p = refl

-- records that are read are read from their own places
own-places : (b : List ℕ) (ps : List ℕ) → All (λ (r : Rec). r ≡ read_rec b r.place) (map (read_rec b) ps)
own-places b [] = tt
own-places b (p ∷ ps) = (ap (read_rec b) (sym (read-place b p)), own-places b ps)

-- ---- what is found

module _ (role : ℕ) (b : List ℕ) (y : Bytes b) (t : sound role b ≡ true) where
  pub valid : Valid role (decode b)
  valid = (sound-valid role b y t).0

  pub rep : Rep (decode b) b
  rep = sound-rep role b y t

  module _ (at : ℕ) where
    met-none : get_or b at 0 ≡ 0 → none ≡ met_at b at
    met-none e = rw (eq-eqb (get_or b at 0) 0 e)

    met_some : (r : Rec) → get_or b at 0 ≡ r.place → 0 < r.place → r ≡ read_rec b r.place → some r ≡ met_at b at
    met_some r e n q = rw (ne_eqb (get_or b at 0) 0 (λ z. omega arith)) (ap some (q ∙ ap (read_rec b) (sym e)))

  -- each held record is read from its own place
  held-read : All (λ (r : Rec). r ≡ read_rec b r.place) (decode b).held
  unfolding decode
  held-read = own-places b (rec_chain b (get_or b held_at 0))

  pub held-met : (k : Key) → found k (decode b).held ≡ met_at b (seek k b held_at)
  held-met k = go (found k (decode b).held) refl
    where
      go : (o : Option Rec) → found k (decode b).held ≡ o → o ≡ met_at b (seek k b held_at)
      go none e = met-none (seek k b held_at) (held_none role (decode b) valid b rep k e).leads
      go (some r) e =
          let q = found-split same_key rec_key k r (decode b).held e in
          met_some (seek k b held_at) r (held_found role (decode b) valid b rep k r e q).leads
          (Unheld.within role (decode b) valid b rep q.before r q.behind q.is).0
          (all_found same_key rec_key (λ (x : Rec). x ≡ read_rec b x.place) k r (decode b).held e held-read)

  -- a search that ends at the end of the chain, and one that ends at a link to a record
  pub found_none : (k : Key) (at : ℕ) → at ≡ seek k b held_at → place_at b at ≡ 0 → found k (decode b).held ≡ none
  found_none k at e z = held-met k ∙ ap (met_at b) (sym e) ∙ rw (eq-eqb (get_or b at 0) 0 z)

  pub found_some : (k : Key) (at : ℕ) → at ≡ seek k b held_at → (place_at b at ≡ 0 → ⊥) → found k (decode b).held ≡ some (rec_in b at)
  found_some k at e n = held-met k ∙ ap (met_at b) (sym e) ∙ rw (ne_eqb (get_or b at 0) 0 n)

  pub sought-key : (k : Key) (at : ℕ) → at ≡ seek k b held_at → 0 < place_at b at → key_in b at ≡ k
  sought-key k at e n =
      let f : found k (decode b).held ≡ some (rec_in b at) = found_some k at e (λ z. omega arith) in
      sym (find-key same_key rec_key key-eq key-refl k (rec_in b at) (decode b).held f ∙ read-key b (place_at b at))

  pub sought-held : (k : Key) (at : ℕ) → at ≡ seek k b held_at → 0 < place_at b at → HeldAt role b at
  sought-held k at e n = record { sound = t; some = n; is = e ∙ ap (λ (x : Key). seek x b held_at) (sym (sought-key k at e n)) }

-- a search ends inside the store, and where its link leads to a record, that is a held one
module _ (role : ℕ) (b : List ℕ) (y : Bytes b) (at : ℕ) (h : Searched role b at) where
  pub searched-inside : at < length b
  searched-inside =
      let l = links role b y h.sound in
      omega (arith, l.long, (seek-link h.key b (suc rec_count) held_at l l.held).inside, h.is)

  pub searched-held : (place_at b at ≡ 0 → ⊥) → HeldAt role b at
  searched-held n = sought-held role b y h.sound h.key at h.is (omega (arith, n))

-- ---- the record that a link leads to

module _ (role : ℕ) (b : List ℕ) (y : Bytes b) (at : ℕ) (h : HeldAt role b at) where
  abbrev r : Rec
  r = rec_in b at

  -- it is the one that has its key
  pub held-here : found (key_in b at) (decode b).held ≡ some r
  held-here =
      held-met role b y h.sound (key_in b at) ∙ ap (met_at b) (sym h.is) ∙ rw (ne_eqb (get_or b at 0) 0 (λ z. omega (arith, h.some)))

  pub here-key : rec_key r ≡ key_in b at
  here-key = read-key b (place_at b at)

  pub here-fine : Fine role (held_kind role) r
  here-fine = held-fine role (key_in b at) r (decode b) held-here (valid role b y h.sound)

  pub here-sized : RecSized r
  here-sized = held-sized role (key_in b at) r (decode b) held-here (valid role b y h.sound)

  -- the held records around it
  pub here-split : Split same_key rec_key (key_in b at) r (decode b).held
  here-split = found-split same_key rec_key (key_in b at) r (decode b).held held-here

  pub here-within : (0 < place_at b at) × (place_at b at ≤ rec_count)
  unfolding rec_of
  here-within =
      Unheld.within role (decode b) (valid role b y h.sound) b (rep role b y h.sound) here-split.before r here-split.behind here-split.is

  -- its row
  pub here-row : rec_at b (place_at b at) ≡ rec_row (held_kind (decode b).setup.role) (first (map rec_place here-split.behind)) r
  unfolding rec_of
  here-row = row_is role (decode b) (valid role b y h.sound) b (rep role b y h.sound) here-split.before r here-split.behind here-split.is

  -- ids are unique: no whole record has its key
  pub here-not-whole : found (key_in b at) (decode b).whole ≡ none
  here-not-whole =
      unique-apart same_key rec_key key-eq key-refl (key_in b at) r (decode b).held (decode b).whole
      (distinct-unique ((decode b).held ++ (decode b).whole) (valid role b y h.sound).ids) held-here

  -- links are in range, and so is the one to it
  pub here-links : Links b
  here-links = links role b y h.sound

  pub here-link : RecLink b at
  here-link = subst (RecLink b) (sym h.is) (seek-link (key_in b at) b (suc rec_count) held_at here-links here-links.held)

  pub here-reached : Reached b at
  here-reached =
      record { inside = omega (arith, here-link.inside, here-links.long); some = h.some; small = here-link.small; long = omega (arith, here-links.long) }

-- ---- its fields

module _ (b : List ℕ) (at : ℕ) where
  pub rec-label : (rec_in b at).label ≡ label_of (row_in b at)
  unfolding rec_of
  rec-label = refl

  pub rec-sending : (rec_in b at).sending ≡ sending_of (row_in b at)
  unfolding rec_of
  rec-sending = refl

  pub rec-slots : (rec_in b at).slots ≡ get_or (row_in b at) slots_at 0
  unfolding rec_of
  rec-slots = refl

  pub rec-cells : (rec_in b at).cells ≡ read_cells b (get_or (row_in b at) first_cell_at 0)
  unfolding rec_of
  rec-cells = refl

-- its message is not too long
pub total_short : (role : ℕ) (b : List ℕ) (link t : ℕ) → Bytes b → HeldAt role b link → t ≡ (label_of (row_in b link)).total → t ≤ longest
unfolding rec_of
total_short role b link t y h e = omega (arith, e, (here-fine role b y link h).total)

pub ruleset here = (here-reached, here-links, total_short)
