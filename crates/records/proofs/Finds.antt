-- What is found in a sound store, in the words of the code. Assumes nothing.
use Prim.Native.Nat.{ℕ, ◌<◌}
use native.Mathlib.Omega.{arith}
use mathlib.Core.Path.{◌≡◌, ap, ◌∙◌}
use mathlib.Core.Bool.{true}
use mathlib.Core.List.{List}
use mathlib.Core.Option.{none, some}
use lib.ListN.{length, get_or}
use lib.Dec.{ltb}
use Rattle.octets.specs.Octets.{Bytes}
use Rattle.machine.specs.Values.{Key}
use Rattle.machine.specs.Find.{is_some}
use Rattle.machine.specs.Layout.{held_at, whole_at, free_at, free_cells_at, decode}
use Rattle.machine.specs.Receive.{found}
use Rattle.machine.specs.Sound.{sound}
use Rattle.machine_writes.specs.InRange.{links}
use Rattle.machine_writes.specs.Links.{Links, RecLink}
use Rattle.records.specs.Seek.{seek}
use Rattle.records.specs.HeldAt.{rec_in, key_in, HeldAt, Reached}
use Rattle.records.specs.EstablishedLaws.{held-inside, whole-inside, whole_is, free-is, free_cells-is}
use Rattle.records.specs.MetLaws.{found_none, found_some, sought-key, sought-held, here-reached}

module _ (role : ℕ) (b : List ℕ) (y : Bytes b) (t : sound role b ≡ true) where
  pub all_links : Links b
  all_links = links role b y t

  pub held_link : Links b × RecLink b held_at
  held_link = (all_links, all_links.held)

  pub whole_link : Links b × RecLink b whole_at
  whole_link = (all_links, all_links.whole)

  -- the bytes of the head are there
  pub long : (o : ℕ) → o < 14 → o < length b
  long o h = omega (arith, all_links.long, h)

  pub free_is : ltb 0 (get_or b free_at 0) ≡ ltb 0 (length (decode b).free)
  free_is = free-is role b y t

  pub free_cells_is : ltb 0 (get_or b free_cells_at 0) ≡ ltb 0 (length (decode b).free_cells)
  free_cells_is = free_cells-is role b y t

  -- a search for the key k ended at `at`
  module _ (k : Key) (at : ℕ) where
    pub whole_inside : at ≡ seek k b whole_at → at < length b
    whole_inside e = rw e (whole-inside role b y t k)

    pub whole_met : at ≡ seek k b whole_at → ltb 0 (get_or b at 0) ≡ is_some (found k (decode b).whole)
    whole_met e = ap (λ (o : ℕ). ltb 0 (get_or b o 0)) e ∙ whole_is role b y t k

    module _ (e : at ≡ seek k b held_at) where
      pub held_inside : at < length b
      held_inside = rw e (held-inside role b y t k)

      pub none_found : get_or b at 0 ≡ 0 → found k (decode b).held ≡ none
      none_found z = found_none role b y t k at e z

      module _ (n : get_or b at 0 ≡ 0 → ⊥) where
        pub some_found : found k (decode b).held ≡ some (rec_in b at)
        some_found = found_some role b y t k at e n

        pub its_key : key_in b at ≡ k
        its_key = sought-key role b y t k at e (omega (arith, n))

        pub is_held : HeldAt role b at
        is_held = sought-held role b y t k at e (omega (arith, n))

        pub reached : Reached b at
        reached = here-reached role b y at is_held

pub ruleset finds = (
  held_link,
  whole_link,
  long,
  free_is,
  free_cells_is,
  whole_inside,
  whole_met,
  held_inside,
  none_found,
  some_found,
  its_key,
  is_held,
  reached,
)
