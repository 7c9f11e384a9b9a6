-- The spot of a piece of a held record. Assumes nothing.
use Prim.Native.Nat.{ℕ}
use mathlib.Core.Path.{◌≡◌, ap, ◌∙◌}
use mathlib.Core.Bool.{Bool}
use mathlib.Core.List.{List}
use Rattle.octets.specs.Octets.{Bytes}
use Rattle.machine.specs.Find.{is_some}
use Rattle.machine.specs.Pieces.{piece_at}
use Rattle.machine_writes.specs.Links.{Links}
use Rattle.records.specs.HeldAt.{place_at, rec_in, HeldAt}
use Rattle.pieces.specs.InPlace.{first_link, spot_from, holds_index, LinkIn, Spot}
use Rattle.pieces.specs.OfHeldLaws.{here-links, here-first, here-some}
use Rattle.pieces.proofs.Walks.{steps}

module _ (role : ℕ) (b : List ℕ) (link : ℕ) (y : Bytes b) (h : HeldAt role b link) where
  pub links_here : Links b
  links_here = here-links role b y link h

  pub first_in : {first : ℕ} → first ≡ first_link (place_at b link) → LinkIn b first
  first_in e = rw e (here-first role b y link h)

  -- a search from the record's first link ends there
  pub spot_here : {first at i : ℕ} → first ≡ first_link (place_at b link) → at ≡ spot_from b steps first i → LinkIn b at → Spot b (place_at b link) i at
  spot_here {i = i} e f l = record { is = f ∙ ap (λ (o : ℕ). spot_from b steps o i) e; link = l }

  -- whether it leads to a piece of that index
  pub taken : {at i : ℕ} {t : Bool} → Spot b (place_at b link) i at → t ≡ holds_index b at i → t ≡ is_some (piece_at i (rec_in b link).cells)
  taken {i = i} s e = e ∙ ap (λ (o : ℕ). holds_index b o i) s.is ∙ here-some role b y link h i

pub ruleset spots = (links_here, first_in, spot_here, taken)
