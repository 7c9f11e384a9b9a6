-- The held record that a link leads to, between the records before it and behind it: its row and its links, as the laws of the crate links take them.
-- Assumes nothing.
use Rattle.std.specs.Prelude.{ℕ, ◌+◌, ◌≡◌, List, map, get_or}
use Rattle.std.proofs.Common.{arith, sym, ap, ◌∙◌}
use Rattle.octets.specs.Octets.{Bytes}
use Rattle.octets.specs.PartsLaws.{get_or-part}
use Rattle.machine.specs.Limits.{rec_bytes}
use Rattle.machine.specs.Codes.{held_kind}
use Rattle.machine.specs.Values.{Rec, Store, Key, same_key}
use Rattle.machine.specs.Chains.{first}
use Rattle.machine.specs.Layout.{held_at, first_cell_at, rec_off, rec_place, cell_place, rec_row, rec_at, rec_of, decode}
use Rattle.machine.specs.Valid.{RecSized}
use Rattle.machine.specs.Receive.{rec_key}
use Rattle.machine_laws.specs.RecRow.{rec-link, rec-first}
use Rattle.machine_writes.specs.Byte.{first_byte}
use Rattle.machine_writes.specs.Encodes
use Rattle.machine_writes.specs.Split.{Split}
use Rattle.machine_writes.specs.Swap.{row_is}
use Rattle.machine_writes.specs.Unheld.{link_behind}
use Rattle.machine_steps.proofs.Held.{held-own}
use Rattle.records.specs.Seek.{seek}
use Rattle.records.specs.InChainsLaws.{held_found}
use Rattle.records.specs.HeldAt.{place_at, rec_in, key_in, HeldAt}
use Rattle.records.specs.MetLaws.{valid, rep, held-here, here-key, here-sized}

-- links of the row of the record at p
module _ (b : List ℕ) (kind next : ℕ) (r : Rec) (z : RecSized r) (e : rec_at b r.place ≡ rec_row kind next r) where
  pub next-is : get_or b (rec_off r.place) 0 ≡ next
  next-is =
      first_byte b (rec_off r.place) rec_bytes (omega arith) ∙ ap (λ (l : List ℕ). get_or l 0 0) e ∙ rec-link kind next r z

  pub first-is : get_or b (rec_off r.place + first_cell_at) 0 ≡ first (map cell_place r.cells)
  first-is = sym (get_or-part b (rec_off r.place) rec_bytes first_cell_at (omega arith)) ∙ ap (λ (l : List ℕ). get_or l first_cell_at 0) e ∙ rec-first kind next r z

module _ (role : ℕ) (b : List ℕ) (y : Bytes b) (at : ℕ) (h : HeldAt role b at) where
  abbrev r : Rec
  r = rec_in b at

  abbrev s : Store
  s = decode b

  abbrev kind : ℕ
  kind = held_kind s.setup.role

  -- the records around it
  abbrev pub here-around : Split same_key rec_key (rec_key r) r s.held
  here-around = Encodes.around role b y h.sound (key_in b at) r (held-here role b y at h)

  -- the place of the next
  abbrev pub next_here : ℕ
  next_here = first (map rec_place here-around.behind)

  pub around-row : rec_at b r.place ≡ rec_row kind next_here r
  around-row = row_is role s (valid role b y h.sound) b (rep role b y h.sound) here-around.before r here-around.behind here-around.is

  pub around-next : get_or b (rec_off (place_at b at)) 0 ≡ next_here
  unfolding rec_of
  around-next = next-is b kind next_here r (here-sized role b y at h) around-row

  pub around-first : get_or b (rec_off (place_at b at) + first_cell_at) 0 ≡ first (map cell_place r.cells)
  unfolding rec_of
  around-first = first-is b kind next_here r (here-sized role b y at h) around-row

  -- the link to it stands behind the records before it
  pub around-link : at ≡ link_behind kind here-around.before
  around-link =
      h.is ∙ ap (λ (k : Key). seek k b held_at) (sym (here-key role b y at h))
      ∙ (held_found role s (valid role b y h.sound) b (rep role b y h.sound) (rec_key r) r
      (held-own (key_in b at) r s (held-here role b y at h)) here-around).is
