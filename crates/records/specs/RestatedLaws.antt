-- Another state of a leaving record, from bytes to stores. Assumes nothing.
use Prim.Native.Nat.{ℕ, ◌+◌, ◌≤◌}
use Rattle.std.proofs.Common.{arith, ap, ◌∙◌, subst}
use Rattle.std.specs.Prelude.{◌≡◌, ◌||◌, get_or, eqb}
use Rattle.std.proofs.Math.Path.{refl, sym}
use mathlib.Core.List.{List, [], ◌∷◌}
use Rattle.std.proofs.Math.Option.{Option}
use Rattle.octets.specs.Octets.{put, Bytes}
use Rattle.octets.specs.BoolsLaws.{cases}
use Rattle.octets.specs.PartsLaws.{get_or-part}
use Rattle.machine.specs.Limits.{head_bytes, rec_bytes}
use Rattle.machine.specs.Codes.{role_send, held_kind, state_init, state_in_progress, state_aborted}
use Rattle.machine.specs.Values.{Rec, Store}
use Rattle.machine.specs.Layout.{state_at, timed_out_at, rec_off, rec_row, rec_at, rec_of, encode, decode}
use Rattle.machine.specs.Send.{change_at, change, with_state, timed_out}
use Rattle.machine_laws.specs.Write.{Wrote, write-field}
use Rattle.machine_writes.specs.Encodes
use Rattle.machine_steps.proofs.Change.{changed}
use Rattle.machine_steps.proofs.Remarked.{remarked}
use Rattle.machine_steps.proofs.RemarkedValid.{held_small}
use Rattle.machine_steps.proofs.RemarkedValid.{restated-valid}
use Rattle.records.specs.HeldAt.{place_at, rec_in, key_in, HeldAt}
use Rattle.records.specs.MetLaws.{valid, rep, held-here, here-within}
use Rattle.records.specs.AroundLaws.{next_here, around-row}
use Rattle.records.specs.Restating.{restated, over_state}

-- state and timed-out mark stand side by side in a record's row
rec-restated : (kind next state out : ℕ) (r : Rec) → put (rec_row kind next r) state_at (state ∷ out ∷ []) ≡ rec_row kind next (remarked state out r.cells r)
unfolding put rec_row
rec-restated kind next state out r = refl

module _ (b : List ℕ) (y : Bytes b) (at : ℕ) (h : HeldAt role_send b at) where
  abbrev p : ℕ
  p = place_at b at

  abbrev r : Rec
  r = rec_in b at

  abbrev s : Store
  s = decode b

  -- what the bytes there say
  state-is : get_or b (rec_off p + state_at) 0 ≡ r.sending.state
  unfolding rec_of
  state-is = sym (get_or-part b (rec_off p) rec_bytes state_at (omega arith))

  out-is : get_or b (rec_off p + timed_out_at) 0 ≡ r.sending.timed_out
  unfolding rec_of
  out-is = sym (get_or-part b (rec_off p) rec_bytes timed_out_at (omega arith))

  small : (r.sending.state ≤ state_aborted) × (r.sending.timed_out ≤ 1)
  small = held_small (key_in b at) r s (held-here role_send b y at h) (valid role_send b y h.sound)

  restated-encode : (state out : ℕ) → state ≤ state_aborted → out ≤ 1
      → restated (rec_off p) state out b ≡ encode (changed (remarked state out r.cells r) s.free_cells s)
  unfolding rec_of
  restated-encode state out a o =
      let e = held-here role_send b y at h in
      let i = here-within role_send b y at h in
      let v = valid role_send b y h.sound in
      let next : ℕ = next_here role_send b y at h in
      let kind : ℕ = held_kind s.setup.role in
      let w : Wrote head_bytes rec_bytes p (put (rec_at b p) state_at (state ∷ out ∷ [])) b (restated (rec_off p) state out b) =
      write-field head_bytes rec_bytes p state_at (state ∷ out ∷ []) b i.0 (omega (arith, i.0, i.1, (rep role_send b y h.sound).size)) (omega arith) in
      Encodes.change-encode role_send b y h.sound (key_in b at) r e (remarked state out r.cells r) refl refl (restated (rec_off p) state out b)
      (subst (λ (x : List ℕ). Wrote head_bytes rec_bytes p x b (restated (rec_off p) state out b))
      (ap (λ (x : List ℕ). put x state_at (state ∷ out ∷ [])) (around-row role_send b y at h) ∙ rec-restated kind next state out r) w)
      refl (restated-valid (key_in b at) r s e v state out a o)

  -- a change of the record that the link leads to
  changed-here : (g : Rec → Rec) → changed (g r) s.free_cells s ≡ change g (key_in b at) s
  unfolding change_at
  changed-here g = sym (ap (λ (o : Option Rec). change_at g o s) (held-here role_send b y at h))

  pub state-set : (state row : ℕ) → state ≤ state_aborted → row ≡ rec_off p
      → restated row state (get_or b (row + timed_out_at) 0) b ≡ encode (change (with_state state) (key_in b at) s)
  state-set state row a e =
      (λ i. restated (e i) state (get_or b (e i + timed_out_at) 0) b) ∙ (λ i. restated (rec_off p) state (out-is i) b)
      ∙ restated-encode state r.sending.timed_out a small.1 ∙ ap encode (changed-here (with_state state))

  over-small : over_state r.sending.state ≤ state_aborted
  over-small = cases (eqb r.sending.state state_init || eqb r.sending.state state_in_progress) (λ e. rw e (omega arith)) (λ e. rw e small.0)

  pub time-over : (state row : ℕ) → row ≡ rec_off p → state ≡ over_state (get_or b (row + state_at) 0)
      → restated row state 1 b ≡ encode (change timed_out (key_in b at) s)
  time-over state row e f =
      (λ i. restated (e i) (f i) 1 b) ∙ (λ i. restated (rec_off p) (over_state (get_or b (e i + state_at) 0)) 1 b)
      ∙ (λ i. restated (rec_off p) (over_state (state-is i)) 1 b)
      ∙ restated-encode (over_state r.sending.state) 1 over-small (omega arith) ∙ ap encode (changed-here timed_out)

pub ruleset restates = (state-set, time-over)
