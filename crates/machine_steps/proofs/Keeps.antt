-- What a step has to show so that it leads from a valid store to a valid store. Assumes nothing.
use Rattle.std.specs.Prelude.{ℕ, ◌≤◌, ◌≡◌, true, ◌||◌, List, ◌++◌, eqb}
use Rattle.std.proofs.Common.{arith, ap, ◌∙◌}
use Rattle.octets.specs.Lists.{All}
use Rattle.machine.specs.Limits.{most_of_source}
use Rattle.machine.specs.Codes.{role_receive, held_kind, kind_whole}
use Rattle.machine.specs.Values.{Rec, Store, Setup, same_key}
use Rattle.machine.specs.Sound.{rec_fits, no_rec}
use Rattle.machine.specs.Valid.{RecSized, Valid}
use Rattle.machine.specs.Receive.{rec_key}
use Rattle.machine_steps.proofs.Unique.{Unique}
use Rattle.machine_steps.proofs.Keys.{unique-distinct}
use Rattle.machine_steps.proofs.Counts.{among_recs, among_cells, from_source, occurs-recs, occurs-cells, held-from}

-- a record fits its chain
abbrev pub Fits : ℕ → ℕ → Rec → Type 0
Fits role kind r = rec_fits role kind r ≡ true

-- from s to t: each place counts as often as before, the records fit, and no source holds too much
pub record Keeps (role : ℕ) (s t : Store) : Type 0 where
  pub setup : t.setup ≡ s.setup
  pub held : All (Fits role (held_kind role)) t.held
  pub whole : All (Fits role kind_whole) t.whole
  pub kinds : (eqb role role_receive || no_rec t.whole) ≡ true
  pub recs : (k : ℕ) → among_recs k t ≡ among_recs k s
  pub cells : (k : ℕ) → among_cells k t ≡ among_cells k s
  pub ids : Unique same_key rec_key (t.held ++ t.whole)
  pub sized : All RecSized (t.held ++ t.whole)
  pub sources : role ≡ role_receive → (a : List ℕ) → from_source a t ≤ most_of_source

pub keeps-valid : (role : ℕ) (s t : Store) → Keeps role s t → Valid role s → Valid role t
keeps-valid role s t c v =
    let n : t.setup.cells ≡ s.setup.cells = ap (λ (x : Setup). x.cells) c.setup in
    record {
      some = rw n v.some;
      most = rw n v.most;
      roles = v.roles;
      in_role = ap (λ (x : Setup). x.role) c.setup ∙ v.in_role;
      held = c.held;
      whole = c.whole;
      kinds = c.kinds;
      recs = λ k. omega (arith, v.recs k, c.recs k, occurs-recs k s, occurs-recs k t);
      cells = λ k. rw n (omega (arith, v.cells k, c.cells k, occurs-cells k s, occurs-cells k t));
      ids = unique-distinct (t.held ++ t.whole) c.ids;
      sized = c.sized;
      sources = λ o a. omega (arith, c.sources o a, held-from a t);
    }
