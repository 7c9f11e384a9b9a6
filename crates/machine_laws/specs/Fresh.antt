-- A fresh store is valid, and setup's lengths are those of fresh stores. Assumes nothing.
use Rattle.std.specs.Prelude.{ℕ, ◌≤◌, ◌<◌, ◌≡◌, refl, true, ◌&&◌, length, eqb, ltb}
use Rattle.std.proofs.Common.{arith, ap, ◌∙◌, append-nil, eqb-true, ltb-true}
use Rattle.octets.specs.BoolsLaws.{cases, split}
use Rattle.machine.specs.Limits.{rec_count, most_cells, store_bytes}
use Rattle.machine.specs.Codes.{role_receive, is_role}
use Rattle.machine.specs.Counting.{occurs, inside, rise}
use Rattle.machine.specs.Layout.{encode}
use Rattle.machine.specs.Sound.{distinct, fresh, room, setup_cells, allowed}
use Rattle.machine.specs.Valid.{Valid}
use Rattle.machine_laws.specs.Counting.{inside_is, rise-once}
use Rattle.machine_laws.specs.Rep.{length-encode}

pub fresh-valid : (role cells : ℕ) → is_role role ≡ true → 1 ≤ cells → cells ≤ most_cells → Valid role (fresh role cells)
unfolding distinct
fresh-valid role cells r a b = record {
  some = a;
  most = b;
  roles = r;
  in_role = refl;
  held = tt;
  whole = tt;
  kinds = cases (eqb role role_receive) (λ e. rw e) (λ e. rw e);
  ids = refl;
  recs = λ k. ap (occurs k) (append-nil (rise 1 rec_count)) ∙ rise-once rec_count k;
  cells = λ k. ap (occurs k) (append-nil (rise 1 cells)) ∙ rise-once cells k;
  sized = tt;
  sources = λ e source. omega arith;
}

-- ---- setup

-- a length that stands for some C is that of a store of C cells, and C is from 1 to 45
pub setup-length : (n : ℕ) → 0 < setup_cells n → (store_bytes (setup_cells n) ≡ n) × (setup_cells n ≤ most_cells)
setup-length n h =
    cases (inside most_cells (room n) && eqb (store_bytes (room n)) n)
    (λ e. let s = split (inside most_cells (room n)) (eqb (store_bytes (room n)) n) e in
    rw e (eqb-true (store_bytes (room n)) n s.1, (inside_is most_cells (room n) s.0).1))
    (λ e. absurd (let z : 0 < 0 = rw e at h in omega arith))

-- what setup makes of allowed bytes: a valid store, as long as they are
pub setup-valid : (n role : ℕ) → allowed n role ≡ true → Valid role (fresh role (setup_cells n)) × (length (encode (fresh role (setup_cells n))) ≡ n)
setup-valid n role h =
    let s = split (ltb 0 (setup_cells n)) (is_role role) h in
    let p : 0 < setup_cells n = ltb-true 0 (setup_cells n) s.0 in
    let l = setup-length n p in
    let v = fresh-valid role (setup_cells n) s.1 p l.1 in
    (v, length-encode role (fresh role (setup_cells n)) v ∙ l.0)
