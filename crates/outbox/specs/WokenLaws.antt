-- The ways of a send wake, each with what it sends and what the store is then. Assumes nothing.
use Rattle.std.specs.Prelude.{ℕ, ◌≡◌, refl, true, take, eqb}
use Rattle.std.proofs.Common.{arith, ◌∙◌}
use Rattle.std.proofs.Math.Path.{sym, ap}
use Rattle.std.proofs.Math.Bool.{false}
use mathlib.Core.List.{List, [], append-nil}
use Rattle.std.proofs.Math.ListN.{length}
use borrow.Author.Tests.{eq-eqb, ne_eqb}
use Rattle.octets.specs.BoolsLaws.{cases}
use Rattle.octets.specs.PartsLaws.{put-nil}
use Rattle.machine.specs.Codes.{state_init, state_in_progress}
use Rattle.machine.specs.Values.{Cell, Rec, Store}
use Rattle.machine.specs.Layout.{encode, decode}
use Rattle.machine.specs.Receive.{replaced}
use Rattle.machine.specs.Choice.{most_sent, chosen}
use Rattle.machine.specs.Send.{with_held, with_cells, change_at, change, with_stamps, sends_pieces, sent_pieces, all_acked, init_out, done_out, chunks_out, wake_out, woken}
use Rattle.machine_steps.proofs.Waiting.{acked-waits}
use Rattle.machine_steps.proofs.Stamps.{stamped-none}
use Rattle.records.specs.HeldAt.{rec_in, key_in}
use Rattle.outbox.specs.Leaves.{Here}
use Rattle.outbox.specs.Sending.{Starts, Wakes, progress_out}
use Rattle.outbox.specs.PartlyLaws.{change-is, unchanged}

-- nothing is sent
pub nothing : {run : List ℕ} → Starts [] run 0 run
nothing {run} = record { ends = refl; out = sym (put-nil run 0) }

-- the same store, packets and pieces, said otherwise
pub alike : {s z : Store} {sent put run b' run' : List ℕ} {those these : List Cell} {n k : ℕ} → z ≡ s → put ≡ sent → these ≡ those
    → Wakes z put these run n k b' run' → Wakes s sent those run n k b' run'
alike e q p w = rw (← e, ← q, ← p) w

module _ {b : List ℕ} {link : ℕ} (h : Here b link) where
  abbrev r : Rec
  r = rec_in b link

  abbrev to : (Rec → Rec) → Store
  to f = change f (key_in b link) (decode b)

  -- two changes that make the same of the record
  change-alike : (f g : Rec → Rec) → f r ≡ g r → to f ≡ to g
  unfolding change_at
  change-alike f g e = change-is h f ∙ ap (λ (q : Rec). with_held (replaced q (decode b).held) (decode b)) e ∙ sym (change-is h g)

  -- the record stays, and no piece is sent
  stays : (f : Rec → Rec) {sent put run out : List ℕ} {those : List Cell} {n : ℕ} → f r ≡ r → sent ≡ put → those ≡ [] → Starts put run n out
      → Wakes (to f) sent those run n 0 b out
  unfolding change_at
  stays f e q p w = record {
    starts = rw q w;
    counts = ap length (sym p);
    store = sym (ap encode (change-alike f (λ x. x) e ∙ change-is h (λ x. x)) ∙ unchanged h);
  }

  -- nothing is stamped where nothing is sent
  unstamped : (clock : ℕ) (those : List Cell) → those ≡ [] → with_stamps clock those r ≡ r
  unstamped clock those e =
      ap (λ (l : List Cell). with_stamps clock l r) e ∙ ap (λ (l : List Cell). with_cells l r) (stamped-none clock r.cells)

  module _ (clock : ℕ) where
    abbrev those : List Cell
    those = chosen clock r.cells

    -- ---- in progress

    pub progress_done : {run out : List ℕ} {n : ℕ} → all_acked r.cells ≡ true → Starts (done_out r) run n out
        → Wakes (to (with_stamps clock those)) (progress_out clock r) those run n 0 b out
    unfolding chunks_out
    progress_done a w =
        let none : those ≡ [] = ap (take most_sent) (acked-waits clock r.cells a) in
        stays (with_stamps clock those) (unstamped clock those none) (rw (a, none)) none w

    pub progress-due : all_acked r.cells ≡ false → chunks_out r.label those ≡ progress_out clock r
    progress-due a = sym (rw a (append-nil (chunks_out r.label those)))

    pub progress_due : {run out b' : List ℕ} {n k : ℕ} → all_acked r.cells ≡ false
        → Wakes (to (with_stamps clock those)) (chunks_out r.label those) those run n k b' out
        → Wakes (to (with_stamps clock those)) (progress_out clock r) those run n k b' out
    progress_due a w = alike refl (progress-due a) refl w

    -- ---- by the mark and the state

    abbrev Woken : List ℕ → ℕ → ℕ → List ℕ → List ℕ → Type 0
    Woken run n k b' out = Wakes (to (woken clock)) (wake_out clock r) (sent_pieces clock r) run n k b' out

    -- no piece is sent
    idle : sends_pieces r ≡ false → sent_pieces clock r ≡ []
    unfolding sent_pieces
    idle e = rw e

    active : sends_pieces r ≡ true → sent_pieces clock r ≡ those
    unfolding sent_pieces
    active e = rw e

    rests : {put run out : List ℕ} {n : ℕ} → sends_pieces r ≡ false → wake_out clock r ≡ put → Starts put run n out → Woken run n 0 b out
    unfolding woken
    rests e q w = stays (woken clock) (unstamped clock (sent_pieces clock r) (idle e)) q (idle e) w

    pub woke_late : {run : List ℕ} → eqb r.sending.timed_out 1 ≡ true → Woken run 0 0 b run
    unfolding wake_out
    woke_late q = rests (cases (eqb r.sending.state state_in_progress) (λ z. rw (z, q)) (λ z. rw z)) (rw q) nothing

    module _ (unmarked : eqb r.sending.timed_out 1 ≡ false) where
      is : (n : ℕ) → r.sending.state ≡ n → eqb r.sending.state n ≡ true
      is n z = eq-eqb _ _ z

      is-not : (n : ℕ) → (r.sending.state ≡ n → ⊥) → eqb r.sending.state n ≡ false
      is-not n z = ne_eqb _ _ z

      pub woke_init : {run out : List ℕ} {n : ℕ} → r.sending.state ≡ state_init → Starts (init_out r.label) run n out → Woken run n 0 b out
      unfolding wake_out chunks_out
      woke_init z w =
          let g : sends_pieces r ≡ false = rw (is-not state_in_progress (λ y. omega arith)) in
          rests g (rw (unmarked, idle g, is state_init z)) w

      pub woke_progress : {run b' out : List ℕ} {n k : ℕ} → r.sending.state ≡ state_in_progress
          → Wakes (to (with_stamps clock those)) (progress_out clock r) those run n k b' out → Woken run n k b' out
      unfolding wake_out woken
      woke_progress z w =
          let p = is state_in_progress z in
          let all = active (rw (p, unmarked)) in
          alike (change-alike (with_stamps clock those) (woken clock) (ap (λ (l : List Cell). with_stamps clock l r) (sym all)))
          (sym (rw (unmarked, is-not state_init (λ y. omega arith), p, all))) (sym all) w

      pub woke_settled : {run : List ℕ} → (r.sending.state ≡ state_init → ⊥) → (r.sending.state ≡ state_in_progress → ⊥) → Woken run 0 0 b run
      unfolding wake_out chunks_out
      woke_settled i p =
          let q = is-not state_in_progress p in
          let g : sends_pieces r ≡ false = rw q in
          rests g (rw (unmarked, idle g, is-not state_init i, q)) nothing
