-- The wake that sends eight and the wake that sends all, as it was before: where at most eight pieces want sending the record becomes the same, and the
-- run is the same where all of those are Started, or all are Sent with one stamp. Assumes nothing.
use Rattle.std.specs.Prelude.{ℕ, suc, ◌≤◌, ◌<◌, ◌≡◌, refl, Bool, true, false, cond, List, [], ◌∷◌, ◌++◌, map, eqb, ltb}
use Rattle.std.proofs.Common.{arith, ap, ◌∙◌, append-nil, take_all, eqb-true, eq-eqb, ne_eqb, le-leb}
use Rattle.octets.specs.Bools.{one}
use Rattle.octets.specs.BoolsLaws.{cases}
use Rattle.octets.specs.Lists.{All}
use Rattle.octets.specs.ListsLaws.{all-to}
use Rattle.machine.specs.Codes.{state_init, state_in_progress, piece_sent}
use Rattle.machine.specs.Values.{Cell, Rec}
use Rattle.machine.specs.Counting.{total}
use Rattle.machine.specs.Sound.{rising}
use Rattle.machine.specs.Choice.{is_started, is_due, only, insert, by_stamp, waiting, most_sent, chosen, among}
use Rattle.machine.specs.Send.{marked, with_cells, stamped, sent_pieces, chunks_out, init_out, done_out, all_acked, wake_out, woken}
use Rattle.machine_steps.proofs.Totals.{occurs-total}
use Rattle.machine_steps.proofs.Pieces.{rising-parts}
use Rattle.machine_steps.proofs.Waiting.{wants, index_of, only-all, gives, total-waiting, wanting, waiting-length}
use Rattle.machine_steps.proofs.Stamps.{among-times, stamped-none}

-- ---- the wake that sends all

-- each piece that wants sending is stamped
abbrev pub former_stamped : ℕ → Cell → Cell
former_stamped clock c = cond (wants clock c) (marked c clock piece_sent) c

unfoldable pub former_woken : ℕ → Rec → Rec
former_woken clock r =
    cond (eqb r.sending.timed_out 1) r
    (cond (eqb r.sending.state state_in_progress) (with_cells (map (former_stamped clock) r.cells) r) r)

-- .. and sent, in index order
abbrev pub former_progress : ℕ → Rec → List ℕ
former_progress clock r = chunks_out r.label (only (wants clock) r.cells) ++ cond (all_acked r.cells) (done_out r) []

unfoldable pub former_out : ℕ → Rec → List ℕ
former_out clock r =
    cond (eqb r.sending.timed_out 1) []
    (cond (eqb r.sending.state state_init) (init_out r.label)
    (cond (eqb r.sending.state state_in_progress) (former_progress clock r) []))

-- ---- which are stamped

-- of those that pass a test, how many have an index
abbrev has : (Cell → Bool) → ℕ → Cell → ℕ
has t i c = gives (λ (c : Cell). one (eqb i c.index)) t c

above : (t : Cell → Bool) (i low high : ℕ) (l : List Cell) → i < low → rising low high l ≡ true → total (has t i) l ≡ 0
above t i low high [] a h = refl
above t i low high (c ∷ l) a h =
    let r = rising-parts low high c l h in
    let rest = above t i (suc c.index) high l (omega (arith, r.0)) r.2 in
    rw (ne_eqb i c.index (λ e. omega (arith, r.0))) (cases (t c) (λ e. rw e (omega (arith, rest))) (λ e. rw e (omega (arith, rest))))

-- indices rise: at the index of a piece there is that piece
own : (t : Cell → Bool) (low high : ℕ) (l : List Cell) → rising low high l ≡ true
    → All (λ (c : Cell). (low ≤ c.index) × (total (has t c.index) l ≡ one (t c))) l
own t low high [] h = tt
own t low high (a ∷ l) h =
    let r = rising-parts low high a l h in
    let rest = above t a.index (suc a.index) high l (omega arith) r.2 in (
      (r.0, rw (eq-eqb a.index a.index refl) (cases (t a) (λ e. rw e (omega (arith, rest))) (λ e. rw e (omega (arith, rest))))),
      all-to (λ (c : Cell). (suc a.index ≤ c.index) × (total (has t c.index) l ≡ one (t c)))
          (λ (c : Cell). (low ≤ c.index) × (total (has t c.index) (a ∷ l) ≡ one (t c))) l
          (λ c k. (
            omega (arith, k.0, r.0),
            rw (ne_eqb c.index a.index (λ e. omega (arith, k.0)))
                (cases (t a) (λ e. rw e (omega (arith, k.1))) (λ e. rw e (omega (arith, k.1)))),
          )) (own t (suc a.index) high l r.2),
    )

map_same : (f g : Cell → Cell) (l : List Cell) → All (λ (c : Cell). f c ≡ g c) l → map f l ≡ map g l
map_same f g [] h = refl
map_same f g (c ∷ l) h = λ i. h.0 i ∷ map_same f g l h.1 i

few : (clock : ℕ) (l : List Cell) → wanting clock l ≤ most_sent → chosen clock l ≡ waiting clock l
few clock l n = take_all most_sent (waiting clock l) (omega (arith, n, waiting-length clock l))

few-stamped : (clock low high : ℕ) (l : List Cell) → rising low high l ≡ true → wanting clock l ≤ most_sent
    → map (stamped clock (chosen clock l)) l ≡ map (former_stamped clock) l
few-stamped clock low high l h n =
    rw (few clock l n)
    (map_same (stamped clock (waiting clock l)) (former_stamped clock) l
    (all-to (λ (c : Cell). (low ≤ c.index) × (total (has (wants clock) c.index) l ≡ one (wants clock c)))
    (λ (c : Cell). stamped clock (waiting clock l) c ≡ former_stamped clock c) l
    (λ c k. let e : among (waiting clock l) c.index ≡ wants clock c =
    among-times (waiting clock l) c.index
    ∙ ap (ltb 0) (occurs-total index_of c.index (waiting clock l) ∙ total-waiting (λ (a : Cell). one (eqb c.index a.index)) clock l ∙ k.1)
    ∙ back (wants clock c) in
    ap (λ (x : Bool). cond x (marked c clock piece_sent) c) e) (own (wants clock) low high l h)))
  where
    back : (x : Bool) → ltb 0 (one x) ≡ x
    back x = cases x (λ e. rw e refl) (λ e. rw e refl)

-- the record: where at most eight pieces want sending, it becomes what it became
pub same_store : (clock low high : ℕ) (r : Rec) → rising low high r.cells ≡ true → wanting clock r.cells ≤ most_sent
    → woken clock r ≡ former_woken clock r
unfolding woken former_woken sent_pieces
same_store clock low high r h n =
    cases (eqb r.sending.timed_out 1)
    (λ a. rw a (cases (eqb r.sending.state state_in_progress) (λ b. rw b (none r)) (λ b. rw b (none r))))
    (λ a. cases (eqb r.sending.state state_in_progress)
    (λ b. rw (a, b) (ap (λ (l : List Cell). with_cells l r) (few-stamped clock low high r.cells h n)))
    (λ b. rw (a, b) (none r)))
  where
    none : (r : Rec) → with_cells (map (stamped clock []) r.cells) r ≡ r
    none r = ap (λ (l : List Cell). with_cells l r) (stamped-none clock r.cells)

-- ---- what is sent

-- all that want sending are Started, or all are Sent with one stamp
pub data Alike (clock : ℕ) (l : List Cell) : Type 0 where
  started : All (λ (c : Cell). is_due clock c ≡ false) l → Alike clock l
  sent : (stamp : ℕ) → All (λ (c : Cell). (is_started c ≡ false) × (is_due clock c ≡ true → c.stamp ≡ stamp)) l → Alike clock l

none-due : (clock : ℕ) (l : List Cell) → All (λ (c : Cell). is_due clock c ≡ false) l
    → (only (is_due clock) l ≡ []) × (only is_started l ≡ only (wants clock) l)
unfolding only
none-due clock [] h = (refl, refl)
none-due clock (c ∷ l) h =
    let rest = none-due clock l h.1 in
    (rw h.0 rest.0, cases (is_started c) (λ e. rw e (ap (λ (x : List Cell). c ∷ x) rest.1)) (λ e. rw (e, h.0) rest.1))

none-started : (clock : ℕ) (l : List Cell) → All (λ (c : Cell). is_started c ≡ false) l
    → (only is_started l ≡ []) × (only (is_due clock) l ≡ only (wants clock) l)
unfolding only
none-started clock [] h = (refl, refl)
none-started clock (c ∷ l) h =
    let rest = none-started clock l h.1 in
    (rw h.0 rest.0, rw h.0 (cases (is_due clock c) (λ e. rw e (ap (λ (x : List Cell). c ∷ x) rest.1)) (λ e. rw e rest.1)))

-- pieces of one stamp stay in their order
sorted-same : (stamp : ℕ) (l : List Cell) → All (λ (c : Cell). c.stamp ≡ stamp) l → by_stamp l ≡ l
unfolding by_stamp insert
sorted-same stamp [] h = refl
sorted-same stamp (c ∷ l) h = ap (insert c) (sorted-same stamp l h.1) ∙ first l h.1
  where
    first : (l : List Cell) → All (λ (c : Cell). c.stamp ≡ stamp) l → insert c l ≡ c ∷ l
    first [] k = refl
    first (d ∷ l) k = rw (le-leb c.stamp d.stamp (omega (arith, h.0, k.0)))

alike-waiting : (clock : ℕ) (l : List Cell) → Alike clock l → waiting clock l ≡ only (wants clock) l
unfolding by_stamp
alike-waiting clock l (started h) =
    let n = none-due clock l h in
    ap (λ (x : List Cell). only is_started l ++ by_stamp x) n.0 ∙ append-nil (only is_started l) ∙ n.1
alike-waiting clock l (sent stamp h) =
    let n = none-started clock l (all-to _ (λ (c : Cell). is_started c ≡ false) l (λ c k. k.0) h) in
    let same = only-all (λ (c : Cell). c.stamp ≡ stamp) (is_due clock) l (all-to _ (λ (c : Cell). is_due clock c ≡ true → c.stamp ≡ stamp) l (λ c k. k.1) h) in
    ap (λ (x : List Cell). x ++ by_stamp (only (is_due clock) l)) n.0 ∙ sorted-same stamp (only (is_due clock) l) same ∙ n.1

-- the run: where at most eight such pieces want sending, it is what it was
pub same-run : (clock : ℕ) (r : Rec) → Alike clock r.cells → wanting clock r.cells ≤ most_sent → wake_out clock r ≡ former_out clock r
unfolding wake_out former_out sent_pieces chunks_out
same-run clock r a n =
    let all : chosen clock r.cells ≡ only (wants clock) r.cells = few clock r.cells n ∙ alike-waiting clock r.cells a in
    cases (eqb r.sending.timed_out 1)
    (λ e. rw e)
    (λ e. cases (eqb r.sending.state state_init)
    (λ i. let z = eqb-true r.sending.state state_init i in rw (e, i, ne_eqb r.sending.state state_in_progress (λ q. omega arith)))
    (λ i. cases (eqb r.sending.state state_in_progress) (λ p. rw (e, i, p, all)) (λ p. rw (e, i, p))))
