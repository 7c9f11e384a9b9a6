-- The walk along the pieces of a record: what the line becomes of those that are left. Assumes nothing.
use Prim.Native.Nat.{ℕ}
use native.Mathlib.Omega.{arith}
use mathlib.Core.Path.{◌≡◌, refl, sym, ap, ◌∙◌}
use mathlib.Core.Bool.{false, cond}
use mathlib.Core.List.{List, [], ◌∷◌, ◌++◌, append-nil, append_assoc}
use lib.ListN.{length, drop, replicate, length-append, length-take, length-drop}
use Rattle.std.specs.Prelude.{Option, Some, None, take}
use Rattle.std.specs.List.{insert}
use Rattle.std.proofs.lemmas.Option.{cond_some, none-some}
use Rattle.octets.specs.BoolsLaws.{cases}
use Rattle.machine.specs.Values.{Cell}
use Rattle.machine.specs.Layout.{cell_of}
use Rattle.machine.specs.Choice.{only, by_stamp, waiting, most_sent}
use Rattle.machine_steps.proofs.Waiting.{wants}
use Rattle.soundness.specs.declared.pieces.Piece.{Piece}
use Rattle.soundness.specs.Places.{piece_of}
use Rattle.outbox.specs.declared.choice.Turn.{Turn}
use Rattle.outbox.specs.Line.{rank, ranked, turn, put_in, turn_of, line_of}
use Rattle.outbox.specs.LineLaws.{line-more, line-same}

-- the line with those of the pieces that want sending
unfoldable pub lined : ℕ → List (Option Turn) → List Cell → List (Option Turn)
lined clock line [] = line
lined clock line (c ∷ l) = lined clock (cond (wants clock c) (put_in (turn_of c) line) line) l

pub lined_none : (clock : ℕ) (line : List (Option Turn)) → lined clock line [] ≡ line
unfolding lined
lined_none clock line = refl

module _ (clock : ℕ) (line : List (Option Turn)) (p : Piece) (l : List Cell) where
  abbrev c : Cell
  c = piece_of p

  pub lined_in : (r : ℕ) → ranked clock c ≡ Some r → lined clock line (c ∷ l) ≡ lined clock (put_in (record { rank = r; place = p.place }) line) l
  unfolding lined cell_of
  lined_in r e =
      let q = cond_some (wants clock c) (rank c) r e in
      rw q.0 (ap (λ (n : ℕ). lined clock (put_in (record { rank = n; place = p.place }) line) l) q.1)

  pub lined_past : ranked clock c ≡ None → lined clock line (c ∷ l) ≡ lined clock line l
  unfolding lined
  lined_past e =
      let out : wants clock c ≡ false =
      cases (wants clock c) (λ q. let w : ◌≡◌ {A = Option ℕ} (Some (rank c)) None = rw q at e in absurd (none-some (rank c) (sym w))) (λ q. q) in
      rw out refl

-- all of them, behind those that were seen
lined-seen : (clock : ℕ) (seen l : List Cell) → lined clock (line_of (waiting clock seen)) l ≡ line_of (waiting clock (seen ++ l))
unfolding lined
lined-seen clock seen [] = ap (λ (m : List Cell). line_of (waiting clock m)) (sym (append-nil seen))
lined-seen clock seen (c ∷ l) =
    let more = lined-seen clock (seen ++ (c ∷ [])) l ∙ ap (λ (m : List Cell). line_of (waiting clock m)) (append_assoc seen (c ∷ []) l) in
    cases (wants clock c)
    (λ e. rw e (ap (λ (m : List (Option Turn)). lined clock m l) (line-more clock seen c e) ∙ more))
    (λ e. rw e (ap (λ (m : List (Option Turn)). lined clock m l) (line-same clock seen c e) ∙ more))

pub lined_all : (clock : ℕ) (l : List Cell) → lined clock (replicate most_sent None) l ≡ line_of (waiting clock l)
unfolding only by_stamp
lined_all clock l = lined-seen clock [] l

-- a line stays as long as it is
pub put_long : (t : Turn) (line : List (Option Turn)) → length line ≡ most_sent → length (put_in t line) ≡ most_sent
put_long t line long =
    let at : ℕ = turn t.rank line in
    omega (
      arith,
      length-take most_sent (insert line at (Some t)),
      length-append (take at line) (Some t ∷ drop at line),
      length-take at line,
      length-drop at line,
      long,
    )

pub ruleset choosing = (lined_none, lined_in, lined_past, lined_all, put_long)
