-- Which pieces of a record a send wake sends, and in which order: PROTOCOL, "The tablet". A record's pieces stand by rising index.
use Rattle.std.specs.Prelude.{ℕ, ◌+◌, Bool, false, cond, ◌&&◌, ◌||◌, List, [], ◌∷◌, ◌++◌, take, eqb, leb}
use Rattle.machine.specs.Limits.{resend_after}
use Rattle.machine.specs.Codes.{piece_started, piece_sent}
use Rattle.machine.specs.Values.{Cell}

abbrev pub is_started : Cell → Bool
is_started c = eqb c.state piece_started

-- "Sent with now − stamp ≥ 100 ms; a clock gone back means not due"
abbrev pub is_due : ℕ → Cell → Bool
is_due clock c = eqb c.state piece_sent && leb (c.stamp + resend_after) clock

-- the pieces that pass a test, in their order
unfoldable pub only : (Cell → Bool) → List Cell → List Cell
only f [] = []
only f (c ∷ l) = cond (f c) (c ∷ only f l) (only f l)

-- "by oldest stamp, equal stamps by index": before the first piece whose stamp is not older
unfoldable pub insert : Cell → List Cell → List Cell
insert c [] = c ∷ []
insert c (d ∷ l) = cond (leb c.stamp d.stamp) (c ∷ d ∷ l) (d ∷ insert c l)

unfoldable pub by_stamp : List Cell → List Cell
by_stamp [] = []
by_stamp (c ∷ l) = insert c (by_stamp l)

-- the pieces that want sending: "Started ones by index, then due ones by oldest stamp, equal stamps by index"
abbrev pub waiting : ℕ → List Cell → List Cell
waiting clock l = only is_started l ++ by_stamp (only (is_due clock) l)

-- "the first eight piece packets, or all if fewer"
abbrev pub most_sent : ℕ
most_sent = 8

abbrev pub chosen : ℕ → List Cell → List Cell
chosen clock l = take most_sent (waiting clock l)

-- one of some pieces has an index
abbrev pub among : List Cell → ℕ → Bool
among [] i = false
among (c ∷ l) i = eqb i c.index || among l i
