-- "A fresh receiver of at least 12 cells, with open topic and known source key, makes a whole message of each": of the calls, for every sequence of the
-- list and whatever the pieces hold. Assumes nothing.
use Rattle.std.specs.Prelude.{ℕ, ◌*◌, ◌≤◌, ◌<◌, ◌≡◌, true, List, map, length}
use Rattle.std.proofs.Common.{arith}
use Rattle.octets.specs.Octets.{capacity, Bytes}
use Rattle.octets.specs.Lists.{All}
use Rattle.octets.specs.ListsLaws.{all-to}
use Rattle.machine.specs.Limits.{most_cells}
use Rattle.machine.specs.Layout.{number_limit}
use Rattle.machine.specs.Packet.{packet_room}
use Rattle.kept.specs.Survey.{Sender, Open, MadeWhole}
use Rattle.kept.proofs.ExactlyLaws.{kept_whole}
use Rattle.cutter.specs.Cuts.{unit, is_cut, most_units, cuts}
use Rattle.cutter.proofs.KeptLaws.{cut-kept, all-cuts}

-- the length of a cut can be written
short-number : (n : ℕ) → n ≤ most_units → unit * n < number_limit
unfolding capacity
short-number n h = omega arith

pub cuts-whole : (t : Sender) → Open t → (cells d : ℕ) → most_units ≤ cells → cells ≤ most_cells → 1 ≤ d → d ≤ most_cells
    → (out : List ℕ) → packet_room ≤ length out → (n : ℕ) → 1 ≤ n → n ≤ most_units
    → All (λ l. (pieces : List (List ℕ)) → All Bytes pieces → map length pieces ≡ l → MadeWhole t cells d (unit * n) pieces out) (cuts n)
cuts-whole t o cells d a b e f out room n g h =
    all-to (λ l. is_cut (unit * n) l ≡ true)
    (λ l. (pieces : List (List ℕ)) → All Bytes pieces → map length pieces ≡ l → MadeWhole t cells d (unit * n) pieces out) (cuts n)
    (λ l c pieces y q. kept_whole t o cells d (omega arith) b e f out room (unit * n) (short-number n h) pieces y (rw q (cut-kept n cells l g h a c)))
    (all-cuts n)
