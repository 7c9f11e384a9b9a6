-- A record that leaves, where a link leads to it: what the code may read there.
use Rattle.std.specs.Prelude.{ℕ, ◌≤◌, ◌≡◌, List, length}
use Rattle.octets.specs.Octets.{Bytes}
use Rattle.machine.specs.Limits.{longest}
use Rattle.machine.specs.Codes.{role_send}
use Rattle.machine.specs.Sound.{sizes}
use Rattle.machine.specs.Valid.{LabelSized}
use Rattle.records.specs.HeldAt.{rec_in, HeldAt}

-- the link at byte `link` leads to a held record, whose fields have their widths; it is complete and not too long
pub record Here (b : List ℕ) (link : ℕ) : Type 0 where
  pub bytes : Bytes b
  pub held : HeldAt role_send b link
  pub sized : LabelSized (rec_in b link).label
  pub counted : length (rec_in b link).cells ≡ (rec_in b link).slots
  pub whole : sizes (rec_in b link).cells ≤ longest
