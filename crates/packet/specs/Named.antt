-- Ids and addresses of a label have their widths.
use Rattle.std.specs.Prelude.{◌≡◌, length}
use Rattle.octets.specs.Octets.{Bytes}
use Rattle.packet.specs.Frame.{id_size, address_size}
use Rattle.packet.specs.declared.label.Label.{Label}

pub record Named (l : Label) : Type 0 where
  pub id : (length l.id ≡ id_size) × Bytes l.id
  pub source : (length l.source ≡ address_size) × Bytes l.source
  pub destination : (length l.destination ≡ address_size) × Bytes l.destination
