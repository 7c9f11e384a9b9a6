-- The record that a `Leaving` leads to, and its label as packets carry it.
use Rattle.std.specs.Prelude.{◌≡◌, eqb}
use Rattle.packet.specs.declared.label.Label as carried
use Rattle.packet.specs.Named.{Named}
use Rattle.machine.specs.Values.{Label, Rec}
use Rattle.records.specs.HeldAt.{rec_in}
use Rattle.outbox.specs.declared.record.Leaving.{Leaving}

abbrev pub record_of : Leaving → Rec
record_of r = rec_in r.held.row.store.now r.held.row.link

-- a label as packets carry it says what the record's says, all but the topic
pub record Carries (l : carried.Label) (h : Label) : Type 0 where
  pub named : Named l
  pub id : l.id ≡ h.id
  pub source : l.source ≡ h.source
  pub destination : l.destination ≡ h.destination
  pub reply : l.reply ≡ eqb h.reply 1
  pub total : l.total ≡ h.total
