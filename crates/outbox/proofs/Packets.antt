-- How long the packets are that are sent of a record. Assumes nothing.
use Rattle.octets.specs.PartsLaws.{put-nil}
use Rattle.packet.specs.LengthsLaws.{length-entry, length-header, length-init, length-done, length-chunk}
use Rattle.blake3.specs.Laws.{length-blake3}

pub ruleset lengths = (length-entry, length-header, length-init, length-done, length-blake3, put-nil)
