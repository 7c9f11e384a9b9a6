-- Assumes nothing.
use native.Mathlib.Omega.{arith}
use Rattle.std.proofs.Common.{ap, ◌∙◌}
use Rattle.std.proofs.Math.ListN.{length}
use Rattle.machine.specs.Layout.{rec_of}
use Rattle.inbox.specs.OldestLaws.{oldest-head}
use Rattle.inbox.proofs.take.Whole.put_read.Goals as goal

pub put_header-requires-clause-room : goal.put_header-requires-clause-room
put_header-requires-clause-room c =
    let w = c.args.self in
    let h = oldest-head _ w.row.octets w.oldest in
    record {
      source = ap length c.destination.ensures ∙ rw w.first h.destination.0;
      target = ap length c.source.ensures ∙ rw w.first h.source.0;
      fits = omega (arith, c.requires);
    }

pub put_header-requires-clause-id_len : goal.put_header-requires-clause-id_len
put_header-requires-clause-id_len c = let w = c.args.self in ap length c.id.ensures ∙ rw w.first (oldest-head _ w.row.octets w.oldest).id.0

pub returns : goal.returns
unfolding rec_of
returns c = rw (c.destination.ensures, c.source.ensures, c.id.ensures) at c.put_header.ensures
