-- Assumes nothing.
use Rattle.machine.specs.Codes.{role_receive}
use Rattle.records.specs.MetLaws.{here-links}
use Rattle.records.proofs.finish.whole_end.Goals as goal

pub invariant_of-first : goal.invariant_of-first
invariant_of-first c =
    let h = c.args.held in
    let l = here-links role_receive _ h.row.octets _ h.held in
    record { links = l; inside = l.whole }
