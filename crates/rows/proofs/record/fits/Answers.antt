-- The tests of a record's row, one behind the other. Assumes nothing.
use mathlib.Core.Path.{sym}
use mathlib.Core.Bool.{and-false}
use borrow.Author.Tests.{lt-leb}
use Rattle.rows.specs.Asked.{record_fits}
use Rattle.rows.proofs.Laws.{record_is}
use Rattle.rows.proofs.record.fits.Goals as goal

pub returns-then-length-gt-LONGEST : goal.returns-then-length-gt-LONGEST
unfolding record_fits
returns-then-length-gt-LONGEST c = rw (← c.read-length.ensures.0, lt-leb _ 32500 c.if-length-gt-LONGEST.true) (sym (simp and-false))

pub returns : goal.returns
returns c =
    let b6 = c in
    let c10 = b6 in
    let b11 = c10 in
    rw (
      c.from-2.ensures,
      b6.ends-rest.ensures,
      b6.from-past.ensures,
      b6.sending_fits-sending.ensures,
      c.slots_fit-slots.ensures,
      c.from.ensures,
    ) (record_is _ _ _ _ b11.read-length.ensures.0 c10.if-length-gt-LONGEST.false)
