-- The tests of a piece's row, one behind the other. Assumes nothing.
use borrow.Author.Tests.{le-leb, lt-leb}
use Rattle.rows.specs.Asked.{piece_fits}
use Rattle.rows.proofs.cell.fits.Goals as goal

pub returns-then-n-gt-LARGEST : goal.returns-then-n-gt-LARGEST
unfolding piece_fits
returns-then-n-gt-LARGEST c = rw (← c.size-n.ensures.0, lt-leb _ 1364 c.if-n-gt-LARGEST.true)

pub returns : goal.returns
unfolding piece_fits
returns c =
    let zeros = c in
    let size = zeros.size-n in
    rw (zeros.zero_part-gap.ensures, c.ends-rest.ensures, c.sending_fits-sending.ensures, ← size.ensures.0, le-leb _ 1364 zeros.if-n-gt-LARGEST.false)
