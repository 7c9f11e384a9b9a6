-- The measure is how many units are left. Assumes nothing.
use Rattle.cutter.proofs.lines.+put_cuts.Given as goal

abbrev pub decreases-put_cuts : goal.decreases-put_cuts
decreases-put_cuts l = l.left
