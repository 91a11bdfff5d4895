-- What is left to be read grows less. Assumes nothing.
use Rattle.desk.proofs.reading.skip.Given as goal

abbrev pub decreases-loop-left : goal.decreases-loop-left
decreases-loop-left g l = l.left
