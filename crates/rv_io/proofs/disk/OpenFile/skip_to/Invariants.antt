-- What is left to skip shrinks.
use Rattle.rv_io.proofs.disk.OpenFile.skip_to.Given as goal

abbrev pub decreases-loop-left : goal.decreases-loop-left
decreases-loop-left g l = l.left
