use Rattle.std.proofs.Common.{length}
use Rattle.test_cases.proofs.monitor.files_of.Given as goal

abbrev pub decreases-loop-name : goal.decreases-loop-name
decreases-loop-name g l = length l.names
