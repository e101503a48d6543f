-- The feeders that are left to be run.
use Rattle.std.proofs.Common.{◌+◌, ◌*◌, ◌-◌, length}
use Rattle.rv_journal.proofs.feeding.+halves.Given as goal

abbrev pub decreases-run_counted : goal.decreases-run_counted
decreases-run_counted g l = 4 * length l.feeders.now

abbrev pub decreases-run_both : goal.decreases-run_both
decreases-run_both g l = 4 * (length l.low.now + length l.high.now) - 1

abbrev pub decreases-run_both-left : goal.decreases-run_both-left
decreases-run_both-left g l = 4 * length l.low.now + 1

abbrev pub decreases-run_both-right : goal.decreases-run_both-right
decreases-run_both-right g l = 4 * length l.high.now + 1
