use Rattle.rv_reference.proofs.PhaseLemmas.{RowsBelow}
use Rattle.rv_reference.proofs.monitor.Monitor.rows.Given as goal

abbrev pub invariant-loop-row : goal.invariant-loop-row
invariant-loop-row l = RowsBelow l.self l.letters l.row l.set
