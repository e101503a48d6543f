use Rattle.rv_reference.proofs.PhaseLemmas.{rows-begin, rows-step}
use Rattle.rv_reference.proofs.monitor.Monitor.rows.Goals as goal

pub loop-row-init : goal.loop-row-init
loop-row-init c = rows-begin c.args.self.now c.args.letters.now

pub loop-row-preserved : goal.loop-row-preserved
loop-row-preserved c = rows-step c.args.self.now c.args.letters.now c.loop-row.row c.loop-row.set c.reaches.result c.with_bit-set.result c.loop-row.invariant c.reaches.ensures c.with_bit-set.ensures
