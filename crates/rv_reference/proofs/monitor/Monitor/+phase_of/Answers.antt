use Rattle.rv_reference.proofs.PhaseLemmas.{phase-next}
use Rattle.rv_reference.proofs.monitor.Monitor.+phase_of.Goals as goal

pub returns-in_ok-phase-in-len1-up : goal.returns-in_ok-phase-in-len1-up
returns-in_ok-phase-in-len1-up t c = phase-next c.args.self.now c.args.history.now _ c.args.slot c.in_ok-phase-in-len1-up.phase c.phase_after.result c.in-len1-up.len_at_least c.in_ok-phase-in-len1-up.ensures c.phase_after.ensures
