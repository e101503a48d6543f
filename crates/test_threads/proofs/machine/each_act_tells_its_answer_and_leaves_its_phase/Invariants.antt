use Rattle.std.proofs.Common.{◌≡◌, ◌<◌, sum}
use Rattle.rv_model.specs.inner.EventTables.{event_count}
use Rattle.rv_core.specs.Setup.{table_at}
use Rattle.test_threads.proofs.machine.each_act_tells_its_answer_and_leaves_its_phase.Given as goal

abbrev pub invariant-loop-step : goal.invariant-loop-step
invariant-loop-step g l = (0 < sum l.core.setup.shape) × (event_count (table_at l.core.setup 0) ≡ 3)
