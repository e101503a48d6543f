-- The text is the one that is told.
use Rattle.std.proofs.lemmas.Result.{on_ok_weaker}
use Rattle.rv_findings.specs.MonitorFindings.{react_findings}
use Rattle.rv_findings.proofs.FoundLemmas.{found_said}
use Rattle.rv_findings.proofs.monitor_findings.add_react.Goals as goal

pub returns : goal.returns
unfolding react_findings
returns c = on_ok_weaker c.add_if.result (λ last. found_said _ _ _ _ _ _ _ last c.is_nothing.ensures c.in_ok-text.ensures) c.add_if.ensures
