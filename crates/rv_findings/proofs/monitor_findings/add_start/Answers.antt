-- The text is the one that is told.
use Rattle.std.proofs.lemmas.Result.{on_ok_weaker}
use Rattle.rv_findings.specs.MonitorFindings.{start_findings}
use Rattle.rv_findings.proofs.FoundLemmas.{found_text}
use Rattle.rv_findings.proofs.monitor_findings.add_start.Goals as goal

pub returns-in_ok-text-in-None : goal.returns-in_ok-text-in-None
unfolding start_findings
returns-in_ok-text-in-None c = rw c.in-None.is (on_ok_weaker c.add.result (λ last. found_text _ _ _ _ _ last c.in_ok-text-in-None.ensures) c.add.ensures)
