-- The text is the one that is told.
use Rattle.std.proofs.lemmas.Result.{on_ok_weaker}
use Rattle.rv_findings.proofs.FoundLemmas.{found_text}
use Rattle.rv_findings.proofs.trace_findings.add_returns.Goals as goal

pub returns-in_ok-text-in-Some : goal.returns-in_ok-text-in-Some
returns-in_ok-text-in-Some c = rw c.in-Some.is (on_ok_weaker c.add.result (λ last. found_text _ _ _ _ _ last c.in_ok-text-in-Some.ensures) c.add.ensures)
