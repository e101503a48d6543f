-- The text is the one that is told.
use Rattle.std.proofs.Common.{refl}
use Rattle.std.proofs.lemmas.Result.{on_ok_weaker}
use Rattle.rv_findings.proofs.FoundLemmas.{found_said}
use Rattle.rv_findings.proofs.trace_findings.add_empty.Goals as goal

pub returns : goal.returns
returns c = on_ok_weaker c.add_if.result (λ last. found_said _ _ _ _ _ _ _ last refl c.in_ok-text.ensures) c.add_if.ensures
