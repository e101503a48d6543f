-- No text has two verdicts.
use Rattle.rv_check.proofs.VerdictLemmas.{one-verdict}
use Rattle.rv_check.proofs.reading.one_verdict.Goals as goal

pub returns : goal.returns
returns c = one-verdict
