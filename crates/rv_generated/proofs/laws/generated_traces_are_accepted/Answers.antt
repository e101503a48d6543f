use Rattle.rv_generated.proofs.AcceptedLemmas.{trace-accepted}
use Rattle.rv_generated.proofs.laws.generated_traces_are_accepted.Goals as goal

pub returns : goal.returns
returns c = trace-accepted
