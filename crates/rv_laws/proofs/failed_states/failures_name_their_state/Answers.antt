use Rattle.rv_laws.proofs.FailedStateLemmas.{failure_names_its_state}
use Rattle.rv_laws.proofs.failed_states.failures_name_their_state.Goals as goal

pub returns : goal.returns
returns c = failure_names_its_state
