use Rattle.rv_laws.proofs.ExitLemmas.{status_is_seen}
use Rattle.rv_laws.proofs.laws.status_is_seen.Goals as goal

pub returns : goal.returns
returns c = status_is_seen
