use Rattle.rv_bind.proofs.KnownLemmas.{bound_known}
use Rattle.rv_bind.proofs.laws.known_files_may_come.Goals as goal

pub returns : goal.returns
returns c = bound_known
