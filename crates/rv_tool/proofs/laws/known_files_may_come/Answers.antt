use Rattle.rv_tool.proofs.KnownFilesLemmas.{accepted_formed, known_may_come}
use Rattle.rv_tool.proofs.laws.known_files_may_come.Goals as goal

pub returns-clause-formed : goal.returns-clause-formed
returns-clause-formed c = accepted_formed

pub returns-clause-come : goal.returns-clause-come
returns-clause-come c = known_may_come
