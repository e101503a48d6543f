use Rattle.rv_findings.proofs.WatchedLemmas.{all_is_watched, clean_is_watched}
use Rattle.rv_findings.proofs.laws.all_is_watched.Goals as goal

pub returns-clause-none : goal.returns-clause-none
returns-clause-none c = all_is_watched

pub returns-clause-status : goal.returns-clause-status
returns-clause-status c = clean_is_watched
