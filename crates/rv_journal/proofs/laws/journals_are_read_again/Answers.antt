use Rattle.rv_journal.proofs.JournalLineLemmas.{journals-again, one-journal}
use Rattle.rv_journal.proofs.laws.journals_are_read_again.Goals as goal

pub returns-clause-lines : goal.returns-clause-lines
returns-clause-lines c = journals-again

pub returns-clause-one : goal.returns-clause-one
returns-clause-one c = one-journal
