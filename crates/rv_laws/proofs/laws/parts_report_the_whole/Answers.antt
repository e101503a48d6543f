use Rattle.rv_laws.proofs.JoinedReportLemmas.{part_says_its_own, report_is_joined, status_is_joined}
use Rattle.rv_laws.proofs.laws.parts_report_the_whole.Goals as goal

pub returns-clause-said : goal.returns-clause-said
returns-clause-said c = part_says_its_own

pub returns-clause-text : goal.returns-clause-text
returns-clause-text c = report_is_joined

pub returns-clause-status : goal.returns-clause-status
returns-clause-status c = status_is_joined
