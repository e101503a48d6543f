use Rattle.rv_tool.proofs.JournalLemmas.{printed_is_yes, printed_is_judged_yes}
use Rattle.rv_tool.proofs.laws.check_says_yes.Goals as goal

pub returns-clause-input : goal.returns-clause-input
returns-clause-input c = printed_is_yes

pub returns-clause-calls : goal.returns-clause-calls
returns-clause-calls c = printed_is_judged_yes
