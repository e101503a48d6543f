use Rattle.std.proofs.Common.{arith}
use Rattle.rv_bind.proofs.ChangeLemmas.{event_of-reads}
use Rattle.rv_bind.proofs.changes.event_of.Goals as goal

pub returns-in-len1 : goal.returns-in-len1
returns-in-len1 c = event_of-reads c.args.automaton.now.events c.args.words.now _ c.event_named.result (omega arith) (omega arith) c.event_named.ensures
