use Rattle.std.proofs.Common.{length, get_or}
use Rattle.rv_model.specs.declared.hit.Letter.TheVariants.{Event}
use Rattle.rv_reference.specs.Monitors.{table_by}
use Rattle.rv_reference.proofs.RowLemmas.{NoRowBefore}
use Rattle.rv_reference.proofs.monitor.Monitor.+leads_to.Given as goal

abbrev pub decreases-leads_to : goal.decreases-leads_to
decreases-leads_to l = length l.letters.now

abbrev pub invariant-loop-next : goal.invariant-loop-next
invariant-loop-next l = NoRowBefore (table_by l.self) l.from (get_or l.letters 0 (Event 0)) l.rest l.row l.next
