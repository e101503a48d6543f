-- The rows are those of the automaton's table, which means the automaton.
use Rattle.std.proofs.Common.{◌≡◌, sym, subst, rules}
use Rattle.rv_model.specs.declared.formula.Spec.TheVariants.{Da}
use Rattle.rv_model.specs.Judging.{Means}
use Rattle.rv_model.specs.Table.{Table, of_events, table_of}
use Rattle.rv_model.specs.WellFormed.{IsAutomaton}
use Rattle.rv_model.proofs.MeansLemmas.{table_means}
use Rattle.rv_model.specs.Table.{event_rows}
use Rattle.rv_table.specs.Rows.{IsEventRows}
use Rattle.rv_table.proofs.BuildLemmas.{event_rows-in_range}
use Rattle.rv_table.proofs.table.Table.from_automaton.Goals as goal

pub invariant_of-result : goal.invariant_of-result
invariant_of-result c =
    let k : IsAutomaton c.args.automaton.now = subst IsAutomaton c.automaton.view_is c.automaton.invariant in
    let e : c.in_ok-rows.rows.items ≡ event_rows c.args.automaton.now = c.in_ok-rows.ensures in
    subst IsEventRows (sym e) (event_rows-in_range c.args.automaton.now k)

pub returns-clause-means : goal.returns-clause-means
returns-clause-means c =
    let k : IsAutomaton c.args.automaton.now = subst IsAutomaton c.automaton.view_is c.automaton.invariant in
    let e : of_events c.len-count.result c.in_ok-rows.rows.items ≡ table_of c.args.automaton.now = search rules in
    let P : Table → Type 0 = λ t. Means t (Da c.args.automaton.now) in
    subst P (sym e) (table_means c.args.automaton.now k)
