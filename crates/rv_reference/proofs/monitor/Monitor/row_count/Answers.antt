use Rattle.std.proofs.Common.{◌≡◌, ◌+◌, ap, subst, length, sym, ◌∙◌}
use Rattle.rv_model.specs.declared.formula.Spec.TheVariants.{Da}
use Rattle.rv_model.specs.Machine.{Machine}
use Rattle.rv_model.specs.WellFormed.{IsAutomaton}
use Rattle.rv_reference.specs.Monitors.{table_from}
use Rattle.rv_reference.specs.inner.PlainParts.{BelowCount}
use Rattle.rv_reference.proofs.EntryLemmas.{automaton-below}
use Rattle.rv_reference.proofs.monitor.Monitor.row_count.Goals as goal

pub returns-in-Da : goal.returns-in-Da
returns-in-Da c =
    let a = c.in-Da.automaton in
    let well : IsAutomaton a = subst IsAutomaton c.automaton.view_is c.automaton.invariant in
    let count : length a.states + 1 ≡ c.len.result + 1 = ap (λ n. n + 1) (sym (c.len.ensures ∙ ap (λ (m : Machine). length m.states) c.automaton.view_is)) in
    subst (λ s. BelowCount (table_from s c.args.self.now.nodes.items) (c.len.result + 1)) (sym c.in-Da.is) (subst (λ n. BelowCount (table_from (Da a) c.args.self.now.nodes.items) n) count (automaton-below a well))
