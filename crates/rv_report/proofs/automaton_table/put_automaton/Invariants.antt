-- The first states.
use Rattle.std.proofs.Common.{◌≡◌, ◌++◌, flat_map}
use Rattle.rv_model.specs.Numbers.{list_of}
use Rattle.rv_report.specs.AutomatonTexts.{state_block}
use Rattle.rv_report.proofs.automaton_table.put_automaton.Given as goal

abbrev pub invariant-states : goal.invariant-states
invariant-states l = l.out ≡ l.initial.out ++ flat_map (state_block l.automaton) (list_of (λ i. i) l.state)
