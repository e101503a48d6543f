use Rattle.std.proofs.Common.{◌≡◌, ◌-◌, ◌++◌, drop, length, ℕ, List}
use Rattle.std.specs.List.{enumerate_from, flat_map}
use Rattle.rv_header.specs.HeaderText.{row_text, cells, function_text}
use Rattle.rv_header.proofs.rows.put_rows.Given as goal

abbrev pub invariant-states : goal.invariant-states
invariant-states l = l.out ++ flat_map (λ (state : ℕ × List ℕ). row_text (cells l.name l.automaton state.0)) (enumerate_from l.from (drop l.from l.automaton.states)) ≡ l.initial.out ++ function_text l.name l.automaton

abbrev pub decreases-states : goal.decreases-states
decreases-states l = length l.automaton.states - l.from
