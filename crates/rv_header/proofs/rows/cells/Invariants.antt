use Rattle.std.proofs.Common.{◌≡◌, ◌-◌, ◌++◌, drop, length, map, ℕ, List}
use Rattle.std.specs.List.{enumerate_from}
use Rattle.rv_header.specs.HeaderText.{target_of, cell_text, cells}
use Rattle.rv_header.proofs.rows.cells.Given as goal

abbrev pub invariant-events : goal.invariant-events
invariant-events l = l.row ++ map (λ (event : ℕ × List ℕ). cell_text l.name l.automaton.states (target_of l.automaton.edges l.from event.0)) (enumerate_from l.event (drop l.event l.automaton.events)) ≡ cells l.name l.automaton l.from

abbrev pub decreases-events : goal.decreases-events
decreases-events l = length l.automaton.events - l.event
