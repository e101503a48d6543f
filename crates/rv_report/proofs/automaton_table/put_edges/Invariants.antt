-- The lines so far and those that are to come are the whole.
use Rattle.std.proofs.Common.{◌≡◌, ◌++◌, flat_map, drop}
use Rattle.rv_report.specs.AutomatonTexts.{leaving_line}
use Rattle.rv_report.proofs.automaton_table.put_edges.Given as goal

abbrev pub invariant-edges : goal.invariant-edges
invariant-edges l = l.out ++ flat_map (leaving_line l.events l.state) (drop l.edge-index l.edges) ≡ l.initial.out ++ flat_map (leaving_line l.events l.state) l.edges
