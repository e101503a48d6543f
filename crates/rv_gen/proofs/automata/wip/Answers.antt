use Rattle.std.proofs.Common.{◌∙◌}
use Rattle.rv_gen.proofs.AutomatonLemmas.{wip_made, same_three}
use Rattle.rv_gen.proofs.automata.wip.Goals as goal

pub invariant_of-result : goal.invariant_of-result
invariant_of-result c = wip_made c.in_ok-states.states c.in_ok-events.events c.in_ok-edges.edges.items c.in_ok-states.ensures c.in_ok-events.ensures (c.in_ok-edges.ensures ∙ same_three c.edge.ensures c.edge-2.ensures c.edge-3.ensures)
