use Rattle.std.proofs.Common.{take}
use Rattle.std.specs.Prelude.{All}
use Rattle.rv_route.specs.Events.{IsEventOf, HasEvent}
use Rattle.rv_route.proofs.index.index_of.Given as goal

abbrev pub invariant-loop-rule : goal.invariant-loop-rule
invariant-loop-rule l = All (λ event. IsEventOf l.rules event.name event) l.index × All (λ rule. HasEvent l.index rule.event) (take l.rule-index l.rules)
