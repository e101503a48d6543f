use Rattle.std.proofs.Common.{◌≡◌, ◌↔◌, Some, sym, subst, ◌∙◌}
use Rattle.std.specs.Prelude.{Option}
use Rattle.rv_model.specs.declared.reactor.Reactor.{Reactor}
use Rattle.rv_model.specs.Reactors.{reactor_name}
use Rattle.rv_model.proofs.ReactorLemmas.{named_each}
use Rattle.rv_model.proofs.reactor.Reactor.from_name.Goals as goal

pub returns-clause-value : goal.returns-clause-value
returns-clause-value c = c.copied.ensures ∙ c.named.ensures

pub returns-clause-each : goal.returns-clause-each
returns-clause-each c = λ reactor. subst (λ (found : Option Reactor). (found ≡ Some reactor) ↔ (c.args.name.now ≡ reactor_name reactor)) (sym (c.copied.ensures ∙ c.named.ensures)) (named_each c.args.name.now reactor)
