use Rattle.std.proofs.Common.{rules}
use Rattle.rv_bind.specs.BoundViews.{bound_value}
use Rattle.rv_bind.proofs.WellFormedLemmas.{container_formed}
use Rattle.rv_bind.proofs.bindings.Bound.add_container.Goals as goal

pub returns-clause-container : goal.returns-clause-container
returns-clause-container c = search rules

pub returns-clause-formed : goal.returns-clause-formed
returns-clause-formed c = container_formed (bound_value c.args.self.now) c.args.name.now c.requires.formed c.requires.named _ (returns-clause-container c)
