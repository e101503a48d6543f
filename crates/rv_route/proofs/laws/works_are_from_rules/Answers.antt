use Rattle.rv_route.proofs.RuleLemmas.{from_rules}
use Rattle.rv_route.proofs.laws.works_are_from_rules.Goals as goal

pub returns : goal.returns
returns c = from_rules
