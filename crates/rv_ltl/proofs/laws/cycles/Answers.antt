use Rattle.rv_ltl.proofs.Endless.{endless_cyclic, cyclic_endless}
use Rattle.rv_ltl.proofs.laws.cycles.Goals as goal

pub returns : goal.returns
returns c ds = (λ h. endless_cyclic ds h, λ h. cyclic_endless ds h)
